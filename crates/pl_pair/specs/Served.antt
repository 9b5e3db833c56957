-- What a worker hands back.
use Rattle.std.specs.Prelude.{◌≡◌, ◌≤◌, ◌++◌, ℕ, List, [], ◌∷◌, length, Bool, true, false, Option, Some, None, ◌⊎◌, ⊤}
use Rattle.std.specs.List.{All}
use Rattle.pl_turn.specs.Passes.{seen_of, mine_of}
use Rattle.pl_marks.specs.declared.author.Author.{Author}
use Rattle.pl_marks.specs.Authors.{IsAuthor}
use Rattle.pl_entry.specs.declared.event.Event.{Event}
use Rattle.pl_machine.specs.declared.stop.Stop.{Stop}
use Rattle.pl_machine.specs.declared.stop.Stop.TheVariants as stop
use Rattle.pl_acts.specs.declared.noted.Noted.{Noted}
use Rattle.pl_acts.specs.declared.noted.Noted.TheVariants.{Stopped}
use Rattle.pl_locked.specs.declared.plan.SharedPlan.{SharedPlan}
use Rattle.pl_acts.specs.declared.role.Role.{Role}
use Rattle.pl_acts.specs.Items.{signer_in, stop_in, InWorld}
use Rattle.pl_acts.specs.Roles.{worker_of, has_event, is_entry}
use Rattle.pl_locked.specs.Plans.{PlanPass, BelongsTo}
use Rattle.pl_acts.specs.Making.{MakesAll}
use Rattle.pl_acts.specs.Seen.{IsFull}
use Rattle.pl_pair.specs.declared.duty.Duty.{Duty}
use Rattle.pl_pair.specs.declared.worker.Worker.{Worker}
use Rattle.pl_pair.specs.Duties.{role_of, begun_of, author_of}

-- each own item carries this author's name
abbrev pub AreSigned : Author → List (ℕ × Noted) → Type 0
AreSigned by own = All (λ x. signer_in x.1 ≡ Some by) own

-- somebody's
abbrev pub IsSomeones : List (ℕ × Noted) → Type 0
IsSomeones own = (by : Author) × AreSigned by own

-- nobody made these items
abbrev pub AreHandedIn : List Noted → Type 0
AreHandedIn items = All (λ i. signer_in i ≡ None) items

-- and the author is one that there can be
abbrev pub SignsOwn : Duty → List (ℕ × Noted) → Type 0
SignsOwn duty own = IsAuthor (author_of duty) × AreSigned (author_of duty) own

-- Own items, each an entry of this kind.
abbrev pub AreOf : (Event → Bool) → List (ℕ × Noted) → Type 0
AreOf test own = All (λ x. is_entry test x.1 ≡ true) own

-- nothing, or a stop
abbrev pub IsStopAtMost : List (ℕ × Noted) → Type 0
IsStopAtMost rest = (rest ≡ []) ⊎ ((place : ℕ) × (by : Author) × (rest ≡ (place, Stopped by) ∷ []))

-- Own items, each an entry of this kind, and a stop behind them where there is one.
pub record AreOfUntil (test : Event → Bool) (mine : List (ℕ × Noted)) : Type 0 where
  pub own : List (ℕ × Noted)
  pub rest : List (ℕ × Noted)
  pub whole : mine ≡ own ++ rest
  pub kinds : AreOf test own
  pub behind : IsStopAtMost rest

-- what a worker made: only one that met a refusal has stopped the plan
abbrev pub Made : Option Stop → (Event → Bool) → List (ℕ × Noted) → Type 0
Made None test mine = AreOf test mine
Made (Some s) test mine = AreOfUntil test mine

-- Own items, each the entry that a worker makes that began with this role and had seen `low` items then, and a stop behind them where there is one. `last` is its role behind them.
pub record MakesUntil (r : Role) (low : ℕ) (seen : List Noted) (mine : List (ℕ × Noted)) : Type 0 where
  pub own : List (ℕ × Noted)
  pub rest : List (ℕ × Noted)
  pub whole : mine ≡ own ++ rest
  pub last : Role
  pub made : MakesAll r low seen own last
  pub behind : IsStopAtMost rest

-- what a worker made that began with the role `r` and had seen `low` items then, entry by entry: only one that met a refusal has stopped the plan, and one that met none has come to the role `r2`
abbrev pub MakesOwn : Option Stop → Role → ℕ → List Noted → List (ℕ × Noted) → Role → Type 0
MakesOwn None r low seen mine r2 = MakesAll r low seen mine r2
MakesOwn (Some s) r low seen mine r2 = MakesUntil r low seen mine

-- as many entries as may be, in an open round in which the role has an event
abbrev pub IsFullRound : Role → List Noted → Type 0
IsFullRound r seen = IsFull seen × InWorld seen (λ w. (w.closed ≡ false) × (w.done ≡ false) × (has_event r w ≡ true))

-- why a worker of this role stopped the plan
abbrev pub Refused : Option Stop → Role → List Noted → Type 0
Refused None r seen = ⊤
Refused (Some stop.NotNow) r seen = ⊥
Refused (Some stop.LogFull) r seen = IsFullRound r seen
Refused (Some stop.Spoiled) r seen = ⊤
Refused (Some stop.Memory) r seen = ⊤

-- a refusal stopped the plan
abbrev pub HasStopped : Option Stop → List Noted → Type 0
HasStopped None seen = ⊤
HasStopped (Some s) seen = stop_in seen ≡ true

-- A pass that has made nothing yet, and has seen as much as a worker of this duty is to have seen.
pub record IsHired (plan : SharedPlan) (duty : Duty) (pass : PlanPass) : Type 0 where
  pub own : BelongsTo plan pass
  pub new : mine_of pass ≡ []
  pub begun : begun_of duty ≤ length (seen_of pass)
  pub known : IsAuthor (author_of duty)

-- A worker of the plan and what it did, from the role on that it was hired for.
pub record IsServed (plan : SharedPlan) (w : Worker) : Type 0 where
  pub own : BelongsTo plan w.pass
  pub begun : begun_of w.duty ≤ length (seen_of w.pass)
  pub signed : SignsOwn w.duty (mine_of w.pass)
  pub made : MakesOwn w.refusal (role_of w.duty) (begun_of w.duty) (seen_of w.pass) (mine_of w.pass) w.role
  pub worker : worker_of w.role ≡ worker_of (role_of w.duty)
  pub why : Refused w.refusal w.role (seen_of w.pass)
  pub stopped : HasStopped w.refusal (seen_of w.pass)

-- The worker that was hired for this.
pub record IsWorker (plan : SharedPlan) (duty : Duty) (w : Worker) : Type 0 where
  pub served : IsServed plan w
  pub hired : w.duty ≡ duty
