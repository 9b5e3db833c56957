-- What the calls that take a turn do.
use Rattle.std.specs.Prelude.{◌≡◌, ◌≤◌, ℕ, List, [], ◌∷◌, ◌++◌, length, true, false, Option, Some, None, IfSome, Result, Ok, Err, ◌⊎◌}
use Rattle.std.specs.List.{All}
use mathlib.Core.List.{IsPrefix}
use Rattle.pl_turn.specs.Passes.{seen_of, mine_of, counted_of, crew_of}
use Rattle.rand_pcg.specs.Lcg.{Lcg}
use Rattle.pl_marks.specs.declared.author.Author.{Author}
use Rattle.pl_marks.specs.declared.author.Author.TheVariants.{Feeder}
use Rattle.pl_entry.specs.declared.event.Event.{Event}
use Rattle.pl_entry.specs.declared.event.Event.TheVariants as event
use Rattle.pl_entry.specs.declared.reply.Reply.{Reply}
use Rattle.pl_entry.specs.declared.reply.Reply.TheVariants as reply
use Rattle.pl_entry.specs.declared.entry.Entry.{Entry}
use Rattle.pl_cand.specs.Proposals.{IsProposal}
use Rattle.pl_choose.specs.Picks.{seeded_pick, seeded_after}
use Rattle.pl_machine.specs.declared.stop.Stop.{Stop}
use Rattle.pl_machine.specs.declared.stop.Stop.TheVariants as stop
use Rattle.pl_machine.specs.World.{reason_of}
use Rattle.pl_machine.specs.Mending.{is_repairing}
use Rattle.pl_acts.specs.declared.noted.Noted.{Noted}
use Rattle.pl_acts.specs.declared.noted.Noted.TheVariants.{Made, Stopped}
use Rattle.pl_acts.specs.declared.role.Role.{Role}
use Rattle.pl_acts.specs.declared.role.Role.TheVariants.{Planner}
use Rattle.pl_acts.specs.declared.role.Acted.{Acted}
use Rattle.pl_acts.specs.declared.role.Acted.TheVariants as acted
use Rattle.pl_acts.specs.declared.draft.Draft.{Draft}
use Rattle.pl_acts.specs.declared.look.Looked.{Looked}
use Rattle.pl_acts.specs.declared.look.Looked.TheVariants as looked
use Rattle.pl_acts.specs.declared.sight.Sight.{Sight}
use Rattle.pl_acts.specs.declared.sight.View.{View}
use Rattle.pl_acts.specs.declared.sight.View.TheVariants as view
use Rattle.pl_acts.specs.Items.{model_in, signer_in, stop_in, InWorld}
use Rattle.pl_acts.specs.Roles.{worker_of, has_event, IsInputOf, kind_of, is_entry}
use Rattle.pl_acts.specs.Replicas.{IsReplicaOf, IsDraftOf}
use Rattle.pl_acts.specs.Sights.{AsksIn, HasRoomIn, IsSight, IsDueBy, IsKept, IsAskedAtMost}
use Rattle.pl_acts.specs.Inside.{IsStepIn, RestsAtOnce, can_listen}
use Rattle.pl_acts.specs.Making.{MakesAll}
use Rattle.pl_acts.specs.Seen.{IsFull, IsOver, WasAskedAtMost}
use Rattle.pl_locked.specs.Plans.{PlanPass}

-- What the pass has seen goes on, and is no shorter than any length that it was told.
pub record TakesTurn (old new : PlanPass) : Type 0 where
  pub longer : IsPrefix (seen_of old) (seen_of new)
  pub model : model_in (seen_of new) ≡ model_in (seen_of old)
  pub counted : counted_of old ≤ length (seen_of new)
  pub same_counted : counted_of new ≡ counted_of old
  pub crew : crew_of new ≡ crew_of old

-- The call made the entry of this number, as this author's, the last that the pass has seen, and its newest own one.
pub record Makes (By : List Noted → Entry → Type 0) (author : Author) (old new : PlanPass) (number : ℕ) : Type 0 where
  pub between : List Noted
  pub entry : Entry
  pub seen : seen_of new ≡ (seen_of old ++ between) ++ Made (Some author) entry ∷ []
  pub place : number ≡ length (seen_of old ++ between)
  pub mine : mine_of new ≡ mine_of old ++ (number, Made (Some author) entry) ∷ []
  pub running : stop_in (seen_of old ++ between) ≡ false
  pub step : InWorld (seen_of old ++ between) (λ w. IsStepIn w entry)
  pub by : By (seen_of old ++ between) entry

abbrev pub MakesNothing : PlanPass → PlanPass → Type 0
MakesNothing old new = mine_of new ≡ mine_of old

-- NotNow and LogFull come in this order, exactly by their causes.
abbrev pub Feeds : Option (List ℕ) → PlanPass → Result ℕ Stop → PlanPass → Type 0
Feeds line old (Ok number) new = Makes (λ before e. InWorld before (λ w. IsInputOf line w e)) Feeder old new number
Feeds line old (Err stop.NotNow) new = MakesNothing old new × InWorld (seen_of new) (λ w. can_listen w (stop_in (seen_of new)) ≡ false)
Feeds line old (Err stop.LogFull) new = MakesNothing old new × InWorld (seen_of new) (λ w. can_listen w (stop_in (seen_of new)) ≡ true) × IsFull (seen_of new)
Feeds line old (Err stop.Spoiled) new = MakesNothing old new
Feeds line old (Err stop.Memory) new = MakesNothing old new

-- how much the pass has seen
abbrev pub low_of : PlanPass → ℕ
low_of pass = length (seen_of pass)

-- Finished, Stopped, Nothing and LogFull come in this order, exactly by their causes. Behind a sight a planner's chooser has been asked, whatever the answer.
abbrev pub Acts : Author → Role → PlanPass → Result Acted Stop → Role → PlanPass → Type 0
Acts by r old (Ok (acted.Did number)) r2 new = Makes (IsDueBy r r2 (low_of old)) by old new number
Acts by r old (Ok acted.Nothing) r2 new = MakesNothing old new × InWorld (seen_of new) (λ w. (w.done ≡ false) × (has_event r w ≡ false)) × (stop_in (seen_of new) ≡ false) × IsKept r (low_of old) (seen_of new) r2
Acts by r old (Ok acted.Finished) r2 new = MakesNothing old new × InWorld (seen_of new) (λ w. w.done ≡ true) × IsKept r (low_of old) (seen_of new) r2
Acts by r old (Ok acted.Stopped) r2 new = MakesNothing old new × InWorld (seen_of new) (λ w. w.done ≡ false) × (stop_in (seen_of new) ≡ true) × IsKept r (low_of old) (seen_of new) r2
Acts by r old (Err stop.Spoiled) r2 new = MakesNothing old new × IsAskedAtMost r (low_of old) (seen_of new) r2
Acts by r old (Err stop.NotNow) r2 new = ⊥
Acts by r old (Err stop.LogFull) r2 new = MakesNothing old new × InWorld (seen_of new) (λ w. (w.done ≡ false) × (has_event r w ≡ true)) × (stop_in (seen_of new) ≡ false) × IsFull (seen_of new) × IsKept r (low_of old) (seen_of new) r2
Acts by r old (Err stop.Memory) r2 new = MakesNothing old new × IsAskedAtMost r (low_of old) (seen_of new) r2

-- ---- the two halves of a planner's act

-- A replica was lent to be asked about: repair goes on, and the log has room.
abbrev pub Lends : PlanPass → Draft → PlanPass → Type 0
Lends old draft new = MakesNothing old new × InWorld (seen_of new) AsksIn × HasRoomIn (seen_of new) × IsDraftOf (seen_of new) draft

-- A planner's first turn: its act, if it is over with it, or a replica to be asked about.
abbrev pub Looks : Author → Lcg → PlanPass → Result Looked Stop → Lcg → PlanPass → Type 0
Looks by g old (Ok (looked.Settled a)) g2 new = Acts by (Planner g) old (Ok a) (Planner g2) new
Looks by g old (Ok (looked.Open draft)) g2 new = Lends old draft new × (g2 ≡ g)
Looks by g old (Err s) g2 new = Acts by (Planner g) old (Err s) (Planner g2) new

-- The same of a planner's first turn, where its act takes two: the chooser is not asked in it, and an entry that it makes is a rest for a plain reason.
abbrev pub LookRests : Author → Lcg → PlanPass → Result Looked Stop → Lcg → PlanPass → Type 0
LookRests by g old (Ok (looked.Settled (acted.Did number))) g2 new = Makes (λ before e. InWorld before (λ w. RestsAtOnce w e)) by old new number × (g2 ≡ g)
LookRests by g old a g2 new = g2 ≡ g

-- The chooser was asked in the world after all that the pass has seen behind the call, and has drawn its words once.
pub record Sees (r : Role) (old new : PlanPass) (sight : Sight) (r2 : Role) : Type 0 where
  pub before : Lcg
  pub is : r ≡ Planner before
  pub drew : r2 ≡ Planner (seeded_after before)
  pub nothing : MakesNothing old new
  pub sees : IsSight before (low_of old) (seen_of new) sight.proposal
  pub whole : sees.look.front ≡ seen_of new
  pub seen : sight.seen ≡ length (seen_of new)
  pub replica : IfSome sight.replica (IsReplicaOf (seen_of new))

-- What a call that settles asks for: the proposal is a legal candidate in the world after the first `seen` items, or there was none. A
-- replica that comes with it is one of the plan.
pub record CanSettle (seen : List Noted) (sight : Sight) : Type 0 where
  pub front : List Noted
  pub on : IsPrefix front seen
  pub long : length front ≡ sight.seen
  pub legal : InWorld front (λ w. IsProposal w.state sight.proposal)
  pub replica : IfSome sight.replica (IsReplicaOf seen)

-- A view is the executive's act, an act of a planner that is over at once, or a sight.
abbrev pub Views : Author → Role → PlanPass → Result View Stop → Role → PlanPass → Type 0
Views by r old (Ok (view.Settled a)) r2 new = Acts by r old (Ok a) r2 new
Views by r old (Ok (view.Copy sight)) r2 new = Sees r old new sight r2
Views by r old (Err s) r2 new = Acts by r old (Err s) r2 new

-- An entry that a planner's view makes is a rest for a plain reason. Its chooser is asked for a sight alone; where memory was wanting, it may have been asked for one.
abbrev pub ViewRests : Author → Role → PlanPass → Result View Stop → Role → PlanPass → Type 0
ViewRests by (Planner g) old (Ok (view.Settled (acted.Did number))) r2 new = Makes (λ before e. InWorld before (λ w. RestsAtOnce w e)) by old new number × (r2 ≡ Planner g)
ViewRests by (Planner g) old (Ok (view.Settled a)) r2 new = r2 ≡ Planner g
ViewRests by (Planner g) old (Err stop.LogFull) r2 new = r2 ≡ Planner g
ViewRests by (Planner g) old (Err stop.Spoiled) r2 new = r2 ≡ Planner g
ViewRests by r old a r2 new = Unit {0}

-- A fix is the sight's, and made if the sight was the whole history; or, without a proposal, the one that the chooser proposes in the
-- world before, which is made. Repair rests where the turns are spent, or where there was no proposal.
abbrev pub IsSettled : Lcg → Sight → Lcg → List Noted → Event → Reply → Type 0
IsSettled g sight g2 before (event.Fix k m) answer =
    ((sight.proposal ≡ Some (record { conflict = k; mv = m })) × (length before ≡ sight.seen → answer ≡ reply.Done) × (g2 ≡ g))
    ⊎ ((sight.proposal ≡ None) × InWorld before (λ w. seeded_pick w.state g ≡ Some (record { conflict = k; mv = m })) × (answer ≡ reply.Done) × (g2 ≡ seeded_after g))
IsSettled g sight g2 before event.Rest answer = ((sight.proposal ≡ None) ⊎ InWorld before (λ w. w.turn ≡ w.options.turns)) × (g2 ≡ g)
IsSettled g sight g2 before _ answer = ⊥

-- Finished, Stopped, Nothing and LogFull come in this order, exactly by their causes, and leave the chooser as it was.
abbrev pub Settles : Author → Lcg → Sight → PlanPass → Result Acted Stop → Lcg → PlanPass → Type 0
Settles by g sight old (Ok (acted.Did number)) g2 new = Makes (λ before e. InWorld before (λ w. (w.done ≡ false) × (is_repairing w ≡ true)) × IsSettled g sight g2 before e.event e.reply) by old new number
Settles by g sight old (Ok acted.Nothing) g2 new = MakesNothing old new × InWorld (seen_of new) (λ w. (w.done ≡ false) × (is_repairing w ≡ false)) × (stop_in (seen_of new) ≡ false) × (g2 ≡ g)
Settles by g sight old (Ok acted.Finished) g2 new = MakesNothing old new × InWorld (seen_of new) (λ w. w.done ≡ true) × (g2 ≡ g)
Settles by g sight old (Ok acted.Stopped) g2 new = MakesNothing old new × InWorld (seen_of new) (λ w. w.done ≡ false) × (stop_in (seen_of new) ≡ true) × (g2 ≡ g)
Settles by g sight old (Err stop.Spoiled) g2 new = MakesNothing old new × (g2 ≡ g)
Settles by g sight old (Err stop.NotNow) g2 new = ⊥
Settles by g sight old (Err stop.LogFull) g2 new = MakesNothing old new × InWorld (seen_of new) (λ w. (w.done ≡ false) × (is_repairing w ≡ true)) × (stop_in (seen_of new) ≡ false) × IsFull (seen_of new) × (g2 ≡ g)
Settles by g sight old (Err stop.Memory) g2 new = MakesNothing old new × ((g2 ≡ g) ⊎ ((sight.proposal ≡ None) × InWorld (seen_of new) (λ w. (is_repairing w ≡ true) × (reason_of w ≡ None)) × (g2 ≡ seeded_after g)))

abbrev pub SettlesAs : Author → Role → Sight → PlanPass → Result Acted Stop → Role → PlanPass → Type 0
SettlesAs by (Planner g) sight old a (Planner g2) new = Settles by g sight old a g2 new
SettlesAs by _ sight old a r2 new = ⊥

-- The plan is stopped. Where it was not yet, the stop is this author's, the pass's newest own item, and the last that it has seen.
pub data Stops (author : Author) (old new : PlanPass) : Type 0 where
  was_stopped : mine_of new ≡ mine_of old → stop_in (seen_of new) ≡ true → Stops author old new
  is_stopped : (seen : List Noted) → IsPrefix (seen_of old) seen → stop_in seen ≡ false → seen_of new ≡ seen ++ Stopped author ∷ []
      → mine_of new ≡ mine_of old ++ (length seen, Stopped author) ∷ [] → Stops author old new

-- The pass's new own entries, in order: each is what the role makes in the world before it, of the kind of the role, and this author's. `r2` is the role behind them.
pub record Works (author : Author) (r : Role) (old : PlanPass) (count : ℕ) (r2 : Role) (new : PlanPass) : Type 0 where
  pub own : List (ℕ × Noted)
  pub mine : mine_of new ≡ mine_of old ++ own
  pub counts : length own ≡ count
  pub made : MakesAll r (low_of old) (seen_of new) own r2
  pub kinds : All (λ x. is_entry (kind_of r) x.1 ≡ true) own
  pub signed : All (λ x. signer_in x.1 ≡ Some author) own
  pub worker : worker_of r2 ≡ worker_of r

-- The same, and then this author's stop where the plan was not stopped yet.
pub record WorksUntil (author : Author) (r : Role) (old : PlanPass) (r2 : Role) (new : PlanPass) : Type 0 where
  pub own : List (ℕ × Noted)
  pub rest : List (ℕ × Noted)
  pub mine : mine_of new ≡ (mine_of old ++ own) ++ rest
  pub made : MakesAll r (low_of old) (seen_of new) own r2
  pub kinds : All (λ x. is_entry (kind_of r) x.1 ≡ true) own
  pub signed : All (λ x. signer_in x.1 ≡ Some author) own
  pub behind : (rest ≡ []) ⊎ ((place : ℕ) × (rest ≡ (place, Stopped author) ∷ []))
  pub stopped : stop_in (seen_of new) ≡ true
  pub worker : worker_of r2 ≡ worker_of r

-- A count comes only where the plan is over. A refusal stops the plan, and none is NotNow. Where the log is full the round is open, and the role has an event in it. Behind want of memory, and a machine that it spoiled, the chooser may have
-- been asked for an entry that was not made.
abbrev pub WorksOn : Author → Role → PlanPass → Result ℕ Stop → Role → PlanPass → Type 0
WorksOn by r old (Ok count) r2 new = Works by r old count r2 new × IsOver (seen_of new)
WorksOn by r old (Err stop.NotNow) r2 new = ⊥
WorksOn by r old (Err stop.LogFull) r2 new = WorksUntil by r old r2 new × IsFull (seen_of new) × InWorld (seen_of new) (λ w. (w.closed ≡ false) × (w.done ≡ false) × (has_event r2 w ≡ true))
WorksOn by r old (Err stop.Spoiled) r2 new = (last : Role) × (works : WorksUntil by r old last new) × WasAskedAtMost last works.own (seen_of new) r2
WorksOn by r old (Err stop.Memory) r2 new = (last : Role) × (works : WorksUntil by r old last new) × WasAskedAtMost last works.own (seen_of new) r2
