-- What a planner saw before it acts: a front of the history, and what its chooser proposed in the world after it.
use Rattle.std.specs.Prelude.{◌≡◌, ◌<◌, ◌≤◌, ℕ, List, [], ◌∷◌, length, true, false, Option, Some, None, is_some, ◌⊎◌}
use mathlib.Core.List.{IsPrefix}
use Rattle.pl_entry.specs.declared.event.Event.{Event}
use Rattle.pl_entry.specs.declared.event.Event.TheVariants as event
use Rattle.pl_entry.specs.declared.reply.Reply.{Reply}
use Rattle.pl_entry.specs.declared.reply.Reply.TheVariants as reply
use Rattle.pl_entry.specs.declared.entry.Entry.{Entry}
use Rattle.rand_pcg.specs.Lcg.{Lcg}
use Rattle.pl_choose.specs.Picks.{seeded_pick, seeded_after}
use Rattle.pl_cand.specs.declared.proposal.Proposal.{Proposal}
use Rattle.pl_cand.specs.Proposals.{IsProposal}
use Rattle.pl_machine.specs.World.{World, plain_reason_of, reason_of}
use Rattle.pl_machine.specs.Choices.{exec_choice_of}
use Rattle.pl_machine.specs.Mending.{is_repairing}
use Rattle.pl_acts.specs.declared.noted.Noted.{Noted}
use Rattle.pl_acts.specs.declared.role.Role.{Role}
use Rattle.pl_acts.specs.declared.role.Role.TheVariants.{Planner, Executive}
use Rattle.pl_acts.specs.Items.{entries_in, stop_in, InWorld}
use Rattle.pl_acts.specs.Roles.{has_event, IsChosen}

-- repair goes on, and nothing but candidates can tell whether it is to rest
abbrev pub AsksIn : World → Type 0
AsksIn w = (w.done ≡ false) × (is_repairing w ≡ true) × (plain_reason_of w ≡ None)

-- fewer entries than the options allow
abbrev pub HasRoomIn : List Noted → Type 0
HasRoomIn items = InWorld items (λ w. length (entries_in items) < w.options.entries)

-- A planner looked at a front of this history that is at least so long. Repair went on there, and the log had room for what its
-- chooser proposes.
pub record HasLooked (low : ℕ) (items : List Noted) : Type 0 where
  pub front : List Noted
  pub on : IsPrefix front items
  pub late : low ≤ length front
  pub running : stop_in front ≡ false
  pub asks : InWorld front AsksIn
  pub room : HasRoomIn front

-- The chooser was asked there, and proposed this.
pub record IsSight (g : Lcg) (low : ℕ) (items : List Noted) (p : Option Proposal) : Type 0 where
  pub look : HasLooked low items
  pub picks : InWorld look.front (λ w. p ≡ seeded_pick w.state g)
  pub legal : InWorld look.front (λ w. IsProposal w.state p)

-- A fix is what the chooser proposed on its sight, and it is made if the sight was the whole history. Where nothing could be repaired
-- there, it is what the chooser, asked again, proposes in the world before, and it is made.
pub data IsFixed (g : Lcg) (low : ℕ) (before : List Noted) (p : Proposal) (answer : Reply) (g2 : Lcg) : Type 0 where
  as_seen : (sight : IsSight g low before (Some p)) → (length sight.look.front ≡ length before → answer ≡ reply.Done) → g2 ≡ seeded_after g → IsFixed g low before p answer g2
  asked_again : IsSight g low before None → InWorld before (λ w. seeded_pick w.state (seeded_after g) ≡ Some p) → answer ≡ reply.Done
      → g2 ≡ seeded_after (seeded_after g) → IsFixed g low before p answer g2

-- Repair rests at once for a plain reason, and the chooser is not asked. Behind a sight it rests where the turns are spent by now, or
-- where nothing could be repaired there.
pub data HasRested (g : Lcg) (low : ℕ) (before : List Noted) (g2 : Lcg) : Type 0 where
  at_once : InWorld before (λ w. is_some (plain_reason_of w) ≡ true) → g2 ≡ g → HasRested g low before g2
  behind : (p : Option Proposal) → IsSight g low before p → (p ≡ None) ⊎ InWorld before (λ w. w.turn ≡ w.options.turns) → g2 ≡ seeded_after g → HasRested g low before g2

-- what a planner makes behind these items, `low` of which it had seen before
abbrev pub IsPlanned : Lcg → ℕ → List Noted → Event → Reply → Lcg → Type 0
IsPlanned g low before (event.Fix k m) answer g2 = IsFixed g low before (record { conflict = k; mv = m }) answer g2
IsPlanned g low before event.Rest answer g2 = HasRested g low before g2
IsPlanned g low before _ answer g2 = ⊥

-- ---- an act that made nothing

-- there is nothing more to repair now: the plan was stopped, the input has ended, repair is over in this round, or the log is full
abbrev pub IsLate : List Noted → Type 0
IsLate items = (stop_in items ≡ true) ⊎ InWorld items (λ w. (w.done ≡ true) ⊎ (is_repairing w ≡ false) ⊎ (w.options.entries ≤ length (entries_in items)))

-- A sight that came to nothing, since it was too late when the planner's second turn came.
pub record IsLost (g : Lcg) (low : ℕ) (seen : List Noted) : Type 0 where
  pub proposal : Option Proposal
  pub behind : List Noted
  pub on : IsPrefix behind seen
  pub sight : IsSight g low behind proposal
  pub late : IsLate behind

-- the chooser is as it was, or has drawn its words once for a sight that was lost
abbrev pub IsKeptBy : Lcg → ℕ → List Noted → Lcg → Type 0
IsKeptBy g low seen g2 = (g2 ≡ g) ⊎ (IsLost g low seen × (g2 ≡ seeded_after g))

-- ---- of a role

-- an entry that the role makes behind these items, `low` of which it had seen before, and the role behind it
abbrev pub IsBy : Role → Role → ℕ → List Noted → Entry → Type 0
IsBy (Planner g) (Planner g2) low before e = IsPlanned g low before e.event e.reply g2
IsBy Executive Executive low before e = InWorld before (λ w. IsChosen (exec_choice_of w) e.event)
IsBy _ _ low before e = ⊥

-- the same, before the end of the input, where the role has an event
abbrev pub IsDueBy : Role → Role → ℕ → List Noted → Entry → Type 0
IsDueBy r r2 low before e = InWorld before (λ w. (w.done ≡ false) × (has_event r w ≡ true)) × IsBy r r2 low before e

-- a role that made nothing
abbrev pub IsKept : Role → ℕ → List Noted → Role → Type 0
IsKept (Planner g) low seen (Planner g2) = IsKeptBy g low seen g2
IsKept (Planner g) low seen Executive = ⊥
IsKept Executive low seen r2 = r2 ≡ Executive

-- the same again and again, with these roles in turn
abbrev pub IdlesBy : Role → ℕ → List Noted → List Role → Role → Type 0
IdlesBy r low seen [] r2 = r2 ≡ r
IdlesBy r low seen (mid ∷ mids) r2 = IsKept r low seen mid × IdlesBy mid low seen mids r2

-- the same any number of times
abbrev pub Idles : Role → ℕ → List Noted → Role → Type 0
Idles r low seen r2 = (mids : List Role) × IdlesBy r low seen mids r2

-- A role that made nothing because memory was wanting: its chooser may have been asked once after a look, and again if it proposed
-- nothing.
abbrev pub IsAskedAtMost : Role → ℕ → List Noted → Role → Type 0
IsAskedAtMost (Planner g) low seen (Planner g2) =
    (g2 ≡ g) ⊎ (HasLooked low seen × (g2 ≡ seeded_after g))
    ⊎ (IsSight g low seen None × InWorld seen (λ w. (is_repairing w ≡ true) × (reason_of w ≡ None)) × (g2 ≡ seeded_after (seeded_after g)))
IsAskedAtMost (Planner g) low seen Executive = ⊥
IsAskedAtMost Executive low seen r2 = r2 ≡ Executive
