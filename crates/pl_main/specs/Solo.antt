-- What one thread does. Where its chooser takes the least repair, each event is fixed by the world before it.
use Rattle.std.specs.Prelude.{◌≡◌, ℕ, List, [], ◌∷◌, true, false, if◌then◌else◌, Option, Some, None, IsSome}
use Rattle.std.specs.Option.{option_map}
use Rattle.pl_model.specs.declared.whole.Model.{Model}
use Rattle.pl_entry.specs.declared.event.Event.{Event}
use Rattle.pl_entry.specs.declared.event.Event.TheVariants as event
use Rattle.pl_entry.specs.declared.reply.Reason.{Reason}
use Rattle.pl_entry.specs.declared.entry.Entry.{Entry}
use Rattle.pl_cand.specs.declared.proposal.Proposal.{Proposal}
use Rattle.pl_cand.specs.Proposals.{IsProposal}
use Rattle.pl_choose.specs.Picks.{least_pick}
use Rattle.pl_machine.specs.declared.choice.Choice.TheVariants as choice
use Rattle.pl_machine.specs.Solo as machine
use Rattle.pl_machine.specs.World.{World, fresh_world, reason_of}
use Rattle.pl_machine.specs.Step.{after}
use Rattle.pl_machine.specs.Choices.{exec_choice_of, event_of}
use Rattle.pl_machine.specs.Legal.{options_of, entries_behind}

abbrev pub fix_of : Option Proposal → Option Event
fix_of None = None
fix_of (Some p) = Some (event.Fix p.conflict p.mv)

abbrev pub repair_event : Option Reason → Option Proposal → Option Event
repair_event (Some reason) pick = Some event.Rest
repair_event None pick = fix_of pick

-- the event that a world fixes, where it is not an input's turn
abbrev pub solo_event : World → Option Event
solo_event w = if w.rested then option_map event_of (exec_choice_of w) else repair_event (reason_of w) (least_pick w.state)

abbrev pub IsSoloEvent : World → Event → Type 0
IsSoloEvent w (event.Opened o) = solo_event w ≡ Some (event.Opened o)
IsSoloEvent w (event.Input line) = Unit {0}
IsSoloEvent w (event.Fix k m) = solo_event w ≡ Some (event.Fix k m)
IsSoloEvent w event.Rest = solo_event w ≡ Some event.Rest
IsSoloEvent w (event.Commit h) = solo_event w ≡ Some (event.Commit h)
IsSoloEvent w event.Dispatch = solo_event w ≡ Some event.Dispatch
IsSoloEvent w event.Close = solo_event w ≡ Some event.Close

-- ---- a rule: which events a world allows to one thread

abbrev pub Rule : Type 1
Rule = World → Event → Type 0

-- each entry has an event that the world before it allows
abbrev pub follows : Rule → World → List Entry → Type 0
follows R w [] = Unit {0}
follows R w (e ∷ es) = R w e.event × follows R (after w e.event) es

-- In a log, each entry behind the open one has an event that the world before it allows.
unfoldable pub FollowsAll : Rule → Model → List Entry → Type 0
FollowsAll R m log = follows R (fresh_world m (options_of log)) (entries_behind log)

-- Inputs are free, and whatever a chooser proposes, and the executive chooses, is allowed.
pub record IsRuleOf {C : Type 0} (picks : machine.Picks C) (R : Rule) : Type 0 where
  pub free : (w : World) (line : Option (List ℕ)) → R w (event.Input line)
  pub allows : (w : World) (c : C) (e : Event) (c2 : C) → machine.IsSoloEvent picks w c e c2 → R w e

-- ---- where the chooser takes the least repair

abbrev pub solo_from : World → List Entry → Type 0
solo_from w es = follows IsSoloEvent w es

-- each entry behind the open one is an input, or has the event that the world before it fixes
abbrev pub Solo : Model → List Entry → Type 0
Solo m log = FollowsAll IsSoloEvent m log

-- ---- where the chooser looks ahead

-- A repair that is a legal candidate of a conflict that stands, as long as there is no reason to rest; then a rest, and what the
-- executive chooses.
abbrev pub IsAheadEvent : World → Event → Type 0
IsAheadEvent w (event.Opened o) = ⊥
IsAheadEvent w (event.Input line) = Unit {0}
IsAheadEvent w (event.Fix k m) = (w.rested ≡ false) × (reason_of w ≡ None) × IsProposal w.state (Some (record { conflict = k; mv = m }))
IsAheadEvent w event.Rest = (w.rested ≡ false) × IsSome (reason_of w)
IsAheadEvent w (event.Commit h) = (w.rested ≡ true) × (exec_choice_of w ≡ Some (choice.Commit h))
IsAheadEvent w event.Dispatch = (w.rested ≡ true) × (exec_choice_of w ≡ Some choice.Dispatch)
IsAheadEvent w event.Close = (w.rested ≡ true) × (exec_choice_of w ≡ Some choice.Close)
