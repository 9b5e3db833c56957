-- What one thread does in an open round: repair as a chooser proposes until there is reason to rest, then what the executive chooses.
use Rattle.std.specs.Prelude.{◌≡◌, List, [], ◌∷◌, true, false, Option, Some, None, IsSome}
use Rattle.pl_model.specs.declared.whole.Model.{Model}
use Rattle.pl_entry.specs.declared.event.Event.{Event}
use Rattle.pl_entry.specs.declared.event.Event.TheVariants as event
use Rattle.pl_entry.specs.declared.entry.Entry.{Entry}
use Rattle.pl_semantics.specs.declared.plan_state.PlanState.{PlanState}
use Rattle.pl_cand.specs.declared.proposal.Proposal.{Proposal}
use Rattle.pl_machine.specs.declared.choice.Choice.TheVariants as choice
use Rattle.pl_machine.specs.World.{World, fresh_world, reason_of}
use Rattle.pl_machine.specs.Step.{after}
use Rattle.pl_machine.specs.Choices.{exec_choice_of}
use Rattle.pl_machine.specs.Legal.{options_of, entries_behind}

-- what a chooser proposes: the chooser before, the plan state, the proposal, and the chooser after
abbrev pub Picks : Type 0 → Type 1
Picks C = C → PlanState → Option Proposal → C → Type 0

-- what it is once it chose, whatever came of that: the chooser before, and the chooser after
abbrev pub Drawn : Type 0 → Type 1
Drawn C = C → C → Type 0

-- An input is free. Where repair goes on the chooser is asked. It is not asked where repair is to rest, nor by the executive.
abbrev pub IsSoloEvent : {C : Type 0} → Picks C → World → C → Event → C → Type 0
IsSoloEvent picks w c (event.Opened o) c2 = ⊥
IsSoloEvent picks w c (event.Input line) c2 = c2 ≡ c
IsSoloEvent picks w c (event.Fix k m) c2 = (w.rested ≡ false) × (reason_of w ≡ None) × picks c w.state (Some (record { conflict = k; mv = m })) c2
IsSoloEvent picks w c event.Rest c2 = (w.rested ≡ false) × IsSome (reason_of w) × (c2 ≡ c)
IsSoloEvent picks w c (event.Commit h) c2 = (w.rested ≡ true) × (exec_choice_of w ≡ Some (choice.Commit h)) × (c2 ≡ c)
IsSoloEvent picks w c event.Dispatch c2 = (w.rested ≡ true) × (exec_choice_of w ≡ Some choice.Dispatch) × (c2 ≡ c)
IsSoloEvent picks w c event.Close c2 = (w.rested ≡ true) × (exec_choice_of w ≡ Some choice.Close) × (c2 ≡ c)

-- each entry has the event that the world before it and the chooser fix
abbrev pub solo_from : {C : Type 0} → Picks C → World → C → List Entry → C → Type 0
solo_from picks w c [] c2 = c2 ≡ c
solo_from {C} picks w c (e ∷ es) c2 = (middle : C) × IsSoloEvent picks w c e.event middle × solo_from picks (after w e.event) middle es c2

-- the same of a log, after its open entry
unfoldable pub SoloBy : {C : Type 0} → Picks C → C → Model → List Entry → C → Type 0
SoloBy picks c m log c2 = solo_from picks (fresh_world m (options_of log)) c (entries_behind log) c2
