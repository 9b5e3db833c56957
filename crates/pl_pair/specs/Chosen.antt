-- What the executive adds to a log.
use Rattle.std.specs.Prelude.{◌≡◌, List, [], ◌∷◌, ◌++◌, true, ⊤}
use Rattle.pl_model.specs.declared.whole.Model.{Model}
use Rattle.pl_entry.specs.declared.entry.Entry.{Entry}
use Rattle.pl_machine.specs.Choices.{exec_choice_of}
use Rattle.pl_machine.specs.Legal.{world_of}
use Rattle.pl_acts.specs.Roles.{is_executed, IsChosen}

-- Each commit, dispatch and close of the entries behind this log is what the executive chooses in the world before it.
abbrev pub AreChosen : Model → List Entry → List Entry → Type 0
AreChosen m log [] = ⊤
AreChosen m log (e ∷ entries) = (is_executed e.event ≡ true → IsChosen (exec_choice_of (world_of m log)) e.event) × AreChosen m (log ++ e ∷ []) entries
