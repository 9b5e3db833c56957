-- What is asked of a move that is handed in.
use Rattle.std.specs.Prelude.{◌<◌, length}
use Rattle.pl_model.specs.declared.whole.Model.{Model}
use Rattle.pl_model.specs.Checked.{IsAmount}
use Rattle.pl_plan.specs.declared.repair.RepairMove.{RepairMove}
use Rattle.pl_plan.specs.declared.repair.RepairMove.TheVariants as repair
use Rattle.pl_entry.specs.Bounds.{IsWord, IsWordIf}

-- the kind of an added activity is one of the model's, and a value that is set is from 0 to 1,000,000,000
abbrev pub IsMoveOf : Model → RepairMove → Type 0
IsMoveOf m (repair.Add kind start goal) = kind < length m.kinds
IsMoveOf m (repair.Delete id) = Unit {0}
IsMoveOf m (repair.Shift id start) = Unit {0}
IsMoveOf m (repair.Detail id alternative) = Unit {0}
IsMoveOf m (repair.Abstract id) = Unit {0}
IsMoveOf m (repair.Assign id param value) = IsAmount value
IsMoveOf m (repair.Drop goal) = Unit {0}

-- the numbers fit their types
abbrev pub FitsTypes : RepairMove → Type 0
FitsTypes (repair.Add kind start goal) = IsWord kind × IsWord start × IsWordIf goal
FitsTypes (repair.Delete id) = IsWord id
FitsTypes (repair.Shift id start) = IsWord id × IsWord start
FitsTypes (repair.Detail id alternative) = IsWord id × IsWord alternative
FitsTypes (repair.Abstract id) = IsWord id
FitsTypes (repair.Assign id param value) = IsWord id × (param < 256)
FitsTypes (repair.Drop goal) = IsWord goal
