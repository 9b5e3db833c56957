-- A move of a log may be handed in.
use Rattle.pl_model.specs.declared.whole.Model.{Model}
use Rattle.pl_plan.specs.declared.repair.RepairMove.{RepairMove}
use Rattle.pl_plan.specs.declared.repair.RepairMove.TheVariants as repair
use Rattle.pl_entry.specs.Bounds.{IsMoveInRange}
use Rattle.pl_machine.specs.Repairs.{IsMoveOf}

pub may_move : (m : Model) (move : RepairMove) → IsMoveInRange m move → IsMoveOf m move
may_move m (repair.Add kind start goal) is = is.0
may_move m (repair.Delete id) is = tt
may_move m (repair.Shift id start) is = tt
may_move m (repair.Detail id alternative) is = tt
may_move m (repair.Abstract id) is = tt
may_move m (repair.Assign id param value) is = is.2
may_move m (repair.Drop goal) is = tt
