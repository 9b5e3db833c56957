use Rattle.pl_entry.proofs.DueLaws.{due_meets, due_only}
use Rattle.pl_entry.proofs.DueOn.{due_goes_on}
use Rattle.pl_entry.proofs.Growth.{due_grows}
use Rattle.pl_entry.proofs.laws.laws_of_due.Goals as goal

pub returns : goal.returns
returns c = record { meets = due_meets; only = due_only; grows = due_grows; goes_on = due_goes_on }
