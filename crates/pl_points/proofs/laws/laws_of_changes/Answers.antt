use Rattle.pl_points.proofs.Alike.{exchanged}
use Rattle.pl_points.proofs.laws.laws_of_changes.Goals as goal

pub returns : goal.returns
returns c = λ old new change is s. exchanged old new change is s
