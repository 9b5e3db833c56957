use Rattle.pl_points.proofs.Rounds.{unchanged}
use Rattle.pl_points.proofs.mending.no_change.Goals as goal

pub returns : goal.returns
returns c s = unchanged s _ c.new.ensures c.new-2.ensures
