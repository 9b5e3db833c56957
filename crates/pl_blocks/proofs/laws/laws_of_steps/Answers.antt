use Rattle.std.proofs.Common.{arith}
use Rattle.pl_points.specs.Points.{merged}
use Rattle.pl_points.proofs.PointLists.{length-merged}
use Rattle.pl_blocks.proofs.laws.laws_of_steps.Goals as goal

pub returns-clause-shifts : goal.returns-clause-shifts
returns-clause-shifts c = λ limit from to delta back ps.
    omega (arith, length-merged from delta ps, length-merged to back (merged from delta ps))

pub returns-clause-double_walks : goal.returns-clause-double_walks
returns-clause-double_walks c = λ at delta ps low high before. omega (arith, length-merged at delta ps)
