use Rattle.std.proofs.Common.{sym}
use Rattle.std.proofs.lemmas.List.Sorted.{All-permutation}
use Rattle.pl_points.proofs.Alike.{total_alike}
use Rattle.pl_rate.specs.Courses.{IsFlat}
use Rattle.pl_rate.specs.Hinges.{added_on}
use Rattle.pl_rate.proofs.InOrder.{ordered}
use Rattle.pl_rate.proofs.ordering.order.Goals as goal

pub returns-clause-ordered : goal.returns-clause-ordered
returns-clause-ordered c = ordered _ c.sort_unstable.ensures.sorted (All-permutation IsFlat _ _ c.sort_unstable.ensures.permutation c.requires)

pub returns-clause-sums : goal.returns-clause-sums
returns-clause-sums c = λ line t. sym (total_alike (added_on line t) _ _ c.sort_unstable.ensures.permutation)
