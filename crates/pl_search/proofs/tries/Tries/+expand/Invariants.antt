use Rattle.std.proofs.Common.{length}
use Rattle.pl_search.proofs.tries.Tries.+expand.Given as goal

abbrev pub decreases-expand : goal.decreases-expand
decreases-expand l = length l.path.now
