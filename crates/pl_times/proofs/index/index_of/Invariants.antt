use Rattle.pl_times.proofs.Looking.{HaveIndexed}
use Rattle.pl_times.proofs.index.index_of.Given as goal

-- the edges so far are indexed
abbrev pub invariant-loop-number : goal.invariant-loop-number
invariant-loop-number l = HaveIndexed l.net l.heads.items l.nexts.items l.number
