use Rattle.std.proofs.Common.{◌≡◌, take}
use Rattle.pl_update.proofs.timelines.copying.LinesCopied.copy.Given as goal

-- the copy has the timelines so far
abbrev pub invariant-loop-line : goal.invariant-loop-line
invariant-loop-line l = l.all.items ≡ take l.line-index l.self
