use Rattle.std.proofs.Common.{◌≡◌, take}
use Rattle.pl_syntax.specs.Marks.{marks_of}
use Rattle.pl_syntax.proofs.marks.marks.Given as goal

abbrev pub invariant-loop-token : goal.invariant-loop-token
invariant-loop-token l = l.found.items ≡ marks_of l.text (take l.token-index l.tokens)
