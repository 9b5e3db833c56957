use Rattle.std.proofs.Common.{append_assoc}
use Rattle.pl_many.proofs.lines.line.Goals as goal

pub returns : goal.returns
returns c = simp append_assoc c.in_ok-text.ensures.ok
