use Rattle.std.proofs.Common.{sym}
use Rattle.pl_choose.proofs.Between.{reaches}
use Rattle.pl_choose.proofs.stretch.between.Goals as goal

pub returns-then-is_legal-2 : goal.returns-then-is_legal-2
returns-then-is_legal-2 c = reaches c.args.board.now.state c.args.of c.args.first.now c.args.last.now c.start_of.result c.start_of-then-is_legal-2.result c.requires.first c.requires.last (sym c.if-is_legal.ensures) (sym c.if-is_legal-2.ensures) c.start_of.ensures c.start_of-then-is_legal-2.ensures
