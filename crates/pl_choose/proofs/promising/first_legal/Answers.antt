use Rattle.std.proofs.Common.{sym, ◌∙◌}
use Rattle.pl_choose.proofs.Promise.{legal_foremost}
use Rattle.pl_choose.proofs.promising.first_legal.Goals as goal

pub returns-then-is_legal : goal.returns-then-is_legal
returns-then-is_legal c = legal_foremost c.args.board.now.state c.args.k.now c.in_ok-mv.mv c.in_ok-mv.ensures.foremost (sym c.is_legal.ensures ∙ c.if-is_legal.true)
