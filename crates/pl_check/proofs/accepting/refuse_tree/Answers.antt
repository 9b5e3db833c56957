use Rattle.std.proofs.Common.{sym, ◌∙◌}
use Rattle.pl_check.proofs.Refusing.{check_refuses}
use Rattle.pl_check.proofs.accepting.refuse_tree.Goals as goal

pub returns-clause-accepts : goal.returns-clause-accepts
returns-clause-accepts c = check_refuses c.args._text.now c.in_ok-line.line c.args._ast.now c.args.fault.now (sym c.is_want.ensures ∙ c.if-is_want.false) c.requires.read c.requires.checked c.in_ok-line.ensures
