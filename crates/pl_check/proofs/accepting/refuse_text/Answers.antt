use Rattle.std.proofs.Common.{sym, ◌∙◌}
use Rattle.pl_check.proofs.Refusing.{syntax_refuses}
use Rattle.pl_check.proofs.accepting.refuse_text.Goals as goal

pub returns-clause-accepts : goal.returns-clause-accepts
returns-clause-accepts c = syntax_refuses c.args._text.now c.in_ok-line.line c.args.fault (sym c.is_want_in_syntax.ensures ∙ c.if-is_want_in_syntax.false) c.requires c.in_ok-line.ensures
