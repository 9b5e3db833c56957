use Rattle.std.proofs.Common.{sym, ◌∙◌}
use Rattle.pl_cand.proofs.Keeping.{alike_worth}
use Rattle.pl_cand.proofs.cuts.worth_behind.Goals as goal

pub returns-then-are_alike : goal.returns-then-are_alike
returns-then-are_alike c = c.requires.last ∙ alike_worth c.args.state.now c.args.last.now.mv c.args.mv.now (sym c.are_alike.ensures ∙ c.if-are_alike.true)
