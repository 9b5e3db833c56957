use Rattle.std.proofs.Common.{sym, ◌∙◌}
use Rattle.pl_main.proofs.Telling.{told_last, tells}
use Rattle.pl_main.proofs.answers.tell.Goals as goal

pub returns-then-done : goal.returns-then-done
returns-then-done g c = told_last _ _ _ _ g.met.P.Planner.sound c.in_ok-hear.ensures (sym c.done.ensures ∙ c.if-done.true)

pub returns : goal.returns
returns g c = tells _ _ _ _ _ _ _ _ c.solo_round.result c.in_ok-hear.ensures (sym c.done.ensures ∙ c.if-done.false) c.solo_round.ensures g.met.P.Planner.sound
