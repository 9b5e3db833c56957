use Rattle.std.proofs.Common.{ap, ◌∙◌}
use Rattle.std.proofs.lemmas.List.{take_all}
use Rattle.pl_update.specs.Evaluations.Kept.{kept_at}
use Rattle.pl_update.proofs.AboutEvaluations.Moving.{shifted_at, keeps_shifted}
use Rattle.pl_update.proofs.evaluations.evaluations.Evaluations.shift.Goals as goal

pub returns : goal.returns
returns c =
    let s = c.args.s.now in
    keeps_shifted s c.args.placed.now c.args.self.now c.loop-a.self
    (λ q. c.loop-a.invariant q ∙ ap (shifted_at s.plan.activities q (kept_at q c.args.self.now)) (take_all c.loop-a.a-index c.args.placed.now c.loop-a-test.false))
