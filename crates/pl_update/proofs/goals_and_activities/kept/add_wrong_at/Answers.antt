use Rattle.std.proofs.Common.{ap}
use Rattle.pl_plan.specs.declared.evaluated.Evaluated.{Evaluated}
use Rattle.pl_update.proofs.AboutEvaluations.Reading.{kept_is, none_kept}
use Rattle.pl_update.proofs.goals_and_activities.kept.add_wrong_at.Goals as goal

pub wrong_with-requires-clause-values : goal.wrong_with-requires-clause-values
wrong_with-requires-clause-values c =
    let s = c.args.s.now in
    ap (λ (e : Evaluated). e.values) (kept_is s.model s.plan.activities c.args.a.now c.requires.live c.in-Some.own.now (c.in-Some.ensures.of_state s c.requires.kept))

pub wrong_with-requires-clause-end : goal.wrong_with-requires-clause-end
wrong_with-requires-clause-end c =
    let s = c.args.s.now in
    ap (λ (e : Evaluated). e.end) (kept_is s.model s.plan.activities c.args.a.now c.requires.live c.in-Some.own.now (c.in-Some.ensures.of_state s c.requires.kept))

pub unreachable-requires : goal.unreachable-requires
unreachable-requires c = let s = c.args.s.now in none_kept s.model s.plan.activities c.args.a.now c.requires.live (c.in-None.ensures.of_state s c.requires.kept)
