use Rattle.std.proofs.Common.{ap}
use Rattle.pl_plan.specs.declared.evaluated.Evaluated.{Evaluated}
use Rattle.pl_update.proofs.AboutEvaluations.Reading.{kept_is, none_kept}
use Rattle.pl_update.proofs.links.placing.place_one.Goals as goal

pub place_with-requires-clause-end : goal.place_with-requires-clause-end
place_with-requires-clause-end c =
    let s = c.args.s.now in
    ap (λ (e : Evaluated). e.end) (kept_is s.model s.plan.activities c.args.a.now c.requires.live c.in-Some.evaluated.now (c.in-Some.ensures.of_state s c.requires.values))

pub unreachable-requires : goal.unreachable-requires
unreachable-requires c = let s = c.args.s.now in none_kept s.model s.plan.activities c.args.a.now c.requires.live (c.in-None.ensures.of_state s c.requires.values)
