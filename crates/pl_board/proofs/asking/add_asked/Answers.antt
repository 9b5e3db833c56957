use Rattle.std.proofs.Common.{ap}
use Rattle.pl_plan.specs.declared.evaluated.Evaluated.{Evaluated}
use Rattle.pl_update.proofs.AboutEvaluations.Reading.{kept_is, none_kept}
use Rattle.pl_board.proofs.asking.add_asked.Goals as goal

pub demands_with-requires-clause-amounts : goal.demands_with-requires-clause-amounts
demands_with-requires-clause-amounts c =
    let s = c.args.s.now in
    ap (λ (e : Evaluated). e.amounts) (kept_is s.model s.plan.activities c.args.a.now c.requires.live c.in-Some.evaluated.now (c.in-Some.ensures.of_state s c.requires.values))

pub demands_with-requires-clause-end : goal.demands_with-requires-clause-end
demands_with-requires-clause-end c =
    let s = c.args.s.now in
    ap (λ (e : Evaluated). e.end) (kept_is s.model s.plan.activities c.args.a.now c.requires.live c.in-Some.evaluated.now (c.in-Some.ensures.of_state s c.requires.values))

pub unreachable-requires : goal.unreachable-requires
unreachable-requires c = let s = c.args.s.now in none_kept s.model s.plan.activities c.args.a.now c.requires.live (c.in-None.ensures.of_state s c.requires.values)
