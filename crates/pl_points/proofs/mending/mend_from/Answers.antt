use Rattle.std.proofs.Common.{ℕ, Bool, arith, ap, sym, ◌∙◌}
use Rattle.pl_points.specs.Points.{sum_to}
use Rattle.pl_points.specs.Limits.{is_outside}
use Rattle.pl_points.specs.Spans.{covers}
use Rattle.pl_points.proofs.Clearing.{calm_on, mended_clear}
use Rattle.pl_points.proofs.mending.mend_from.Goals as goal

pub returns-then-are_clear-clause-covers : goal.returns-then-are_clear-clause-covers
returns-then-are_clear-clause-covers g c =
    let q : ℕ → Bool = λ t. is_outside c.args.limit (sum_to (g.P.Points.points c.args.points.now) t) in
    let calm = calm_on c.args.window.from c.args.mark.at c.calm_mark-mark.result.at q c.requires.inside c.calm_mark-mark.ensures.inside in
    mended_clear c.args.window.from c.args.window.to q c.args.kept.now.items
    (λ t here. ap (λ l. covers l t) (sym c.deref.ensures.value) ∙ c.are_clear.ensures c.if-are_clear.true t here)
    (λ t low high. calm t low (omega (arith, high, c.if-mark-window.true)))

pub mend_touched-requires-clause-inside : goal.mend_touched-requires-clause-inside
mend_touched-requires-clause-inside g c =
    let q : ℕ → Bool = λ t. is_outside c.args.limit (sum_to (g.P.Points.points c.args.points.now) t) in
    calm_on c.args.window.from c.args.mark.at c.calm_mark-mark.result.at q c.requires.inside c.calm_mark-mark.ensures.inside

pub returns-clause-cost : goal.returns-clause-cost
returns-clause-cost g c = omega (arith, c.calm_mark-mark.ensures.cost, c.mend_touched.ensures.cost)
