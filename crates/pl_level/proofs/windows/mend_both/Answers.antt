use Rattle.std.proofs.Common.{rules, ◌≡◌, ℕ, subst}
use mir.Val.{SFits}
use mir.Syntax.{w64}
use Rattle.std.proofs.lemmas.Int.{to_z-of_z}
use Rattle.pl_points.specs.declared.limit.Limit.TheVariants.{Above}
use Rattle.pl_points.specs.Points.{sum_to}
use Rattle.pl_points.specs.Limits.{is_outside}
use Rattle.pl_points.specs.Spans.{covers}
use Rattle.pl_points.specs.Mending.{mended}
use Rattle.pl_level.proofs.windows.mend_both.Goals as goal

pub returns-clause-high_covers : goal.returns-clause-high_covers
returns-clause-high_covers g c =
    let fits : SFits w64 c.args.sums.most = search rules in
    subst (λ z. (t : ℕ) → covers c.mend-2.new.self t ≡ mended c.args.window.from c.args.window.to (λ x. is_outside (Above z) (sum_to (g.P.Points.points c.args.points.now) x)) c.args.high.now t) (to_z-of_z w64 c.args.sums.most fits)
    c.in_ok-above.ensures.covers
