use Rattle.std.proofs.Common.{◌≡◌, ◌++◌, ◌-◌, ap, map, true, false, ◌∙◌, rules, FitsSigned, ◌+ℤ◌}
use Rattle.std.specs.Int.{w64}
use Rattle.std.proofs.lemmas.Int.{to_z-of_z}
use Rattle.pl_points.specs.declared.limit.Limit.TheVariants.{Below, Above}
use Rattle.pl_points.specs.Spans.{spans_of}
use Rattle.pl_points.specs.Limits.{is_outside}
use Rattle.pl_rate.specs.Fores.{outside}
use Rattle.pl_rate.specs.Courses.{sum_of}
use Rattle.pl_rate.specs.Hinges.{spans_by, lows_by, highs_by}
use Rattle.pl_rate.proofs.Forecasts.{spans_same, both_put}
use Rattle.pl_rate.proofs.telling.push_level.Goals as goal

pub returns : goal.returns
returns c =
    let hs = c.args.hinges.now in
    let bases = c.args.bases.now in
    let window = c.args.window in
    let level = c.args.level in
    let own = c.hinges_on-own.result.now in
    let told = c.get-told.result in
    let fits : FitsSigned w64 c.get-told.result.1 = search rules in
    let fits_least : FitsSigned w64 c.args.limits.0 = search rules in
    let fits_most : FitsSigned w64 c.args.limits.1 = search rules in
    let from = c.course_at-begin.ensures.at in
    let low : c.in_ok-low.low.items ≡ spans_of (λ t. is_outside (Below c.args.limits.0) (c.get-told.result.1 +ℤ sum_of own t)) window.from (window.to - window.from) = simp (to_z-of_z, fits, fits_least, from) at c.in_ok-low.ensures in
    let high : c.in_ok-high.high.items ≡ spans_of (λ t. is_outside (Above c.args.limits.1) (c.get-told.result.1 +ℤ sum_of own t)) window.from (window.to - window.from) = simp (to_z-of_z, fits, fits_most, from) at c.in_ok-high.ensures in
    let lows : c.in_ok-low.low.items ≡ spans_by hs bases window level (Below c.args.limits.0) = low ∙ spans_same hs own bases level told (Below c.args.limits.0) window.from (window.to - window.from) c.get-told.ensures c.hinges_on-own.ensures.sums in
    let highs : c.in_ok-high.high.items ≡ spans_by hs bases window level (Above c.args.limits.1) = high ∙ spans_same hs own bases level told (Above c.args.limits.1) window.from (window.to - window.from) c.get-told.ensures c.hinges_on-own.ensures.sums in
    both_put c.args.all.now.items c.push_spans.new.all.items c.push_spans-2.new.all.items (lows_by hs bases window level c.args.limits.0) (highs_by hs bases window level c.args.limits.1)
    (c.in_ok-push_spans.ensures ∙ ap (λ l. c.args.all.now.items ++ map (outside level false) l) (c.as_slice.ensures.value ∙ lows))
    (c.in_ok-push_spans-2.ensures ∙ ap (λ l. c.push_spans.new.all.items ++ map (outside level true) l) (c.as_slice-2.ensures.value ∙ highs))
