use Rattle.std.proofs.Common.{rules, ◌≡◌, arith, ap, sym, ◌∙◌, false, Some, None}
use mir.Val.{SFits}
use mir.Syntax.{w64}
use Rattle.std.proofs.lemmas.Int.{to_z-of_z}
use Rattle.pl_points.specs.Points.{sum_to, is_out}
use Rattle.pl_points.proofs.Strolls.{StaysInside, sum_is_below}
use Rattle.pl_points.proofs.Calming.{crossing}
use Rattle.pl_level.proofs.windows.first_out.Goals as goal

pub first_outside-requires : goal.first_outside-requires
first_outside-requires g c =
    let fits : SFits w64 c.sum_to-sum.result = search rules in
    to_z-of_z w64 c.sum_to-sum.result fits ∙ c.sum_to-sum.ensures.sum ∙ sum_is_below (g.P.Points.points c.args.points.now) c.args.window.from

pub returns-in-Some-clause-low : goal.returns-in-Some-clause-low
returns-in-Some-clause-low g c =
    let ps = g.P.Points.points c.args.points.now in
    let low : SFits w64 c.args.sums.least = search rules in
    let high : SFits w64 c.args.sums.most = search rules in
    let fits : SFits w64 c.sum_to-sum.result = search rules in
    let inside : is_out c.args.sums.least c.args.sums.most c.sum_to-sum.result ≡ false = ap (is_out c.args.sums.least c.args.sums.most) (sym (to_z-of_z w64 c.sum_to-sum.result fits)) ∙ sym c.if-is_out.ensures in
    let here : StaysInside c.args.sums.least c.args.sums.most c.args.window.from ps (Some (c.in-Some.moment, c.in-Some.field-0-1)) = crossing c.args.sums.least c.args.sums.most c.sum_to-sum.result c.args.window.from ps (Some (c.in-Some.moment, c.in-Some.field-0-1)) low high c.sum_to-sum.ensures.sound.rising c.sum_to-sum.ensures.sum inside c.in-Some.ensures.first in
    omega (arith, here.0, c.min.ensures, c.requires)

pub returns-in-Some-clause-within : goal.returns-in-Some-clause-within
returns-in-Some-clause-within g c =
    let ps = g.P.Points.points c.args.points.now in
    let low : SFits w64 c.args.sums.least = search rules in
    let high : SFits w64 c.args.sums.most = search rules in
    let fits : SFits w64 c.sum_to-sum.result = search rules in
    let inside : is_out c.args.sums.least c.args.sums.most c.sum_to-sum.result ≡ false = ap (is_out c.args.sums.least c.args.sums.most) (sym (to_z-of_z w64 c.sum_to-sum.result fits)) ∙ sym c.if-is_out.ensures in
    let here : StaysInside c.args.sums.least c.args.sums.most c.args.window.from ps (Some (c.in-Some.moment, c.in-Some.field-0-1)) = crossing c.args.sums.least c.args.sums.most c.sum_to-sum.result c.args.window.from ps (Some (c.in-Some.moment, c.in-Some.field-0-1)) low high c.sum_to-sum.ensures.sound.rising c.sum_to-sum.ensures.sum inside c.in-Some.ensures.first in
    λ t from lt. here.1.0 t from (omega (arith, lt, c.min.ensures))

pub returns-in-Some-clause-leaves : goal.returns-in-Some-clause-leaves
returns-in-Some-clause-leaves g c =
    let ps = g.P.Points.points c.args.points.now in
    let low : SFits w64 c.args.sums.least = search rules in
    let high : SFits w64 c.args.sums.most = search rules in
    let fits : SFits w64 c.sum_to-sum.result = search rules in
    let inside : is_out c.args.sums.least c.args.sums.most c.sum_to-sum.result ≡ false = ap (is_out c.args.sums.least c.args.sums.most) (sym (to_z-of_z w64 c.sum_to-sum.result fits)) ∙ sym c.if-is_out.ensures in
    let here : StaysInside c.args.sums.least c.args.sums.most c.args.window.from ps (Some (c.in-Some.moment, c.in-Some.field-0-1)) = crossing c.args.sums.least c.args.sums.most c.sum_to-sum.result c.args.window.from ps (Some (c.in-Some.moment, c.in-Some.field-0-1)) low high c.sum_to-sum.ensures.sound.rising c.sum_to-sum.ensures.sum inside c.in-Some.ensures.first in
    λ lt.
    let there : c.min.result ≡ c.in-Some.moment = omega (arith, lt, c.min.ensures) in
    ap (λ t. is_out c.args.sums.least c.args.sums.most (sum_to ps t)) there ∙ ap (is_out c.args.sums.least c.args.sums.most) (sym here.1.1.0) ∙ here.1.1.1

pub returns-in-None-clause-within : goal.returns-in-None-clause-within
returns-in-None-clause-within g c =
    let ps = g.P.Points.points c.args.points.now in
    let low : SFits w64 c.args.sums.least = search rules in
    let high : SFits w64 c.args.sums.most = search rules in
    let fits : SFits w64 c.sum_to-sum.result = search rules in
    let inside : is_out c.args.sums.least c.args.sums.most c.sum_to-sum.result ≡ false = ap (is_out c.args.sums.least c.args.sums.most) (sym (to_z-of_z w64 c.sum_to-sum.result fits)) ∙ sym c.if-is_out.ensures in
    let here : StaysInside c.args.sums.least c.args.sums.most c.args.window.from ps None = crossing c.args.sums.least c.args.sums.most c.sum_to-sum.result c.args.window.from ps None low high c.sum_to-sum.ensures.sound.rising c.sum_to-sum.ensures.sum inside c.in-None.ensures.first in
    λ t from _. here t from
