use Rattle.std.proofs.Common.{◌≡◌, true, false, ap, sym, ◌∙◌}
use mir.Syntax.{w64}
use Rattle.std.proofs.lemmas.Int.{to_z-of_z}
use Rattle.pl_points.specs.Points.{sum_to}
use Rattle.pl_points.specs.Limits.{is_outside}
use Rattle.pl_points.proofs.Passages.{passes_as}
use Rattle.pl_points.proofs.pieces.pass_side.Goals as goal

pub returns-then-is_outside-clause-passes : goal.returns-then-is_outside-clause-passes
returns-then-is_outside-clause-passes g c =
    let ps = g.P.Points.points c.args.points.now in
    let raw = to_z-of_z w64 c.args.sum c.ranges.sum in
    let here : is_outside c.args.limit (sum_to ps c.args.at) ≡ true = ap (is_outside c.args.limit) (sym (raw ∙ c.requires.sum)) ∙ (sym c.is_outside.ensures ∙ c.if-is_outside.true) in
    passes_as (λ z. is_outside c.args.limit z ≡ true) (λ z. is_outside c.args.limit z ≡ is_outside c.args.limit (sum_to ps c.args.at)) ps c.args.at c.args.to c.pass_outside.result.0 c.pass_outside.result.1
    (λ z e. e ∙ sym here) c.pass_outside.ensures.passes

pub returns-else-is_outside-clause-passes : goal.returns-else-is_outside-clause-passes
returns-else-is_outside-clause-passes g c =
    let ps = g.P.Points.points c.args.points.now in
    let raw = to_z-of_z w64 c.args.sum c.ranges.sum in
    let here : is_outside c.args.limit (sum_to ps c.args.at) ≡ false = ap (is_outside c.args.limit) (sym (raw ∙ c.requires.sum)) ∙ (sym c.is_outside.ensures ∙ c.if-is_outside.false) in
    passes_as (λ z. is_outside c.args.limit z ≡ false) (λ z. is_outside c.args.limit z ≡ is_outside c.args.limit (sum_to ps c.args.at)) ps c.args.at c.args.to c.pass_inside.result.0 c.pass_inside.result.1
    (λ z e. e ∙ sym here) c.pass_inside.ensures.passes
