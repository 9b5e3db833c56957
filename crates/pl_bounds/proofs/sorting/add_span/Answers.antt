use Rattle.std.proofs.Common.{◌≡◌, ℤ, ◌++◌, ◌∷◌, [], ap, ◌∙◌, arith}
use Rattle.std.specs.Prelude.{not}
use Rattle.std.proofs.lemmas.Int.{ints}
use mir.Val.{to_z, of_z}
use mir.Syntax.{w64}
use Rattle.pl_bounds.specs.Steps.{step_by}
use Rattle.pl_bounds.proofs.StepSums.{span_pushed}
use Rattle.pl_bounds.proofs.sorting.add_span.Goals as goal

pub returns : goal.returns
returns c = λ o w t over.
    let u = c.args.asked in
    let comes = c.args.comes in
    let steps = c.args.steps.now.items in
    let one = c.push.new.self.items in
    let whole : to_z w64 (of_z w64 u.amount) ≡ u.amount = omega (arith, ints) in
    let first = rw c.new-begins.ensures at c.in_ok-push.ensures.items in
    let second = rw c.new-ends.ensures at c.in_ok-push-2.ensures.items in
    span_pushed o w t comes u steps one _ over (omega arith)
    (first ∙ ap (λ (z : ℤ). steps ++ step_by u.from z comes comes ∷ []) whole)
    (second ∙ ap (λ (z : ℤ). one ++ step_by u.to z (not comes) comes ∷ []) whole)
