use Rattle.std.proofs.Common.{◌≡◌, ℤ, ◌++◌, ◌∷◌, [], ap, ◌∙◌, arith}
use Rattle.std.proofs.lemmas.Int.{ints}
use mir.Val.{to_z, of_z}
use mir.Syntax.{w64}
use Rattle.pl_bounds.specs.Steps.{step_by}
use Rattle.pl_bounds.proofs.StepSums.{low_pushed, high_pushed}
use Rattle.pl_bounds.proofs.sorting.add_change.Goals as goal

pub returns-clause-low : goal.returns-clause-low
returns-clause-low c = λ o w t low.
    let e = c.args.asked in
    let comes = c.args.comes in
    let steps = c.args.steps.now.items in
    let whole : to_z w64 (of_z w64 e.delta) ≡ e.delta = omega (arith, ints) in
    let is = rw c.new-begins.ensures at c.in_ok-push.ensures.items in
    low_pushed o w t comes e steps _ low (is ∙ ap (λ (z : ℤ). steps ++ step_by e.at z comes comes ∷ []) whole)

pub returns-clause-high : goal.returns-clause-high
returns-clause-high c = λ o w t high.
    let e = c.args.asked in
    let comes = c.args.comes in
    let steps = c.args.steps.now.items in
    let whole : to_z w64 (of_z w64 e.delta) ≡ e.delta = omega (arith, ints) in
    let is = rw c.new-begins.ensures at c.in_ok-push.ensures.items in
    high_pushed o w t comes e steps _ high (is ∙ ap (λ (z : ℤ). steps ++ step_by e.at z comes comes ∷ []) whole)
