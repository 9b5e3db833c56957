use Rattle.std.proofs.Common.{◌≡◌, ℕ, ◌≤◌, List, drop, ap, ◌∙◌, pos, arith, sym, subst}
use Rattle.std.proofs.lemmas.Int.{ints}
use Rattle.std.proofs.lemmas.List.{drop_all}
use Rattle.pl_bounds.specs.Steps.{steps_on}
use Rattle.pl_bounds.specs.declared.stepwise.Step.{Step}
use Rattle.pl_bounds.proofs.StepSums.{sum_next}
use Rattle.pl_bounds.proofs.added.sum_at.Goals as goal

pub loop-step-preserved : goal.loop-step-preserved
loop-step-preserved c =
    let old = c.loop-step.added in
    let new = c.in_ok-added.added in
    let same = c.loop-step.invariant in (
      c.in_ok-added.ensures.from ∙ same.0,
      λ u low high.
          let before : old.from ≤ u = subst (λ (n : ℕ). n ≤ u) (sym same.0) low in
          sum_next c.args.outside.now c.args.change.now.way u c.args.change.now.steps.now c.loop-step.step-index _ old.by new.by c.loop-step-test.true (c.in_ok-added.ensures.by u before high) (same.1 u low (omega (arith, high, c.in_ok-added.ensures.until))),
    )

pub returns : goal.returns
returns c = λ u low high.
    let w = c.args.change.now.way in
    let o = c.args.outside.now in
    let steps = c.args.change.now.steps.now in
    let i = c.loop-step.step-index in
    let same = c.loop-step.invariant in
    let rest : steps_on o w u (drop i steps) ≡ pos 0 = ap (λ (xs : List Step). steps_on o w u xs) (drop_all i steps c.loop-step-test.false) in
    let all = same.1 u (subst (λ (n : ℕ). n ≤ u) same.0 low) high in
    omega (arith, ints, rest, all)
