use Rattle.std.proofs.Common.{ℕ, ◌≤◌, [], List, length, sym, subst}
use Rattle.pl_semantics.specs.Timelines.{spans_ahead}
use Rattle.pl_bounds.specs.Steps.{is_past_by}
use Rattle.pl_bounds.specs.declared.stepwise.Step.{Step}
use Rattle.pl_bounds.proofs.StepSums.{times_still}
use Rattle.pl_bounds.proofs.bounding.times_by.Goals as goal

pub returns-then-is_nothing : goal.returns-then-is_nothing
returns-then-is_nothing c =
    let s = c.args.board.now.state in
    let o = c.args.outside.now in
    let w = c.args.change.now.way in
    let none : o.times ≤ length (spans_ahead s (is_past_by s o w [])) = subst (λ (n : ℕ). o.times ≤ n) (sym (times_still s o w)) c.requires.of_plan.times in
    subst (λ (steps : List Step). o.times ≤ length (spans_ahead s (is_past_by s o w steps))) (sym (c.is_nothing.ensures c.if-is_nothing.true)) none
