use Rattle.std.proofs.Common.{◌≡◌, ℕ, ◌≤◌, List, sym, subst}
use Rattle.pl_bounds.specs.Afterwards.{moved_by}
use Rattle.pl_bounds.specs.Steps.{added_by, steps_on}
use Rattle.pl_bounds.specs.declared.stepwise.Step.{Step}
use Rattle.pl_bounds.specs.declared.stepwise.Way.{Way}
use Rattle.pl_bounds.proofs.StepSums.{times_stepped}
use Rattle.pl_bounds.proofs.bounding.times_with.Goals as goal

pub returns-then-is_looked_at : goal.returns-then-is_looked_at
returns-then-is_looked_at c =
    let s = c.args.board.now.state in
    let o = c.args.outside.now in
    let a = c.args.asking.now in
    let w : Way = record { from = a.start; to = c.args.start } in
    let line = c.is_looked_at.ensures.line c.if-is_looked_at.true in
    let side = c.is_looked_at.ensures.side c.if-is_looked_at.true in
    let is = subst (λ (xs : List Step). (t : ℕ) → steps_on o w t xs ≡ added_by o a.going.items (moved_by w a.coming.items) t) (sym c.as_slice.ensures.value) (c.requires.addition o line side w) in
    subst (λ (n : ℕ). c.times_by.result ≤ n) (times_stepped s o w c.as_slice.result.now a.going.items a.coming.items is) c.times_by.ensures
