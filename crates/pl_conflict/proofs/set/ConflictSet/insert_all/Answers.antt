use Rattle.std.proofs.Common.{take, ap, ◌∙◌}
use Rattle.pl_conflict.specs.Sorting.{left_by}
use Rattle.pl_conflict.proofs.Sorting.{sorted_first, sorted_next, put_back}
use Rattle.pl_conflict.proofs.set.ConflictSet.insert_all.Goals as goal

pub loop-at-init : goal.loop-at-init
loop-at-init c = sorted_first c.args.self.now c.requires.ordered

pub loop-at-preserved : goal.loop-at-preserved
loop-at-preserved c =
    rw (c.in-Ok.ensures.ok, c.loop-at.invariant) (sorted_next c.args.self.now c.args.came.now c.loop-at.at _ c.loop-at-test.true)

-- what was put in before memory ran out is taken out again
pub returns-in-Err-clause-err : goal.returns-in-Err-clause-err
returns-in-Err-clause-err c =
    c.remove_all.ensures.after ∙ ap (λ x. left_by (take c.loop-at.at c.args.came.now) x) (c.in-Err.ensures.err ∙ c.loop-at.invariant)
    ∙ put_back c.args.self.now c.args.came.now c.loop-at.at c.requires.ordered c.requires.absent
