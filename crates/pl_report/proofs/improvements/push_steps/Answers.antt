use Rattle.std.proofs.Common.{arith, ap}
use Rattle.pl_board.specs.Boards.{Standing}
use Rattle.pl_report.proofs.Improving.{more_made}
use Rattle.pl_report.proofs.improvements.push_steps.Goals as goal

pub steps-preserved : goal.steps-preserved
steps-preserved c =
    let more = rw c.if-not-branch.false at c.in_ok-push_step.ensures in
    record {
      made = more_made _ _ _ _ _ _ c.steps.count c.steps.invariant.made more;
      within = omega (arith, c.steps-test.true);
      unspoiled = ap (λ (b : Standing). b.spoiled) more.made;
    }
