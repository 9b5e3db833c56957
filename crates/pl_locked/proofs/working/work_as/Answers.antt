use Rattle.std.proofs.Common.{arith}
use Rattle.pl_acts.proofs.FullLogs.{plan_short}
use Rattle.pl_locked.proofs.Progress.{working_none, works_on, works_idle, worked_until}
use Rattle.pl_locked.proofs.working.work_as.Goals as goal

pub overflow_add-acts : goal.overflow_add-acts
overflow_add-acts g c =
    let few = c.loop.invariant.1.few in
    let short = plan_short _ c.loop.invariant.0.seen in
    omega (arith, few, short)

pub loop-init : goal.loop-init
loop-init g c = (c.requires.own, working_none c.args.by c.args.pass.now c.args.role.now)

pub loop-preserved-in-Ok-Did : goal.loop-preserved-in-Ok-Did
loop-preserved-in-Ok-Did g c = (
  c.work_once.ensures.own,
  works_on c.args.by c.args.pass.now c.loop.pass c.work_once.new.pass c.args.role.now c.loop.role c.work_once.new.role c.loop.acts c.loop.invariant.1 c.work_once.ensures.takes c.in-Ok-Did.field-0-0
      (rw c.in-Ok-Did.field-0-is at c.in-Ok-Did.ensures.acts),
)

pub loop-preserved : goal.loop-preserved
loop-preserved g c = (
  c.work_once.ensures.own,
  works_idle c.args.by c.args.pass.now c.loop.pass c.work_once.new.pass c.args.role.now c.loop.role c.work_once.new.role c.loop.acts c.loop.invariant.1 c.work_once.ensures.takes
      (rw c.in-Ok-Nothing.field-0-is at c.in-Ok-Nothing.ensures.acts),
)

pub returns-in-Err-clause-works : goal.returns-in-Err-clause-works
returns-in-Err-clause-works g c =
    worked_until c.args.by c.args.pass.now c.loop.pass c.work_once.new.pass c.stop_as.new.pass c.args.role.now c.loop.role c.work_once.new.role c.loop.acts c.in-Err.stop c.loop.invariant.1 c.work_once.ensures.own.seen
    c.work_once.ensures.takes c.in-Err.ensures.acts c.stop_as.ensures.own.seen c.stop_as.ensures.takes c.stop_as.ensures.stops
