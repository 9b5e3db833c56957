use Rattle.std.proofs.Common.{refl, ◌∙◌, arith}
use Rattle.pl_pair.proofs.Feeding.{feeding_none, feeding_due, feeds_on, feeds_out, feeds_cut}
use Rattle.pl_pair.proofs.feeder.feed_all.Goals as goal

pub loop-init : goal.loop-init
loop-init g c = record {
  hands = c.requires.hands;
  duties = refl;
  so_far = feeding_none c.args.plan.now c.args.model.now c.args.pass.now _ _ c.requires.own c.requires.new;
  reads = omega arith;
  writes = omega arith;
}

pub step-requires-clause-from : goal.step-requires-clause-from
step-requires-clause-from g c = feeding_due _ _ _ _ _ _ _ _ _ c.loop.invariant.so_far

pub loop-preserved : goal.loop-preserved
loop-preserved g c =
    let step = c.step.ensures in
    let so_far = c.loop.invariant in
    record {
      hands = step.hands;
      duties = step.duties ∙ so_far.duties;
      so_far = feeds_on _ _ _ _ _ _ _ _ _ so_far.so_far _ _ _ _ step.own (rw c.in-Ok-Some.field-0-is at c.in-Ok-Some.ensures.steps);
      reads = omega (arith, so_far.reads, step.later.0);
      writes = omega (arith, so_far.writes, step.later.1);
    }

pub returns-in-Ok-None-clause-feeds : goal.returns-in-Ok-None-clause-feeds
returns-in-Ok-None-clause-feeds g c = feeds_out _ _ _ _ _ _ _ _ _ c.loop.invariant.so_far _ _ _ c.step.ensures.own (rw c.in-Ok-None.field-0-is at c.in-Ok-None.ensures.steps)

pub returns-in-Err-clause-feeds : goal.returns-in-Err-clause-feeds
returns-in-Err-clause-feeds g c = feeds_cut _ _ _ _ _ _ _ _ _ c.loop.invariant.so_far c.in-Err.cut _ _ _ c.step.ensures.own c.in-Err.ensures.steps
