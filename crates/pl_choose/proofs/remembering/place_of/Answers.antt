use Rattle.std.proofs.Common.{None}
use Rattle.std.specs.Prelude.{◌≢◌}
use Rattle.std.proofs.lemmas.List.{take_all}
use Rattle.std.proofs.lemmas.List.Elements.{All-more}
use Rattle.pl_plan.specs.declared.repair.RepairMove.TheVariants.{Add}
use Rattle.pl_choose.proofs.Remembered.{at_first, never_fewest}
use Rattle.pl_choose.proofs.remembering.place_of.Goals as goal

pub returns-then-is_same : goal.returns-then-is_same
returns-then-is_same c = λ s best. at_first s c.args.moves.now c.args.best.now (Add 0 0 None) c.loop-place.place c.loop-place-test.true (c.is_same.ensures.same c.if-is_same.true) c.loop-place.invariant best

pub loop-place-preserved : goal.loop-place-preserved
loop-place-preserved c = All-more (λ m. m ≢ c.args.best.now) c.args.moves.now c.loop-place.place (Add 0 0 None) c.loop-place-test.true c.loop-place.invariant (c.is_same.ensures.other c.if-is_same.false)

pub returns : goal.returns
returns c = λ s best. never_fewest s c.args.moves.now c.args.best.now _ (rw (take_all c.loop-place.place c.args.moves.now c.loop-place-test.false) at c.loop-place.invariant) best
