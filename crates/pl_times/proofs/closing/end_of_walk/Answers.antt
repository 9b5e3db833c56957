use Rattle.std.proofs.Common.{FitsSigned, w64, rules, take}
use Rattle.std.proofs.lemmas.Int.{to_z-of_z}
use Rattle.std.proofs.lemmas.List.{take_more}
use Rattle.pl_times.proofs.Walking.{marked_step}
use Rattle.pl_times.proofs.closing.end_of_walk.Goals as goal

pub loop-number-preserved : goal.loop-number-preserved
loop-number-preserved c =
    let fits : FitsSigned w64 c.in_ok-to.more = search rules in
    let stepped = marked_step c.args.net.now c.args.start c.loop-number.marks c.step.new.marks (take c.loop-number.number-index c.args.numbers.now) _ _ _ _ _ c.loop-number.invariant c.in_ok-to.ensures in
    rw (to_z-of_z w64 c.in_ok-to.more fits, take_more c.args.numbers.now c.loop-number.number-index 0 c.loop-number-test.true) stepped
