use Rattle.std.proofs.Common.{◌+◌, drop, sym, ap, ◌∙◌}
use Rattle.pl_semantics.specs.PlanStates.{numbered}
use Rattle.pl_cand.specs.Helping.{helpers_with}
use Rattle.pl_cand.proofs.Keeping.{numbered_here}
use Rattle.pl_cand.proofs.helping.first_helpers.Goals as goal

pub loop-number-preserved : goal.loop-number-preserved
loop-number-preserved c =
    let n = c.loop-number.number in
    let kinds = c.as_slice-kinds.result.now in
    sym (c.in_ok-add_if_helper.ensures (numbered (n + 1) (drop (n + 1) kinds)))
    ∙ ap (helpers_with c.args.timeline c.args.help c.loop-number.found.items) (numbered_here kinds n c.index-kinds-number.result c.loop-number-test.true c.index-kinds-number.is)
    ∙ c.loop-number.invariant
