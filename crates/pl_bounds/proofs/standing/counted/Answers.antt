use Rattle.std.specs.Prelude.{filter, length}
use Rattle.std.specs.Map.Iter.{deref}
use Rattle.std.proofs.lemmas.Map.Iter.{rest_more, rest_all}
use Rattle.pl_bounds.specs.Plain.{is_plain}
use Rattle.pl_bounds.specs.Standing.{is_unmoved_one, is_valueless_one}
use Rattle.pl_bounds.proofs.Counting.{one_more, none_left}
use Rattle.pl_bounds.proofs.standing.counted.Goals as goal

pub loop-conflict-preserved : goal.loop-conflict-preserved
loop-conflict-preserved c =
    let next = rest_more deref c.loop-conflict.conflict-iterator c.next.new.self c.next.result c.in-Some.conflict c.in-Some.is c.next.ensures.steps in
    record {
      wrong = one_more is_plain c.in-Some.conflict.now c.loop-conflict.conflict-iterator c.next.new.self c.loop-conflict.counts.wrong c.with-counts.result.wrong (length (filter is_plain c.args.conflicts.now)) next c.with-counts.ensures.wrong c.loop-conflict.invariant.wrong;
      unmoved = one_more is_unmoved_one c.in-Some.conflict.now c.loop-conflict.conflict-iterator c.next.new.self c.loop-conflict.counts.unmoved c.with-counts.result.unmoved (length (filter is_unmoved_one c.args.conflicts.now)) next c.with-counts.ensures.unmoved c.loop-conflict.invariant.unmoved;
      valueless = one_more is_valueless_one c.in-Some.conflict.now c.loop-conflict.conflict-iterator c.next.new.self c.loop-conflict.counts.valueless c.with-counts.result.valueless (length (filter is_valueless_one c.args.conflicts.now)) next c.with-counts.ensures.valueless c.loop-conflict.invariant.valueless;
    }

pub returns-clause-wrong : goal.returns-clause-wrong
returns-clause-wrong c =
    let over = rest_all deref c.loop-conflict.conflict-iterator c.next.new.self c.next.result c.in-None.is c.next.ensures.steps in
    none_left is_plain c.loop-conflict.conflict-iterator c.loop-conflict.counts.wrong (length (filter is_plain c.args.conflicts.now)) over c.loop-conflict.invariant.wrong

pub returns-clause-unmoved : goal.returns-clause-unmoved
returns-clause-unmoved c =
    let over = rest_all deref c.loop-conflict.conflict-iterator c.next.new.self c.next.result c.in-None.is c.next.ensures.steps in
    none_left is_unmoved_one c.loop-conflict.conflict-iterator c.loop-conflict.counts.unmoved (length (filter is_unmoved_one c.args.conflicts.now)) over c.loop-conflict.invariant.unmoved

pub returns-clause-valueless : goal.returns-clause-valueless
returns-clause-valueless c =
    let over = rest_all deref c.loop-conflict.conflict-iterator c.next.new.self c.next.result c.in-None.is c.next.ensures.steps in
    none_left is_valueless_one c.loop-conflict.conflict-iterator c.loop-conflict.counts.valueless (length (filter is_valueless_one c.args.conflicts.now)) over c.loop-conflict.invariant.valueless
