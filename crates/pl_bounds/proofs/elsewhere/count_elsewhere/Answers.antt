use Rattle.std.proofs.Common.{◌+◌, ◌≤◌, cond, subst}
use Rattle.std.specs.Prelude.{filter, length}
use Rattle.std.specs.Map.Iter.{deref}
use Rattle.std.proofs.lemmas.Map.Iter.{rest_more, rest_all}
use Rattle.pl_bounds.specs.Standing.{is_elsewhere}
use Rattle.pl_bounds.proofs.Counting.{one_more, none_left}
use Rattle.pl_bounds.proofs.elsewhere.count_elsewhere.Goals as goal

pub loop-conflict-preserved : goal.loop-conflict-preserved
loop-conflict-preserved c =
    let next = rest_more deref c.loop-conflict.conflict-iterator c.next.new.self c.next.result c.in-Some.conflict c.in-Some.is c.next.ensures.steps in
    let more = subst (λ b. c.count_if-count.result ≤ c.loop-conflict.count + cond b 1 0) c.is_elsewhere.ensures c.count_if-count.ensures in
    one_more (is_elsewhere c.args.ids.now) c.in-Some.conflict.now c.loop-conflict.conflict-iterator c.next.new.self c.loop-conflict.count c.count_if-count.result (length (filter (is_elsewhere c.args.ids.now) c.args.conflicts.now)) next more c.loop-conflict.invariant

pub returns : goal.returns
returns c =
    let over = rest_all deref c.loop-conflict.conflict-iterator c.next.new.self c.next.result c.in-None.is c.next.ensures.steps in
    none_left (is_elsewhere c.args.ids.now) c.loop-conflict.conflict-iterator c.loop-conflict.count (length (filter (is_elsewhere c.args.ids.now) c.args.conflicts.now)) over c.loop-conflict.invariant
