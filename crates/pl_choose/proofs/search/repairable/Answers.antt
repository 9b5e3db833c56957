use Rattle.std.specs.Prelude.{filter}
use Rattle.std.specs.Map.Iter.{deref}
use Rattle.std.proofs.lemmas.Map.Iter.{rest_more, rest_all}
use Rattle.pl_semantics.specs.Conflicts.{conflicts_of}
use Rattle.pl_semantics.specs.Legal.{has_repair, repairable}
use Rattle.pl_choose.proofs.Finding.{filter_step, filter_end}
use Rattle.pl_choose.proofs.search.repairable.Goals as goal

pub loop-conflict-preserved : goal.loop-conflict-preserved
loop-conflict-preserved c =
    let s = c.args.board.now.state in
    let next = rest_more deref c.loop-conflict.conflict-iterator c.next.new.self c.next.result c.in-Some.conflict c.in-Some.is c.next.ensures.steps in
    filter_step (has_repair s) c.loop-conflict.conflict-iterator c.next.new.self c.loop-conflict.all.items c.add_if_repairable.new.all.items c.in-Some.conflict.now (filter (has_repair s) (conflicts_of s)) next c.in_ok-add_if_repairable.ensures c.loop-conflict.invariant

pub returns : goal.returns
unfolding repairable
returns c =
    let s = c.args.board.now.state in
    let over = rest_all deref c.loop-conflict.conflict-iterator c.next.new.self c.next.result c.in-None.is c.next.ensures.steps in
    filter_end (has_repair s) c.loop-conflict.conflict-iterator c.loop-conflict.all.items (filter (has_repair s) (conflicts_of s)) over c.loop-conflict.invariant
