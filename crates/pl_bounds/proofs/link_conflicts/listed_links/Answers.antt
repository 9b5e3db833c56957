use Rattle.std.specs.Map.Iter.{deref}
use Rattle.std.proofs.lemmas.Map.Iter.{rest_more}
use Rattle.pl_bounds.specs.Remaining.{listed_links}
use Rattle.pl_bounds.proofs.Listed.{one_listed}
use Rattle.pl_bounds.proofs.link_conflicts.listed_links.Goals as goal

pub loop-conflict-preserved : goal.loop-conflict-preserved
loop-conflict-preserved c =
    let s = c.args.board.now.state in
    let next = rest_more deref c.loop-conflict.conflict-iterator c.next.new.self c.next.result c.in-Some.conflict c.in-Some.is c.next.ensures.steps in
    one_listed s c.in-Some.conflict.now c.loop-conflict.conflict-iterator c.next.new.self c.loop-conflict.all.items c.add.new.all.items (listed_links s) next c.in_ok-add.ensures c.loop-conflict.invariant
