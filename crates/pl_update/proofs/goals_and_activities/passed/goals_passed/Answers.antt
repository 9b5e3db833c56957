use Rattle.std.specs.Map.Iter.{deref}
use Rattle.std.proofs.lemmas.Map.Iter.{rest_more, rest_all}
use Rattle.pl_update.specs.GoalsAndActivities.Passed.{passed_goals}
use Rattle.pl_update.proofs.AboutGoalsAndActivities.Walking.{subjects, walk_over, walk_on, walk_end, still_ordered}
use Rattle.pl_update.proofs.goals_and_activities.passed.goals_passed.Goals as goal

pub returns-then-now-conflict : goal.returns-then-now-conflict
unfolding passed_goals
returns-then-now-conflict c =
    let next = rest_more deref c.loop-conflict.conflict-iterator c.next.new.self c.next.result c.in-Some.conflict c.in-Some.is c.next.ensures.steps in
    walk_over c.args.now c.loop-conflict.conflict-iterator c.next.new.self c.in-Some.conflict.now c.loop-conflict.numbers.items (subjects c.args.now c.args.set.now) next c.if-now-conflict.true c.loop-conflict.invariant.ordered c.loop-conflict.invariant.rest

pub loop-conflict-preserved : goal.loop-conflict-preserved
loop-conflict-preserved c =
    let next = rest_more deref c.loop-conflict.conflict-iterator c.next.new.self c.next.result c.in-Some.conflict c.in-Some.is c.next.ensures.steps in
    record {
      ordered = still_ordered c.loop-conflict.conflict-iterator c.next.new.self c.in-Some.conflict.now next c.loop-conflict.invariant.ordered;
      rest = walk_on c.args.now c.loop-conflict.conflict-iterator c.next.new.self c.in-Some.conflict.now c.loop-conflict.numbers.items c.add_if_open.new.numbers.items (subjects c.args.now c.args.set.now) next c.in_ok-add_if_open.ensures c.loop-conflict.invariant.rest;
    }

pub returns : goal.returns
unfolding passed_goals
returns c =
    let over = rest_all deref c.loop-conflict.conflict-iterator c.next.new.self c.next.result c.in-None.is c.next.ensures.steps in
    walk_end c.args.now c.loop-conflict.conflict-iterator c.loop-conflict.numbers.items (subjects c.args.now c.args.set.now) over c.loop-conflict.invariant.rest
