use Rattle.std.proofs.Common.{◌≤◌, sym, subst}
use Rattle.std.specs.Prelude.{All}
use Rattle.pl_plan.specs.declared.activity.Activity.{Activity}
use Rattle.pl_plan.specs.Activities.{AreRising}
use Rattle.pl_machine.proofs.Places.{rising_drop, rising_behind, rising_from}
use Rattle.pl_machine.proofs.Looking.{HasSeen, seen_all}
use Rattle.pl_machine.proofs.found.Found.look.Goals as goal

pub count_below-skipped-requires : goal.count_below-skipped-requires
count_below-skipped-requires c = subst AreRising (sym c.behind-others.ensures) (rising_drop c.in_ok-place.place 0 c.args.activities.now c.requires.rising)

pub see_rest-requires-clause-rising : goal.see_rest-requires-clause-rising
see_rest-requires-clause-rising c =
    let k = c.count_below-skipped.result in
    let others = c.behind-others.result.now in
    let rest = c.behind-rest.result.now in
    rising_from 0 c.args.seen rest (rising_behind c.in_ok-place.place k c.args.activities.now others rest c.requires.rising c.behind-others.ensures c.behind-rest.ensures)
    (subst (λ l. All (λ (a : Activity). c.args.seen ≤ a.id) l) (sym c.behind-rest.ensures) c.count_below-skipped.ensures.rest)

all : (c : goal.In_ok-end) → HasSeen c.args.model.now c.args.period c.args.activities.now c.in_ok-end.end c.see_rest.new.self.starts.items c.see_rest.new.self.ranges.items c.see_rest.new.self.next_start
all c =
    let before = c.see_ranges.new.self in
    let new = c.see_rest.new.self in
    seen_all c.args.model.now c.args.period c.args.activities.now c.args.seen c.requires.later c.in_ok-place.place c.count_below-skipped.result c.in_ok-end.end c.args.next_id c.behind-others.result.now c.behind-rest.result.now
    before.starts.items new.starts.items before.ranges.items new.ranges.items before.next_start new.next_start c.in_ok-place.ensures c.behind-others.ensures c.count_below-skipped.ensures c.behind-rest.ensures
    c.in_ok-end.ensures.starts c.in_ok-end.ensures.next c.in_ok-end.ensures.ranges

pub returns-clause-starts : goal.returns-clause-starts
returns-clause-starts c = (all c).begun

pub returns-clause-calm : goal.returns-clause-calm
returns-clause-calm c = (all c).calm

pub returns-clause-known : goal.returns-clause-known
returns-clause-known c = (all c).known

pub returns-clause-order : goal.returns-clause-order
returns-clause-order c = (all c).order
