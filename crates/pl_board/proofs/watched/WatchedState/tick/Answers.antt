use Rattle.std.proofs.Common.{◌≡◌, ◌∙◌, ap, arith}
use Rattle.pl_update.specs.Changes.Changes.{moved_on}
use Rattle.pl_update.proofs.AboutChanges.Keeping.{whole_moved_on}
use Rattle.pl_update.proofs.AboutTimelines.StandingNamed.{are_named}
use Rattle.pl_update.proofs.AboutTimelines.StandingReadings.{may_reach}
use Rattle.pl_update.proofs.AboutTimelines.StandingLater.{lines_moved, told_moved}
use Rattle.pl_board.proofs.Watching.{few_lines, shown_after, stands_moved}
use Rattle.std.proofs.Common.{◌++◌}
use Rattle.pl_conflict.specs.Sorting.{exchanged}
use Rattle.pl_update.specs.Timelines.Framed.{AreLinesOf}
use Rattle.pl_update.specs.GoalsAndActivities.Near.{near, Follows}
use Rattle.pl_update.proofs.AboutGoalsAndActivities.Passing.{follows_moved}
use Rattle.pl_update.proofs.AboutLinks.Keeping.{before_moved_on}
use Rattle.pl_board.specs.declared.watched.WatchedState.{WatchedState}
use Rattle.pl_board.proofs.watched.WatchedState.tick.Goals as goal

pub advance-requires-clause-few : goal.advance-requires-clause-few
advance-requires-clause-few g c = few_lines c.args.self.now.state c.args.self.now.lines c.requires.watched.whole c.requires.watched.timelines

pub advance-requires-clause-reach : goal.advance-requires-clause-reach
advance-requires-clause-reach g c = let later = c.requires.later in may_reach c.args.self.now.state c.args.now c.args.self.now.lines c.requires.watched.timelines.framed (omega (arith, later)) c.requires.bound

pub advance-requires-clause-named : goal.advance-requires-clause-named
advance-requires-clause-named g c = are_named c.args.self.now.state c.args.self.now.lines c.requires.watched.whole.rising c.requires.watched.timelines

pub pass-requires : goal.pass-requires
pass-requires g c = whole_moved_on c.args.self.now.state c.args.now c.requires.watched.whole c.requires.later c.requires.bound

pub turn-requires-clause-whole : goal.turn-requires-clause-whole
turn-requires-clause-whole g c = whole_moved_on c.args.self.now.state c.args.now c.requires.watched.whole c.requires.later c.requires.bound

pub returns-clause-watched : goal.returns-clause-watched
returns-clause-watched g c =
    let w = c.args.self.now in
    let s = w.state in
    let t = moved_on c.args.now s in
    let later = c.requires.later in
    let whole_t = whole_moved_on s c.args.now c.requires.watched.whole c.requires.later c.requires.bound in
    let full = c.advance.new.self in
    let mended = c.in_ok-advance.ensures.mended in
    let are_t : AreLinesOf t full = rw c.in_ok-advance.ensures.moved (lines_moved s c.args.now w.lines c.requires.watched.timelines) in
    let links = c.in_ok-mended.ensures s (before_moved_on s c.args.now (omega (arith, later))) (shown_after s w.lines full w.conflicts c.advance.new.set c.requires.watched.found mended) in
    let follows : Follows s t c.in_ok-touched.touched.numbers.items c.in_ok-touched.touched.ids.items =
    rw (c.in_ok-touched.ensures.numbers, c.in_ok-touched.ensures.ids, c.requires.watched.found) (follows_moved s c.requires.watched.whole c.args.now c.requires.later) in
    let found = stands_moved s t w.lines full w.conflicts c.advance.new.set c.turn.new.self.conflicts c.in_ok-touched.touched.numbers.items c.in_ok-touched.touched.ids.items c.in_ok-mended.mended.went.items c.in_ok-mended.mended.came.items
    c.requires.watched.whole c.requires.watched.timelines c.requires.watched.found whole_t are_t mended (told_moved s c.args.now full c.advance.new.set) follows links
    (c.in_ok-turn.ensures.conflicts ∙ ap (λ l. exchanged c.advance.new.set (l ++ c.in_ok-mended.mended.went.items) (near t c.in_ok-touched.touched.numbers.items c.in_ok-touched.touched.ids.items ++ c.in_ok-mended.mended.came.items)) c.in_ok-went.ensures) in
    let same = c.in_ok-turn.ensures.same in
    let is_state : c.turn.new.self.state ≡ t = ap (λ (v : WatchedState). v.state) same in
    let is_lines : c.turn.new.self.lines ≡ full = ap (λ (v : WatchedState). v.lines) same in
    let is_values : c.turn.new.self.values ≡ w.values = ap (λ (v : WatchedState). v.values) same in
    let is_links : c.turn.new.self.links ≡ w.links = ap (λ (v : WatchedState). v.links) same in
    record {
      whole = rw is_state whole_t;
      values = rw (is_state, is_values) c.requires.watched.values;
      timelines = rw (is_state, is_lines) are_t;
      store = rw (is_state, is_links) c.requires.watched.store;
      found = rw is_state found;
    }
