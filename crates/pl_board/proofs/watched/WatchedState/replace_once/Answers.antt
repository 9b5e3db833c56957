use Rattle.std.proofs.Common.{◌≡◌, ◌∙◌, sym, ap, subst, List}
use Rattle.std.specs.Prelude.{All}
use Rattle.pl_plan.specs.declared.activity.Activity.{Activity}
use Rattle.pl_plan.specs.Activities.{activity_of}
use Rattle.pl_semantics.specs.declared.plan_state.PlanState.{PlanState}
use Rattle.pl_semantics.specs.declared.demand.Demand.{Demand}
use Rattle.pl_update.specs.Changes.Replaced.{with_plan}
use Rattle.pl_update.proofs.AboutChanges.Keeping.{whole_replaced}
use Rattle.pl_update.specs.Timelines.Held.{HoldAll, HaveRoom, asked_at}
use Rattle.pl_update.specs.Timelines.Laws.{gone_from, coming_to}
use Rattle.pl_update.specs.Timelines.Mending.{CanAsk, IsMoved, less}
use Rattle.pl_update.specs.Timelines.Named.{AreNamed}
use Rattle.pl_update.proofs.AboutTimelines.StandingNamed.{are_named}
use Rattle.pl_update.proofs.AboutTimelines.Replacing.{found_placed}
use Rattle.pl_update.proofs.AboutTimelines.ReplacingLines.{gone_askable, gone_held, come_askable, rest_room, rest_named}
use Rattle.pl_board.proofs.Once.{once_rising}
use Rattle.pl_board.proofs.Watching.{stands_replaced}
use Rattle.std.proofs.Common.{ℕ, ◌++◌, Some}
use Rattle.pl_conflict.specs.declared.conflict.Conflict.{Conflict}
use Rattle.pl_conflict.specs.Sorting.{exchanged}
use Rattle.pl_update.specs.GoalsAndActivities.Near.{near, HoldSame}
use Rattle.pl_update.specs.GoalsAndActivities.Touched.{lost_goals, met_goals, turned_goals, touched_ids}
use Rattle.pl_update.proofs.AboutGoalsAndActivities.Turning.{near_before, near_after}
use Rattle.pl_update.specs.Evaluations.Kept.{AreOf}
use Rattle.pl_board.specs.declared.watched.WatchedState.{WatchedState}
use Rattle.pl_board.proofs.watched.WatchedState.replace_once.Goals as goal

pub turned_by-requires-clause-live : goal.turned_by-requires-clause-live
turned_by-requires-clause-live g c = c.requires.can.live

pub give_back-requires-clause-asked : goal.give_back-requires-clause-asked
give_back-requires-clause-asked g c =
    let s = c.args.self.now.state in
    let given : c.deref-3.result.now ≡ gone_from s c.args.gone.now = c.deref-3.ensures.value ∙ c.in_ok-given.ensures in
    subst (All (CanAsk s c.args.self.now.lines)) (sym given) (gone_askable s c.args.gone.now c.requires.watched.whole c.args.self.now.lines c.requires.watched.timelines)

pub give_back-requires-clause-held : goal.give_back-requires-clause-held
give_back-requires-clause-held g c =
    let s = c.args.self.now.state in
    let once = c.args.gone.now in
    let given : c.deref-3.result.now ≡ gone_from s once = c.deref-3.ensures.value ∙ c.in_ok-given.ensures in
    let can = c.requires.can in
    subst (HoldAll c.args.self.now.lines) (sym given) (gone_held s once c.args.placed.now c.requires.watched.whole can (once_rising once c.requires.rising) c.args.self.now.lines c.requires.watched.timelines)

pub give_back-requires-clause-named : goal.give_back-requires-clause-named
give_back-requires-clause-named g c = are_named c.args.self.now.state c.args.self.now.lines c.requires.watched.whole.rising c.requires.watched.timelines

pub replace-requires-clause-can : goal.replace-requires-clause-can
replace-requires-clause-can g c = c.requires.can

pub asked_of-requires-clause-whole : goal.asked_of-requires-clause-whole
asked_of-requires-clause-whole g c =
    let s = c.args.self.now.state in
    let once = c.args.gone.now in
    let is : c.replace.new.s ≡ with_plan once c.args.placed.now s = c.in_ok-mended.ensures.ok in
    rw is (whole_replaced s once c.args.placed.now c.requires.watched.whole c.requires.can)

pub asked_of-requires-clause-live : goal.asked_of-requires-clause-live
asked_of-requires-clause-live g c =
    let s = c.args.self.now.state in
    let once = c.args.gone.now in
    let is : c.replace.new.s ≡ with_plan once c.args.placed.now s = c.in_ok-mended.ensures.ok in
    subst (λ (u : PlanState). All (λ (a : Activity). activity_of a.id u.plan.activities ≡ Some a) c.args.placed.now) (sym is)
    (found_placed s once c.args.placed.now c.requires.watched.whole c.requires.can)

pub take_on-requires-clause-asked : goal.take_on-requires-clause-asked
take_on-requires-clause-asked g c =
    let s = c.args.self.now.state in
    let once = c.args.gone.now in
    let more = c.args.placed.now in
    let rest = c.give_back.new.self in
    let given : c.deref-3.result.now ≡ gone_from s once = c.deref-3.ensures.value ∙ c.in_ok-given.ensures in
    let can = c.requires.can in
    let left : IsMoved c.args.self.now.lines rest (less (gone_from s once)) = subst (λ (ds : List Demand). IsMoved c.args.self.now.lines rest (less ds)) given c.in_ok-give_back.ensures.moved in
    let is : c.replace.new.s ≡ with_plan once more s = c.in_ok-mended.ensures.ok in
    let taken : c.deref-4.result.now ≡ coming_to c.replace.new.s more = c.deref-4.ensures.value ∙ c.in_ok-taken.ensures in
    subst (λ (ds : List Demand). All (CanAsk c.replace.new.s rest) ds) (sym taken)
    (subst (λ (u : PlanState). All (CanAsk u rest) (coming_to u more)) (sym is) (come_askable s once more c.requires.watched.whole can (once_rising once c.requires.rising) c.args.self.now.lines rest c.requires.watched.timelines left))

pub take_on-requires-clause-room : goal.take_on-requires-clause-room
take_on-requires-clause-room g c =
    let s = c.args.self.now.state in
    let once = c.args.gone.now in
    let more = c.args.placed.now in
    let rest = c.give_back.new.self in
    let given : c.deref-3.result.now ≡ gone_from s once = c.deref-3.ensures.value ∙ c.in_ok-given.ensures in
    let can = c.requires.can in
    let left : IsMoved c.args.self.now.lines rest (less (gone_from s once)) = subst (λ (ds : List Demand). IsMoved c.args.self.now.lines rest (less ds)) given c.in_ok-give_back.ensures.moved in
    let is : c.replace.new.s ≡ with_plan once more s = c.in_ok-mended.ensures.ok in
    let taken : c.deref-4.result.now ≡ coming_to c.replace.new.s more = c.deref-4.ensures.value ∙ c.in_ok-taken.ensures in
    subst (λ (ds : List Demand). HaveRoom rest ds) (sym taken)
    (subst (λ (u : PlanState). HaveRoom rest (coming_to u more)) (sym is) (rest_room s once more c.requires.watched.whole can (once_rising once c.requires.rising) c.args.self.now.lines rest c.requires.watched.timelines left))

pub take_on-requires-clause-named : goal.take_on-requires-clause-named
take_on-requires-clause-named g c =
    let s = c.args.self.now.state in
    let once = c.args.gone.now in
    let more = c.args.placed.now in
    let rest = c.give_back.new.self in
    let given : c.deref-3.result.now ≡ gone_from s once = c.deref-3.ensures.value ∙ c.in_ok-given.ensures in
    let can = c.requires.can in
    let left : IsMoved c.args.self.now.lines rest (less (gone_from s once)) = subst (λ (ds : List Demand). IsMoved c.args.self.now.lines rest (less ds)) given c.in_ok-give_back.ensures.moved in
    let is : c.replace.new.s ≡ with_plan once more s = c.in_ok-mended.ensures.ok in
    subst (λ (u : PlanState). AreNamed u rest) (sym is) (rest_named s once more c.requires.watched.whole can (once_rising once c.requires.rising) c.args.self.now.lines rest c.requires.watched.timelines left)

pub turn-requires-clause-whole : goal.turn-requires-clause-whole
turn-requires-clause-whole g c =
    let s = c.args.self.now.state in
    let once = c.args.gone.now in
    let is : c.replace.new.s ≡ with_plan once c.args.placed.now s = c.in_ok-mended.ensures.ok in
    rw is (whole_replaced s once c.args.placed.now c.requires.watched.whole c.requires.can)

pub returns-clause-state : goal.returns-clause-state
returns-clause-state g c =
    let s = c.args.self.now.state in
    let once = c.args.gone.now in
    let more = c.args.placed.now in
    let is : c.replace.new.s ≡ with_plan once more s = c.in_ok-mended.ensures.ok in
    ap (λ (v : WatchedState). v.state) c.in_ok-turn.ensures.same ∙ is

pub returns-clause-watched : goal.returns-clause-watched
returns-clause-watched g c =
    let w = c.args.self.now in
    let s = w.state in
    let once = c.args.gone.now in
    let more = c.args.placed.now in
    let rest = c.give_back.new.self in
    let full = c.take_on.new.self in
    let t = c.replace.new.s in
    let given : c.deref-3.result.now ≡ gone_from s once = c.deref-3.ensures.value ∙ c.in_ok-given.ensures in
    let left : IsMoved w.lines rest (less (gone_from s once)) = subst (λ (ds : List Demand). IsMoved w.lines rest (less ds)) given c.in_ok-give_back.ensures.moved in
    let is : t ≡ with_plan once more s = c.in_ok-mended.ensures.ok in
    let taken : c.deref-4.result.now ≡ coming_to t more = c.deref-4.ensures.value ∙ c.in_ok-taken.ensures in
    let held : IsMoved rest full (asked_at (coming_to t more)) = subst (λ (ds : List Demand). IsMoved rest full (asked_at ds)) taken c.in_ok-take_on.ensures.moved in
    let numbers : List ℕ = turned_goals s once more in
    let ids : List ℕ = c.in_ok-turned.turned.after.ids.items in
    let went : List Conflict = c.in_ok-mended.mended.went.items in
    let came : List Conflict = c.in_ok-mended.mended.came.items in
    let can = c.requires.can in
    let same_ids : HoldSame ids (touched_ids s once more) = c.in_ok-turned.ensures.ids in
    let left_behind : c.in_ok-went.went.items ≡ near s numbers ids =
    c.in_ok-went.ensures
    ∙ (ap (λ l. near s l c.deref-2.result.now) (c.deref.ensures.value ∙ c.in_ok-turned.ensures.met)
    ∙ (ap (near s (met_goals s once more)) c.deref-2.ensures.value ∙ near_before s once more c.requires.watched.whole can ids)) in
    let stand_now : near t c.in_ok-turned.turned.after.numbers.items ids ≡ near t numbers ids =
    ap (λ l. near t l ids) c.in_ok-turned.ensures.lost
    ∙ subst (λ (u : PlanState). near u (lost_goals s once more) ids ≡ near u numbers ids) (sym is) (near_after s once more c.requires.watched.whole can ids) in
    let exchange : c.turn.new.self.conflicts ≡ exchanged c.take_on.new.set (near s numbers ids ++ went) (near t numbers ids ++ came) =
    c.in_ok-turn.ensures.conflicts
    ∙ (ap (λ l. exchanged c.take_on.new.set (l ++ went) (near t c.in_ok-turned.turned.after.numbers.items ids ++ came)) left_behind
    ∙ ap (λ l. exchanged c.take_on.new.set (near s numbers ids ++ went) (l ++ came)) stand_now) in
    let stands = stands_replaced s w.lines w.conflicts once more c.requires.watched.whole c.requires.watched.timelines c.requires.watched.found can c.requires.rising
    t rest full c.give_back.new.set c.take_on.new.set c.turn.new.self.conflicts ids went came
    is c.in_ok-give_back.ensures.mended left c.in_ok-take_on.ensures.mended held same_ids c.in_ok-mended.ensures.mended exchange in
    let kept : AreOf t c.replace.new.values = c.in_ok-mended.ensures.values in
    let same = c.in_ok-turn.ensures.same in
    let is_state : c.turn.new.self.state ≡ t = ap (λ (v : WatchedState). v.state) same in
    let is_lines : c.turn.new.self.lines ≡ full = ap (λ (v : WatchedState). v.lines) same in
    let is_values : c.turn.new.self.values ≡ c.replace.new.values = ap (λ (v : WatchedState). v.values) same in
    let is_links : c.turn.new.self.links ≡ c.replace.new.links = ap (λ (v : WatchedState). v.links) same in
    record {
      whole = rw is_state stands.whole;
      values = rw (is_state, is_values) kept;
      timelines = rw (is_state, is_lines) stands.are;
      store = rw (is_state, is_links) c.in_ok-mended.ensures.kept;
      found = rw is_state stands.found;
    }
