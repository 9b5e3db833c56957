-- Each change leaves a plan state whole.
use Rattle.std.proofs.Common.{◌≡◌, ℕ, ◌+◌, ◌<◌, ◌≤◌, List, [], ◌∷◌, ◌++◌, refl, arith}
use Rattle.std.specs.Prelude.{min, All, Option, Some, None, IfSome, slice_get, slice_set, ℤ, pos}
use Rattle.std.proofs.lemmas.List.Elements.{All-nil, All-cons, All-append, All-weaker}
use Rattle.pl_facts.specs.declared.goal.Goal.{Goal}
use Rattle.pl_facts.specs.Goals.{goal_of, with_dropped}
use Rattle.pl_model.specs.declared.whole.Model.{Model}
use Rattle.pl_model.specs.Checked.{IsChecked}
use Rattle.pl_plan.specs.declared.activity.Activity.{Activity}
use Rattle.pl_semantics.specs.declared.plan_state.PlanState.{PlanState}
use Rattle.pl_semantics.specs.Demands.{demands_of, demands_at, use_at, level_at, state_at}
use Rattle.pl_semantics.specs.Conflicts.{conflicts_of}
use Rattle.pl_semantics.specs.Goals.{open_at, off_at}
use Rattle.pl_semantics.specs.Activities.{wrong_at}
use Rattle.pl_semantics.specs.Links.{links_at}
use Rattle.pl_semantics.specs.Timelines.{line_conflicts}
use Rattle.pl_facts.specs.Bases.{first_bases}
use Rattle.pl_semantics.specs.Whole.{IsWhole, IsGoalOf, IsCarried, IsIdBelow, HasBegun}
use Rattle.pl_update.specs.Changes.Changes.{first_state, with_goal, without_goal, moved_on, told_now, committed_to, withdrawn, with_next, CanTell}
use Rattle.pl_update.specs.Changes.Replaced.{CanReplace, replaced, next_after, with_plan}
use Rattle.pl_update.proofs.AboutChanges.Goals.{distinct_with, carried_with, goals_dropped, distinct_dropped, carried_dropped}
use Rattle.pl_update.proofs.AboutChanges.Telling.{bases_later, bases_told, bases_first}
use Rattle.pl_update.proofs.AboutChanges.Putting.{puttable, rising-replaced, All-replaced, next_grows, next_above, next_bounded}

-- what has begun and is committed is so when the present is later and more is committed
begun_later : (moment now committed h start : ℕ) (measured : Option ℕ) → moment ≤ now → committed ≤ h → IfSome measured (λ end. (start ≤ moment) × (start < committed)) → IfSome measured (λ end. (start ≤ now) × (start < h))
begun_later moment now committed h start None later more begun = tt
begun_later moment now committed h start (Some m) later more begun = (omega (arith, begun.0, later), omega (arith, begun.1, more))

pub whole_with_goal : (s : PlanState) (g : Goal) → IsWhole s → goal_of g.number s.goals ≡ None → IsGoalOf s.model g → IsWhole (with_goal g s)
whole_with_goal s g w none is = record {
  checked = w.checked;
  rising = w.rising;
  fits = w.fits;
  goals = All-append (IsGoalOf s.model) s.goals (g ∷ []) w.goals (All-cons (IsGoalOf s.model) g [] is (All-nil (IsGoalOf s.model)));
  distinct = distinct_with s.goals g w.distinct none;
  carried = All-weaker (IsCarried s.goals) (IsCarried (s.goals ++ g ∷ [])) (λ a some. carried_with s.goals g a.goal some) s.plan.activities w.carried;
  bases = w.bases;
  present = w.present;
  horizon = w.horizon;
  ids = w.ids;
  next = w.next;
  limit = w.limit;
  live = w.live;
  begun = w.begun;
}

pub whole_without_goal : (s : PlanState) (n : ℕ) → IsWhole s → IsWhole (without_goal n s)
whole_without_goal s n w = record {
  checked = w.checked;
  rising = w.rising;
  fits = w.fits;
  goals = goals_dropped s.model n s.goals w.goals;
  distinct = distinct_dropped n s.goals w.distinct;
  carried = All-weaker (IsCarried s.goals) (IsCarried (with_dropped n s.goals)) (λ a some. carried_dropped n s.goals a.goal some) s.plan.activities w.carried;
  bases = w.bases;
  present = w.present;
  horizon = w.horizon;
  ids = w.ids;
  next = w.next;
  limit = w.limit;
  live = w.live;
  begun = w.begun;
}

pub whole_moved_on : (s : PlanState) (now : ℕ) → IsWhole s → s.moment < now → now ≤ s.model.horizon → IsWhole (moved_on now s)
whole_moved_on s now w later bound = record {
  checked = w.checked;
  rising = w.rising;
  fits = w.fits;
  goals = w.goals;
  distinct = w.distinct;
  carried = w.carried;
  bases = bases_later s.model s.moment now s.bases (omega (arith, later)) w.bases;
  present = bound;
  horizon = w.horizon;
  ids = w.ids;
  next = w.next;
  limit = w.limit;
  live = w.live;
  begun = All-weaker (HasBegun s.moment s.committed) (HasBegun now s.committed) (λ a h. begun_later s.moment now s.committed s.committed a.start a.measured (omega (arith, later)) (omega arith) h) s.plan.activities w.begun;
}

pub whole_told : (s : PlanState) (line : ℕ) (value : ℤ) → IsWhole s → CanTell value (slice_get s.model.timelines line) → IsWhole (told_now line value s)
whole_told s line value w can = record {
  checked = w.checked;
  rising = w.rising;
  fits = w.fits;
  goals = w.goals;
  distinct = w.distinct;
  carried = w.carried;
  bases = bases_told s.model s.moment line value s.bases w.bases can;
  present = w.present;
  horizon = w.horizon;
  ids = w.ids;
  next = w.next;
  limit = w.limit;
  live = w.live;
  begun = w.begun;
}

pub whole_committed : (s : PlanState) (h : ℕ) → IsWhole s → s.committed ≤ h → h ≤ s.model.horizon → IsWhole (committed_to h s)
whole_committed s h w later most = record {
  checked = w.checked;
  rising = w.rising;
  fits = w.fits;
  goals = w.goals;
  distinct = w.distinct;
  carried = w.carried;
  bases = w.bases;
  present = w.present;
  horizon = most;
  ids = w.ids;
  next = w.next;
  limit = w.limit;
  live = w.live;
  begun = All-weaker (HasBegun s.moment s.committed) (HasBegun s.moment h) (λ a is. begun_later s.moment s.moment s.committed h a.start a.measured (omega arith) later is) s.plan.activities w.begun;
}

-- what is measured has begun, so it stays committed where what starts after the present is withdrawn
begun_withdrawn : (moment committed start : ℕ) (measured : Option ℕ) → IfSome measured (λ end. (start ≤ moment) × (start < committed)) → IfSome measured (λ end. (start ≤ moment) × (start < min committed (moment + 1)))
begun_withdrawn moment committed start None begun = tt
begun_withdrawn moment committed start (Some m) begun = (begun.0, omega (arith, begun.0, begun.1))

pub whole_withdrawn : (s : PlanState) → IsWhole s → IsWhole (withdrawn s)
whole_withdrawn s w = record {
  checked = w.checked;
  rising = w.rising;
  fits = w.fits;
  goals = w.goals;
  distinct = w.distinct;
  carried = w.carried;
  bases = w.bases;
  present = w.present;
  horizon = let most : s.committed ≤ s.model.horizon = w.horizon in omega (arith, most);
  ids = w.ids;
  next = w.next;
  limit = w.limit;
  live = w.live;
  begun = All-weaker (HasBegun s.moment s.committed) (HasBegun s.moment (min s.committed (s.moment + 1))) (λ a is. begun_withdrawn s.moment s.committed a.start a.measured is) s.plan.activities w.begun;
}

pub whole_with_next : (s : PlanState) (id : ℕ) → IsWhole s → 1 ≤ id → All (IsIdBelow id) s.plan.activities → id ≤ s.next_id → IsWhole (with_next id s)
whole_with_next s id w least ids most = record {
  checked = w.checked;
  rising = w.rising;
  fits = w.fits;
  goals = w.goals;
  distinct = w.distinct;
  carried = w.carried;
  bases = w.bases;
  present = w.present;
  horizon = w.horizon;
  ids = ids;
  next = (least, let high : s.next_id ≤ 4000000001 = w.next.1 in omega (arith, most, high));
  limit = w.limit;
  live = w.live;
  begun = w.begun;
}

pub whole_first : (model : Model) (live : ℕ) → IsChecked model → live ≤ 10000 → IsWhole (first_state model live)
whole_first model live checked most = record {
  checked = checked;
  rising = tt;
  fits = record { rooted = record { parents = All-nil _ }; each = All-nil _; filled = All-nil _; no_other = All-nil _ };
  goals = All-nil (IsGoalOf model);
  distinct = λ i j d lt within. absurd (omega (arith, lt, within));
  carried = All-nil (IsCarried []);
  bases = bases_first model checked;
  present = omega arith;
  horizon = omega arith;
  ids = All-nil (IsIdBelow 1);
  next = (omega arith, omega arith);
  limit = most;
  live = omega arith;
  begun = All-nil (HasBegun 0 0);
}

pub whole_replaced : (s : PlanState) (gone : List ℕ) (more : List Activity) → IsWhole s → CanReplace s gone more → IsWhole (with_plan gone more s)
whole_replaced s gone more w can =
    let next = next_after s.next_id more in
    let grows : s.next_id ≤ next_after s.next_id more = next_grows s.next_id more in
    record {
      checked = w.checked;
      rising = rising-replaced s.plan.activities gone more (puttable s.plan.activities gone more w.rising can.once can.free) w.rising;
      fits = can.fits;
      goals = w.goals;
      distinct = w.distinct;
      carried = All-replaced (IsCarried s.goals) gone more s.plan.activities can.carried w.carried;
      bases = w.bases;
      present = w.present;
      horizon = w.horizon;
      ids = All-replaced (IsIdBelow (next_after s.next_id more)) gone more s.plan.activities
          (λ k d lt. ((can.ids k d lt).0, next_above s.next_id more k d lt))
          (All-weaker (IsIdBelow s.next_id) (IsIdBelow (next_after s.next_id more)) (λ a is. let below : a.id < s.next_id = is.1 in (is.0, omega (arith, below, grows))) s.plan.activities w.ids);
      next = (let least : 1 ≤ s.next_id = w.next.0 in omega (arith, least, grows), next_bounded s.next_id more w.next.1 can.ids);
      limit = w.limit;
      live = can.few;
      begun = All-replaced (HasBegun s.moment s.committed) gone more s.plan.activities can.begun w.begun;
    }

-- the same of lists that are known by equations
pub whole_replaced_as : (s : PlanState) (gone : List ℕ) (more xs : List Activity) (next : ℕ) → IsWhole s → CanReplace s gone more → xs ≡ replaced s.plan.activities gone more → next ≡ next_after s.next_id more → IsWhole (record s { plan = record { activities = xs }; next_id = next })
whole_replaced_as s gone more xs next w can is later = rw (is, later) (whole_replaced s gone more w can)

pub whole_first_as : (model m : Model) (live : ℕ) (xs : List Activity) (goals : List Goal) (bases : List (Option (ℤ × ℤ))) → IsChecked model → live ≤ 10000 → m ≡ model → xs ≡ [] → goals ≡ [] → bases ≡ first_bases model → IsWhole (record { model = m; plan = record { activities = xs }; goals = goals; bases = bases; moment = 0; committed = 0; next_id = 1; live_limit = live })
whole_first_as model m live xs goals bases checked most em ex eg eb = rw (em, ex, eg, eb) (whole_first model live checked most)

pub whole_told_as : (s : PlanState) (line : ℕ) (value : ℤ) (bases : List (Option (ℤ × ℤ))) → IsWhole s → CanTell value (slice_get s.model.timelines line) → bases ≡ slice_set s.bases line (Some (pos s.moment, value)) → IsWhole (record s { bases = bases })
whole_told_as s line value bases w can is = rw is (whole_told s line value w can)

-- ---- what is found does not hang on the next id

pub demands_next : (s : PlanState) (id : ℕ) → demands_of (with_next id s) ≡ demands_of s
unfolding demands_at
demands_next s id = refl

pub conflicts_next : (s : PlanState) (id : ℕ) → conflicts_of (with_next id s) ≡ conflicts_of s
unfolding conflicts_of open_at off_at wrong_at links_at line_conflicts use_at level_at state_at demands_at
conflicts_next s id = refl
