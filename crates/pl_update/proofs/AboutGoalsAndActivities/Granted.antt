-- A commit of what no conflict touches changes no conflict: what is newly committed has none.
use Rattle.std.proofs.Common.{◌≡◌, ℕ, ◌+◌, ◌<◌, ◌≤◌, List, [], ◌∷◌, ◌++◌, Bool, true, false, not, ◌&&◌, ◌||◌, nat_lt, nat_le, Option, Some, None, All, refl, sym, ◌∙◌, ap, subst, arith}
use Rattle.std.specs.List.{flat_map}
use Rattle.std.proofs.lemmas.Bool.{leb-false, ltb-false, ltb-true, lt-leb, leb-true, le-ltb, lt-ltb, le-leb, or_left, or_right, or_parts, or_from}
use Rattle.std.proofs.lemmas.List.Elements.{All-head, All-tail}
use Rattle.pl_lists.proofs.Tests.{not_and_parts}
use Rattle.pl_conflict.specs.declared.conflict.Conflict.{Conflict}
use Rattle.pl_conflict.specs.declared.conflict.Code.TheVariants as code
use Rattle.pl_conflict.specs.Order.{has}
use Rattle.pl_conflict.specs.Sorting.{sorted}
use Rattle.pl_conflict.proofs.Sorting.{same, same_is, has-append, has-sorted}
use Rattle.pl_facts.specs.declared.goal.Goal.{Goal}
use Rattle.pl_plan.specs.declared.activity.Activity.{Activity}
use Rattle.pl_plan.specs.Fitting.{kind_of}
use Rattle.pl_links.specs.Broken.{broken_by}
use Rattle.pl_semantics.specs.declared.plan_state.PlanState.{PlanState}
use Rattle.pl_semantics.specs.PlanStates.{floor_of, is_committed, is_ahead, is_open, end_at, reservations_of, if_planned, of_found, when, served_by}
use Rattle.pl_semantics.specs.Goals.{open_goal, open_at, off_from, off_goal, off_at, goal_conflicts}
use Rattle.pl_semantics.specs.Activities.{at_start, wrong_at, activity_conflicts, late_at, unset_one, unset_at, params_at, bad_param, bad_duration, bad_amount, bad_values_at, undetailed_at, past_end, overrun_at}
use Rattle.pl_semantics.specs.Links.{placed_of, placed_in, lone, place_in, order_at, unmet_from, unmet_order, link_conflict, conflict_of, links_at, link_conflicts}
use Rattle.pl_semantics.specs.Timelines.{line_conflicts, timeline_conflicts}
use Rattle.pl_semantics.specs.Demands.{use_at, level_at, state_at, demands_at}
use Rattle.pl_semantics.specs.Conflicts.{conflicts_of}
use Rattle.pl_semantics.specs.Grants.{touches_before}
use Rattle.pl_semantics.proofs.Owning.{Each, each_append, each_when, each_found, each_flat}
use Rattle.pl_update.specs.Changes.Changes.{committed_to}
use Rattle.pl_update.proofs.AboutGoalsAndActivities.Passing.{has_first}

-- ---- each of a list of conflicts

each_left : (P : Conflict → Type 0) (xs ys : List Conflict) → Each P (xs ++ ys) → Each P xs
each_left P xs ys each q h = each q (has-append xs ys q ∙ or_left (has q xs) (has q ys) h)

each_right : (P : Conflict → Type 0) (xs ys : List Conflict) → Each P (xs ++ ys) → Each P ys
each_right P xs ys each q h = each q (has-append xs ys q ∙ or_right (has q xs) (has q ys) h)

pub each_case : (P : Conflict → Type 0) (k q : Conflict) (rest b : Bool) → same q k ≡ b → P k → (rest ≡ true → P q) → (b || rest) ≡ true → P q
each_case P k q rest true e first more h = subst P (sym (same_is q k e)) first
each_case P k q rest false e first more h = more h

each_all : (P : Conflict → Type 0) (ks : List Conflict) → All P ks → Each P ks
each_all P [] all q h = absurd (cc)
each_all P (k ∷ ks) all q h = each_case P k q (has q ks) (same q k) refl (All-head P k ks all) (each_all P ks (All-tail P k ks all) q) h

-- two rules that give the same of each give the same of all, where that is known of what the first gives
same_all : {X : Type 0} (P : Conflict → Type 0) (f g : X → List Conflict) → ((x : X) → Each P (f x) → f x ≡ g x) → (xs : List X) → Each P (flat_map f xs) → flat_map f xs ≡ flat_map g xs
same_all {X} P f g alike [] each = refl
same_all {X} P f g alike (x ∷ xs) each =
    let first : f x ≡ g x = alike x (each_left P (f x) (flat_map f xs) each) in
    let rest : flat_map f xs ≡ flat_map g xs = same_all P f g alike xs (each_right P (f x) (flat_map f xs) each) in
    ap (λ (ks : List Conflict). ks ++ flat_map f xs) first ∙ ap (λ (ks : List Conflict). g x ++ ks) rest

-- no conflict begins before the moment
abbrev pub From : ℕ → Conflict → Type 0
From h k = h ≤ k.from

-- a rule that gives a conflict where a test holds
when_alike : (h : ℕ) (one other : Bool) (k : Conflict) → (one ≡ true → h ≤ k.from → other ≡ true) → (one ≡ false → other ≡ false) → Each (From h) (when one k) → when one k ≡ when other k
when_alike h true other k there away each = ap (λ (b : Bool). when b k) (sym (there refl (each k (has_first k []))))
when_alike h false other k there away each = ap (λ (b : Bool). when b k) (sym (away refl))

found_alike : {X : Type 0} (h : ℕ) (f g : X → List Conflict) → ((x : X) → Each (From h) (f x) → f x ≡ g x) → (o : Option X) → Each (From h) (of_found f o) → of_found f o ≡ of_found g o
found_alike {X} h f g alike None each = refl
found_alike {X} h f g alike (Some x) each = alike x each

-- conflicts that begin no later than a moment before it
none_early : (start h : ℕ) (ks : List Conflict) → start < h → Each (λ q. q.from ≤ start) ks → Each (From h) ks → ks ≡ []
none_early start h [] early up from = refl
none_early start h (k ∷ ks) early up from =
    let most : k.from ≤ start = up k (has_first k ks) in
    let least : h ≤ k.from = from k (has_first k ks) in
    absurd (omega (arith, early, most, least))

-- ---- where conflicts of an activity begin

off_early : (s : PlanState) (a : Activity) → Each (λ q. q.from ≤ a.start) (of_found (off_from a) (served_by s a))
off_early s a = each_found (λ q. q.from ≤ a.start) (off_from a) (served_by s a) (λ g. each_when (λ q. q.from ≤ a.start) (nat_lt a.start g.earliest || nat_lt g.latest a.start) (off_goal a g) (omega arith))

abbrev wrong_there : PlanState → Activity → List Conflict
wrong_there s a = late_at s a ++ unset_at s a ++ bad_values_at s a ++ undetailed_at s a ++ overrun_at s a

bad_early : (s : PlanState) (a : Activity) → Each (λ q. q.from ≤ a.start) (bad_values_at s a)
bad_early s a =
    each_append Is (flat_map (bad_param s a) (params_at s a) ++ of_found (bad_duration s a) (kind_of s.model a)) (flat_map (bad_amount s a) (reservations_of s a))
    (each_append Is (flat_map (bad_param s a) (params_at s a)) (of_found (bad_duration s a) (kind_of s.model a))
    (each_flat Is (bad_param s a) (params_at s a) (λ p. each_when Is _ (at_start a code.BadValue p.0 0) itself))
    (each_found Is (bad_duration s a) (kind_of s.model a) (λ k. each_when Is _ (at_start a code.BadValue 16 0) itself)))
    (each_flat Is (bad_amount s a) (reservations_of s a) (λ r. each_when Is _ (at_start a code.BadValue (17 + r.0) 0) itself))
  where
    Is : Conflict → Type 0
    Is q = q.from ≤ a.start

    itself : a.start ≤ a.start
    itself = omega arith

wrong_early : (s : PlanState) (a : Activity) → Each (λ q. q.from ≤ a.start) (wrong_there s a)
wrong_early s a =
    each_append Is (late_at s a ++ unset_at s a ++ bad_values_at s a ++ undetailed_at s a) (overrun_at s a)
    (each_append Is (late_at s a ++ unset_at s a ++ bad_values_at s a) (undetailed_at s a)
    (each_append Is (late_at s a ++ unset_at s a) (bad_values_at s a)
    (each_append Is (late_at s a) (unset_at s a)
    (each_when Is _ (at_start a code.Late 0 0) itself)
    (each_flat Is (unset_one s a) (params_at s a) (λ p. each_when Is _ (at_start a code.Unset p.0 0) itself)))
    (bad_early s a))
    (each_when Is _ (at_start a code.Undetailed 0 0) itself))
    (each_found Is (past_end s a) (end_at s a) (λ end. each_when Is _ (at_start a code.Overrun 0 end) itself))
  where
    Is : Conflict → Type 0
    Is q = q.from ≤ a.start

    itself : a.start ≤ a.start
    itself = omega arith

-- ---- tests

not_first : (b c : Bool) → b ≡ false → not (b && c) ≡ true
not_first true c e = absurd (cc)
not_first false c e = refl

not_both : (b c : Bool) → b ≡ true → c ≡ true → not (b && c) ≡ false
not_both true true e f = refl
not_both true false e f = absurd (cc)
not_both false c e f = absurd (cc)

module _ (s : PlanState) (h : ℕ) (later : s.committed ≤ h) where
  abbrev next : PlanState
  next = committed_to h s

  -- ---- goals

  pub open_alike : (g : Goal) → Each (From h) (open_at s g) → open_at s g ≡ open_at next g
  unfolding open_at
  open_alike g each = when_alike h (is_open s g && nat_le (floor_of s) g.latest) (is_open s g && nat_le (floor_of next) g.latest) (open_goal g) there away each
    where
      there : (is_open s g && nat_le (floor_of s) g.latest) ≡ true → h ≤ g.latest → (is_open s g && nat_le (floor_of next) g.latest) ≡ true
      there e up = by (is_open s g) e
        where
          by : (b : Bool) → (b && nat_le (floor_of s) g.latest) ≡ true → (b && nat_le (floor_of next) g.latest) ≡ true
          by true f = let above = leb-true (floor_of s) g.latest f in le-leb (floor_of next) g.latest (omega (arith, above, up))
          by false f = f

      away : (is_open s g && nat_le (floor_of s) g.latest) ≡ false → (is_open s g && nat_le (floor_of next) g.latest) ≡ false
      away e = by (is_open s g) e
        where
          by : (b : Bool) → (b && nat_le (floor_of s) g.latest) ≡ false → (b && nat_le (floor_of next) g.latest) ≡ false
          by true f = let less = leb-false (floor_of s) g.latest f in lt-leb (floor_of next) g.latest (omega (arith, later, less))
          by false f = f

  -- ---- what is not committed

  planned_alike : (a : Activity) (wrong : List Conflict) → Each (λ q. q.from ≤ a.start) wrong → Each (From h) (if_planned (is_committed s a) wrong) → if_planned (is_committed s a) wrong ≡ if_planned (is_committed next a) wrong
  planned_alike a wrong early each = by (is_committed s a) (is_committed next a) refl refl each
    where
      by : (b c : Bool) → is_committed s a ≡ b → is_committed next a ≡ c → Each (From h) (if_planned b wrong) → if_planned b wrong ≡ if_planned c wrong
      by true true e f each = refl
      by true false e f each = let less = ltb-true a.start s.committed e in let up = ltb-false a.start h f in absurd (omega (arith, less, up, later))
      by false true e f each = none_early a.start h wrong (ltb-true a.start h f) early each
      by false false e f each = refl

  pub off_alike : (a : Activity) → Each (From h) (off_at s a) → off_at s a ≡ off_at next a
  unfolding off_at
  off_alike a each = planned_alike a (of_found (off_from a) (served_by s a)) (off_early s a) each

  pub wrong_alike : (a : Activity) → Each (From h) (wrong_at s a) → wrong_at s a ≡ wrong_at next a
  unfolding wrong_at
  wrong_alike a each = planned_alike a (wrong_there s a) (wrong_early s a) each

  -- ---- links

  stays_ahead : (a : Activity) → h ≤ a.start → is_ahead next a ≡ true
  stays_ahead a up = not_first (is_committed next a) (nat_le a.start s.moment) (le-ltb a.start h up)

  stays_past : (a : Activity) → is_ahead s a ≡ false → is_ahead next a ≡ false
  stays_past a e =
      let both = not_and_parts (is_committed s a) (nat_le a.start s.moment) e in
      let less = ltb-true a.start s.committed both.0 in
      not_both (is_committed next a) (nat_le a.start s.moment) (lt-ltb a.start h (omega (arith, less, later))) both.1

  unmet_alike : (parent : Activity) (index : ℕ) (first second : Option Activity) → Each (From h) (unmet_from s parent index first second) → unmet_from s parent index first second ≡ unmet_from next parent index first second
  unmet_alike parent index (Some first) (Some second) each =
      when_alike h (is_ahead s parent || (is_ahead s first || is_ahead s second)) (is_ahead next parent || (is_ahead next first || is_ahead next second)) _
      (λ e up. or_left (is_ahead next parent) (is_ahead next first || is_ahead next second) (stays_ahead parent (omega (arith, up))))
      (λ e. let one = or_parts (is_ahead s parent) (is_ahead s first || is_ahead s second) e in
      let two = or_parts (is_ahead s first) (is_ahead s second) one.1 in
      or_from (is_ahead next parent) (is_ahead next first || is_ahead next second) (stays_past parent one.0) (or_from (is_ahead next first) (is_ahead next second) (stays_past first two.0) (stays_past second two.1)))
      each
  unmet_alike parent index (Some first) None each = refl
  unmet_alike parent index None second each = refl

  link_alike : (a : Activity) (slots : Bool) (index : ℕ) → Each (From h) (link_conflict s a slots index) → link_conflict s a slots index ≡ link_conflict next a slots index
  link_alike a false index each = when_alike h (is_ahead s a) (is_ahead next a) (lone a index) (λ e up. stays_ahead a up) (stays_past a) each
  link_alike a true index each = found_alike h (unmet_order s a index) (unmet_order next a index) (λ o. unmet_alike a index (place_in s a o.first) (place_in s a o.second)) (order_at s a index) each

  links_alike : (a : Activity) → Each (From h) (links_at s a) → links_at s a ≡ links_at next a
  unfolding links_at
  links_alike a each = same_all (From h) (conflict_of s a) (conflict_of next a) (λ b. link_alike a b.slots b.index) (broken_by s.model (placed_in s) (placed_of s a)) each

  -- ---- timelines

  lines_alike : timeline_conflicts s ≡ timeline_conflicts next
  unfolding line_conflicts use_at level_at state_at demands_at
  lines_alike = refl

  -- ---- all

  goals_alike : Each (From h) (goal_conflicts s) → goal_conflicts s ≡ goal_conflicts next
  goals_alike each =
      let one = same_all (From h) (open_at s) (open_at next) open_alike s.goals (each_left (From h) (flat_map (open_at s) s.goals) (flat_map (off_at s) s.plan.activities) each) in
      let two = same_all (From h) (off_at s) (off_at next) off_alike s.plan.activities (each_right (From h) (flat_map (open_at s) s.goals) (flat_map (off_at s) s.plan.activities) each) in
      ap (λ (ks : List Conflict). ks ++ flat_map (off_at s) s.plan.activities) one ∙ ap (λ (ks : List Conflict). flat_map (open_at next) s.goals ++ ks) two

  all_alike : Each (From h) (goal_conflicts s ++ activity_conflicts s ++ link_conflicts s ++ timeline_conflicts s)
      → goal_conflicts s ++ activity_conflicts s ++ link_conflicts s ++ timeline_conflicts s ≡ goal_conflicts next ++ activity_conflicts next ++ link_conflicts next ++ timeline_conflicts next
  all_alike each =
      let three = each_left (From h) (goal_conflicts s ++ activity_conflicts s ++ link_conflicts s) (timeline_conflicts s) each in
      let two = each_left (From h) (goal_conflicts s ++ activity_conflicts s) (link_conflicts s) three in
      let goals = goals_alike (each_left (From h) (goal_conflicts s) (activity_conflicts s) two) in
      let activities = same_all (From h) (wrong_at s) (wrong_at next) wrong_alike s.plan.activities (each_right (From h) (goal_conflicts s) (activity_conflicts s) two) in
      let links = same_all (From h) (links_at s) (links_at next) links_alike s.plan.activities (each_right (From h) (goal_conflicts s ++ activity_conflicts s) (link_conflicts s) three) in
      ap (λ (ks : List Conflict). ks ++ activity_conflicts s ++ link_conflicts s ++ timeline_conflicts s) goals
      ∙ ap (λ (ks : List Conflict). goal_conflicts next ++ ks ++ link_conflicts s ++ timeline_conflicts s) activities
      ∙ ap (λ (ks : List Conflict). goal_conflicts next ++ activity_conflicts next ++ ks ++ timeline_conflicts s) links
      ∙ ap (λ (ks : List Conflict). goal_conflicts next ++ activity_conflicts next ++ link_conflicts next ++ ks) lines_alike

  conflicts_alike : All (λ k. touches_before h k ≡ false) (conflicts_of s) → conflicts_of next ≡ conflicts_of s
  unfolding conflicts_of
  conflicts_alike untouched =
      let parts = goal_conflicts s ++ activity_conflicts s ++ link_conflicts s ++ timeline_conflicts s in
      let each : Each (From h) parts = λ q there. ltb-false q.from h (each_all (λ k. touches_before h k ≡ false) (sorted parts) untouched q (has-sorted parts q ∙ there)) in
      sym (ap sorted (all_alike each))

-- no conflict comes or goes
pub committed_same : (s : PlanState) (h : ℕ) → s.committed ≤ h → All (λ k. touches_before h k ≡ false) (conflicts_of s) → conflicts_of (committed_to h s) ≡ conflicts_of s
committed_same s h later untouched = conflicts_alike s h later untouched
