-- A move of a subtree leaves the open goals, and what is wrong with other activities.
use Rattle.std.proofs.Common.{◌≡◌, ℕ, ◌≤◌, eqb, Bool, true, false, List, [], ◌∷◌, ◌++◌, filter, Option, Some, None, refl, sym, ap, ◌∙◌, inl, inr}
use Rattle.std.specs.Prelude.{◌||◌, ◌&&◌, ◌⊎◌, Contains, not, nat_le}
use Rattle.std.specs.List.{flat_map, filter_map, list_any}
use Rattle.std.proofs.lemmas.Bool.{and_parts, eq-eqb, eqb-true, false_from_ne_true, not-true, or_from, or_left, or_right}
use Rattle.std.proofs.lemmas.Cmp.{nat_eq_equiv}
use Rattle.std.proofs.lemmas.Map.Views.{Contains-from_any, list_any-from_Contains}
use Rattle.pl_lists.proofs.Elements.{any_agree}
use Rattle.pl_conflict.specs.declared.conflict.Conflict.{Conflict}
use Rattle.pl_conflict.specs.Order.{has}
use Rattle.pl_moves.specs.Changes.{IsOfActivities, gone_by, placed_by}
use Rattle.pl_moves.specs.Runs.{CanBeMade}
use Rattle.pl_plan.specs.declared.activity.Activity.{Activity}
use Rattle.pl_plan.specs.declared.repair.RepairMove.{RepairMove}
use Rattle.pl_plan.specs.declared.repair.RepairMove.TheVariants.{Delete, Shift}
use Rattle.pl_plan.specs.Activities.{IsLive}
use Rattle.pl_plan.specs.Serving.{is_served, served_in}
use Rattle.pl_plan.specs.Trees.{Descends, child, itself, children_of, parent_of, subtree_of}
use Rattle.pl_plan.proofs.Members.{subtree_members}
use Rattle.pl_plan.proofs.Subtrees as subtrees
use Rattle.pl_semantics.specs.declared.plan_state.PlanState.{PlanState}
use Rattle.pl_semantics.specs.PlanStates.{among, floor_of, found, goal_at, is_open, of_found}
use Rattle.pl_semantics.specs.Goals.{off_at, off_of, open_at, open_goal, open_of}
use Rattle.pl_semantics.specs.Activities.{wrong_at, wrong_of}
use Rattle.pl_semantics.specs.Conflicts.{conflicts_of}
use Rattle.pl_semantics.specs.Moves.{applied}
use Rattle.pl_semantics.specs.Whole.{IsWhole}
use Rattle.pl_semantics.proofs.Found.{found_id}
use Rattle.pl_semantics.proofs.Owning.{Each, each_append, each_flat, each_found, each_none, each_when}
use Rattle.pl_semantics.proofs.Subjects.{off_is, wrong_is}
use Rattle.pl_update.specs.GoalsAndActivities.Near.{near}
use Rattle.pl_update.specs.GoalsAndActivities.Touched.{children_at, touched_goals, touched_ids}
use Rattle.pl_update.proofs.AboutLinks.Nearby.{among-append}
use Rattle.pl_bounds.specs.Plain.{is_plain}
use Rattle.pl_bounds.specs.Standing.{is_elsewhere, is_open_one}
use Rattle.pl_bounds.proofs.Around.{serve_before, touch_same}
use Rattle.pl_bounds.proofs.Differing.{has_passing}
use Rattle.pl_bounds.proofs.Following.{plain_is}
use Rattle.pl_bounds.proofs.Made.{follows, stays, whole_then}
use Rattle.pl_bounds.proofs.Opens.{open_not_served, open_stands, untouched}
use Rattle.pl_bounds.proofs.Unmoved.{steady}

-- ---- numbers among others

pub flipped : (n : ℕ) (ids : List ℕ) → list_any (eqb n) ids ≡ among n ids
flipped n ids = any_agree (eqb n) (λ i. eqb i n) (λ i. nat_eq_equiv.symm n i) ids

first_among : (i : ℕ) (ids : List ℕ) → among i (i ∷ ids) ≡ true
first_among i ids = or_left (eqb i i) (among i ids) (eq-eqb i i refl)

more_among : (i j : ℕ) (ids : List ℕ) → among j ids ≡ true → among j (i ∷ ids) ≡ true
more_among i j ids there = or_right (eqb i j) (among j ids) there

none_of_each : (f : ℕ → List ℕ) (n : ℕ) (ids : List ℕ) → ((i : ℕ) → among i ids ≡ true → among n (f i) ≡ false) → among n (flat_map f ids) ≡ false
none_of_each f n [] none = refl
none_of_each f n (i ∷ ids) none =
    among-append n (f i) (flat_map f ids)
    ∙ or_from (among n (f i)) (among n (flat_map f ids)) (none i (first_among i ids)) (none_of_each f n ids (λ j there. none j (more_among i j ids there)))

-- ---- what a subtree does not hold

module _ (s : PlanState) (whole : IsWhole s) (top : ℕ) where
  abbrev xs : List Activity
  xs = s.plan.activities

  abbrev sub : List ℕ
  sub = subtree_of top s.plan.activities

  -- what descends is held
  pub held : (n : ℕ) → IsLive n xs → Descends xs top n → among n sub ≡ true
  held n live under = sym (flipped n sub) ∙ list_any-from_Contains {eq = eqb} nat_eq_equiv n sub ((subtree_members xs whole.fits.rooted top n).1 (live, under))

  pub top_held : IsLive top xs → among top sub ≡ true
  top_held live = held top live itself

  no_child : (n i : ℕ) → among n sub ≡ false → among i sub ≡ true → among n (children_of i xs) ≡ false
  no_child n i apart there = false_from_ne_true (among n (children_of i xs)) (λ h. absurd (
      let up : parent_of n xs ≡ Some i = subtrees.child_parent xs whole.fits.rooted whole.rising i n (flipped n (children_of i xs) ∙ h) in
      let inside : Contains sub i = Contains-from_any {eq = eqb} eqb-true i sub (flipped i sub ∙ there) in
      let under : Descends xs top n = child n i up ((subtree_members xs whole.fits.rooted top i).0 inside).1 in
      let bad : true ≡ false = sym (held n (subtrees.named_live xs n i up) under) ∙ apart in
      cc))

  apart_from : (n : ℕ) → among n sub ≡ false → among n (touched_ids s sub []) ≡ false
  unfolding touched_ids
  apart_from n apart =
      among-append n (sub ++ []) (flat_map (children_at s) sub)
      ∙ or_from (among n (sub ++ [])) (among n (flat_map (children_at s) sub)) (among-append n sub [] ∙ or_from (among n sub) false apart refl)
      (none_of_each (children_at s) n sub (λ i there. no_child n i apart there))

-- ---- near goals and activities stand open goals, and what is wrong with these activities

each_among : (P : Conflict → Type 0) (rule : ℕ → List Conflict) (ids : List ℕ) → ((i : ℕ) → among i ids ≡ true → Each P (rule i)) → Each P (flat_map rule ids)
each_among P rule [] all = each_none P
each_among P rule (i ∷ ids) all = each_append P (rule i) (flat_map rule ids) (all i (first_among i ids)) (each_among P rule ids (λ j there. all j (more_among i j ids there)))

module _ (s : PlanState) (numbers ids : List ℕ) where
  abbrev IsNear : Conflict → Type 0
  IsNear q = (is_open_one q ≡ true) ⊎ (among q.subject ids ≡ true)

  opens_near : (n : ℕ) → Each IsNear (open_of s n)
  unfolding open_at
  opens_near n = each_found IsNear (open_at s) (goal_at s n) (λ g. each_when IsNear (is_open s g && nat_le (floor_of s) g.latest) (open_goal g) (inl refl))

  offs_near : (i : ℕ) → among i ids ≡ true → Each IsNear (off_of s i)
  offs_near i there = by (found s i) refl
    where
      by : (o : Option Activity) → found s i ≡ o → Each IsNear (of_found (off_at s) o)
      by None e = each_none IsNear
      by (Some a) e = λ q h. inr (ap (λ n. among n ids) ((off_is s a q h).0 ∙ found_id i s.plan.activities a e) ∙ there)

  wrongs_near : (i : ℕ) → among i ids ≡ true → Each IsNear (wrong_of s i)
  wrongs_near i there = by (found s i) refl
    where
      by : (o : Option Activity) → found s i ≡ o → Each IsNear (of_found (wrong_at s) o)
      by None e = each_none IsNear
      by (Some a) e = λ q h. inr (ap (λ n. among n ids) ((wrong_is s a q h).0 ∙ found_id i s.plan.activities a e) ∙ there)

  each_near : Each IsNear (near s numbers ids)
  unfolding near
  each_near =
      each_append IsNear (flat_map (open_of s) numbers ++ flat_map (off_of s) ids) (flat_map (wrong_of s) ids)
      (each_append IsNear (flat_map (open_of s) numbers) (flat_map (off_of s) ids) (each_flat IsNear (open_of s) numbers opens_near) (each_among IsNear (off_of s) ids offs_near))
      (each_among IsNear (wrong_of s) ids wrongs_near)

  not_near : (q : Conflict) → is_open_one q ≡ false → among q.subject ids ≡ false → has q (near s numbers ids) ≡ false
  not_near q closed other = false_from_ne_true (has q (near s numbers ids)) (λ h. absurd (by (each_near q h)))
    where
      by : IsNear q → ⊥
      by (inl opened) = let bad : true ≡ false = sym opened ∙ closed in cc
      by (inr there) = let bad : true ≡ false = sym there ∙ other in cc

-- ---- a move that concerns these activities alone

module _ (s : PlanState) (whole : IsWhole s) (next : s.next_id ≤ 3999999000) (m : RepairMove) (of : IsOfActivities m) (can : CanBeMade s m) (ids : List ℕ) (serves : (n : ℕ) → among n (filter_map served_in (placed_by s m)) ≡ true → is_served n s.plan.activities ≡ true) (others : (n : ℕ) → among n ids ≡ false → among n (touched_ids s (gone_by s m) (placed_by s m)) ≡ false) where
  open_stays : (q : Conflict) → is_open_one q ≡ true → has q (conflicts_of s) ≡ true → has q (conflicts_of (applied s m)) ≡ true
  open_stays q opened there = stays s whole next m of can q opened there (untouched s q.subject (gone_by s m) (placed_by s m) (serves q.subject) (open_not_served s q (open_stands s whole q opened there)))

  by_open : (q : Conflict) (b : Bool) → is_open_one q ≡ b → is_plain q ≡ true → (b || not (among q.subject ids)) ≡ true → has q (conflicts_of s) ≡ true → has q (conflicts_of (applied s m)) ≡ true
  by_open q true e plain either there = open_stays q e there
  by_open q false e plain either there =
      let numbers = touched_goals s (gone_by s m) (placed_by s m) in
      let concerned = touched_ids s (gone_by s m) (placed_by s m) in
      steady s (applied s m) numbers concerned whole (whole_then s whole next m of can) (follows s whole next m of can) q (plain_is q plain) there
      (not_near s numbers concerned q e (others q.subject (not-true (among q.subject ids) either)))

  pub elsewhere_stays : (q : Conflict) → has q (filter (is_elsewhere ids) (conflicts_of s)) ≡ true → (has q (conflicts_of (applied s m)) ≡ true) × (is_plain q ≡ true)
  elsewhere_stays q h =
      let both = has_passing (is_elsewhere ids) (conflicts_of s) q h in
      let two = and_parts (is_plain q) (is_open_one q || not (among q.subject ids)) both.1 in
      (by_open q (is_open_one q) refl two.0 two.1 both.0, two.0)

-- ---- a deletion and a shift

module _ (s : PlanState) (whole : IsWhole s) (next : s.next_id ≤ 3999999000) (id : ℕ) where
  pub deletion_leaves : CanBeMade s (Delete id) → (q : Conflict) → has q (filter (is_elsewhere (subtree_of id s.plan.activities)) (conflicts_of s)) ≡ true → (has q (conflicts_of (applied s (Delete id))) ≡ true) × (is_plain q ≡ true)
  deletion_leaves can = elsewhere_stays s whole next (Delete id) tt can (subtree_of id s.plan.activities) (λ n h. absurd (cc)) (apart_from s whole id)

  pub shift_leaves : (to : ℕ) → CanBeMade s (Shift id to) → (q : Conflict) → has q (filter (is_elsewhere (subtree_of id s.plan.activities)) (conflicts_of s)) ≡ true → (has q (conflicts_of (applied s (Shift id to))) ≡ true) × (is_plain q ≡ true)
  shift_leaves to can = elsewhere_stays s whole next (Shift id to) tt can (subtree_of id s.plan.activities) (serve_before s whole id to can) (λ n apart. touch_same s whole id to can n ∙ apart_from s whole id n apart)
