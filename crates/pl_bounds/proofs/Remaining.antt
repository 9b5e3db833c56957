-- A conflict of links that a move does not touch stands after it.
use Rattle.std.proofs.Common.{◌≡◌, ℕ, ◌<◌, ◌≤◌, eqb, true, false, List, [], ◌∷◌, map, filter, Option, Some, None, refl, sym, ap, ◌∙◌, subst, arith}
use Rattle.std.specs.Prelude.{All, not, slice_get, option_and_then}
use Rattle.std.specs.Option.{option_map}
use Rattle.std.proofs.lemmas.Bool.{and_parts, ne_eqb, not-true, or_from}
use Rattle.std.proofs.lemmas.List.Elements.{All-nil, All-cons}
use Rattle.pl_lists.proofs.Tests.{or_first_false}
use Rattle.pl_conflict.specs.declared.conflict.Conflict.{Conflict}
use Rattle.pl_conflict.specs.declared.conflict.Code.{Code}
use Rattle.pl_conflict.specs.declared.conflict.Code.TheVariants.{OpenGoal, OffGoal, Late, Unset, BadValue, Undetailed, Overrun, Temporal, Linked, Over, Low, High, Must, BadStep}
use Rattle.pl_conflict.specs.Order.{has}
use Rattle.pl_links.specs.Broken.{links_of}
use Rattle.pl_plan.specs.declared.activity.Activity.{Activity}
use Rattle.pl_plan.specs.declared.repair.RepairMove.TheVariants.{Add, Delete, Shift}
use Rattle.pl_plan.specs.Fitting.{fills}
use Rattle.pl_plan.specs.Index.{is_number}
use Rattle.pl_plan.specs.Trees.{id_of, parent_of, subtree_of}
use Rattle.pl_plan.proofs.Climbs.{all_at}
use Rattle.pl_semantics.specs.declared.plan_state.PlanState.{PlanState}
use Rattle.pl_semantics.specs.Conflicts.{conflicts_of}
use Rattle.pl_semantics.specs.Links.{links_at, link_conflicts, placed_of}
use Rattle.pl_semantics.specs.Moves.{applied, moved_with, root_for}
use Rattle.pl_semantics.specs.Parts.{part_of, of_links}
use Rattle.pl_semantics.specs.PlanStates.{among, found, of_found}
use Rattle.pl_semantics.specs.Whole.{IsIdBelow, IsWhole}
use Rattle.pl_semantics.proofs.Found.{found_id}
use Rattle.pl_semantics.proofs.Standing.{links_by_subject}
use Rattle.pl_update.specs.Changes.Replaced.{CanReplace, with_plan}
use Rattle.pl_update.proofs.AboutChanges.Keeping.{whole_replaced}
use Rattle.pl_update.proofs.AboutLinks.Keeping.{shows_links}
use Rattle.pl_update.proofs.AboutLinks.Lookups.{Fails}
use Rattle.pl_moves.specs.Runs.{CanBeMade}
use Rattle.pl_moves.proofs.Made.{IsMadeBy, made, can_replace}
use Rattle.pl_bounds.specs.Remaining.{is_left, is_left_if, is_untouched, kind_of_link, kind_sought, kinds_of, listed_by, sought_by, with_kind}
use Rattle.pl_bounds.proofs.Beside.{ids_left, kinds_left, none_comes, none_goes}
use Rattle.pl_bounds.proofs.Breaking.{links_keep, StaysLone, StayUnmet}
use Rattle.pl_bounds.proofs.Differing.{has_passing}
use Rattle.pl_bounds.proofs.Gathered.{AreLinks}
use Rattle.pl_bounds.proofs.Leaving.{standing_apart}
use Rattle.pl_bounds.proofs.Replacing.{found_same, lacks_still, unmet_still}

-- ---- what it means that a move does not touch it

pub record IsAside (s : PlanState) (gone kinds : List ℕ) (parent : Option ℕ) (q : Conflict) : Type 0 where
  pub part : part_of q.code ≡ of_links
  pub left : among q.subject gone ≡ false
  pub lonely : q.code ≡ Temporal → (k : ℕ) → kind_sought s q.subject q.detail ≡ Some k → among k kinds ≡ false
  pub apart : q.code ≡ Linked → is_number q.subject parent ≡ false

module _ (s : PlanState) (gone kinds : List ℕ) (parent : Option ℕ) (q : Conflict) where
  temporal_aside : q.code ≡ Temporal → (o : Option ℕ) → kind_sought s q.subject q.detail ≡ o → is_left_if gone kinds parent (option_map (with_kind q.subject) o) ≡ true → IsAside s gone kinds parent q
  temporal_aside is None e h = absurd (cc)
  temporal_aside is (Some k) e h =
      let both = and_parts (not (among q.subject gone)) (not (among k kinds)) h in
      record {
        part = ap part_of is;
        left = not-true (among q.subject gone) both.0;
        lonely = λ c m f. let same : Some k ≡ Some m = sym e ∙ f in let it : k ≡ m = cc in ap (λ (n : ℕ). among n kinds) (sym it) ∙ not-true (among k kinds) both.1;
        apart = λ c. absurd (let bad : Temporal ≡ Linked = sym is ∙ c in cc);
      }

  linked_aside : q.code ≡ Linked → is_left gone kinds parent (record { subject = q.subject; sought = None }) ≡ true → IsAside s gone kinds parent q
  linked_aside is h =
      let both = and_parts (not (among q.subject gone)) (not (is_number q.subject parent)) h in
      record {
        part = ap part_of is;
        left = not-true (among q.subject gone) both.0;
        lonely = λ c. absurd (let bad : Linked ≡ Temporal = sym is ∙ c in cc);
        apart = λ c. not-true (is_number q.subject parent) both.1;
      }

  aside_by : (c : Code) → q.code ≡ c → is_left_if gone kinds parent (listed_by s q c) ≡ true → IsAside s gone kinds parent q
  aside_by Temporal is h = temporal_aside is (kind_sought s q.subject q.detail) refl h
  aside_by Linked is h = linked_aside is h
  aside_by OpenGoal is h = absurd (cc)
  aside_by OffGoal is h = absurd (cc)
  aside_by Late is h = absurd (cc)
  aside_by Unset is h = absurd (cc)
  aside_by BadValue is h = absurd (cc)
  aside_by Undetailed is h = absurd (cc)
  aside_by Overrun is h = absurd (cc)
  aside_by Over is h = absurd (cc)
  aside_by Low is h = absurd (cc)
  aside_by High is h = absurd (cc)
  aside_by Must is h = absurd (cc)
  aside_by BadStep is h = absurd (cc)

  aside : is_untouched s gone kinds parent q ≡ true → IsAside s gone kinds parent q
  aside h = aside_by q.code refl h

-- ---- a replacement

module _ (s : PlanState) (gone : List ℕ) (more : List Activity) (whole : IsWhole s) (can : CanReplace s gone more) (q : Conflict) where
  abbrev t : PlanState
  t = with_plan gone more s

  -- no activity is placed of the kind that its link seeks
  abbrev NoneSought : Type 0
  NoneSought = q.code ≡ Temporal → (k : ℕ) → kind_sought s q.subject q.detail ≡ Some k → All (λ (m : Activity). eqb m.kind k ≡ false) more

  -- none of those that go, or come, is a child of its activity
  abbrev NoChild : Type 0
  NoChild = q.code ≡ Linked → (slot : ℕ) → (All (Fails (fills q.subject slot) s.plan.activities) gone) × (All (λ (m : Activity). fills q.subject slot m ≡ false) more)

  module _ (left : among q.subject gone ≡ false) (away : among q.subject (map id_of more) ≡ false) (none : NoneSought) (childless : NoChild) where
    module _ (a : Activity) (here : found s q.subject ≡ Some a) where
      own : a.id ≡ q.subject
      own = found_id q.subject s.plan.activities a here

      own_left : among a.id gone ≡ false
      own_left = ap (λ (n : ℕ). among n gone) own ∙ left

      own_away : among a.id (map id_of more) ≡ false
      own_away = ap (λ (n : ℕ). among n (map id_of more)) own ∙ away

      lonely : StaysLone s gone more a q
      lonely j l is at linked lacks =
          let sought : kind_sought s q.subject q.detail ≡ Some l.kind =
          ap (option_and_then (sought_by s q.detail)) here ∙ (ap (λ (n : ℕ). option_map kind_of_link (slice_get (links_of s.model (placed_of s a)) n)) at ∙ ap (option_map kind_of_link) linked) in
          lacks_still s gone more whole can a l own_left own_away (none is l.kind sought) lacks

      orders : q.code ≡ Linked → StayUnmet s t a
      orders is = unmet_still s gone more whole can a own_left own_away
          (λ slot. subst (λ (n : ℕ). All (Fails (fills n slot) s.plan.activities) gone) (sym own) (childless is slot).0)
          (λ slot. subst (λ (n : ℕ). All (λ (m : Activity). fills n slot m ≡ false) more) (sym own) (childless is slot).1)

      kept_by : has q (links_at s a) ≡ true → has q (of_found (links_at t) (found t q.subject)) ≡ true
      kept_by e =
          ap (λ (o : Option Activity). has q (of_found (links_at t) o)) (found_same s gone more whole can q.subject left away ∙ here)
          ∙ links_keep s gone more a q lonely orders e

    pub stands_after : part_of q.code ≡ of_links → has q (conflicts_of s) ≡ true → has q (link_conflicts t) ≡ true
    stands_after part there =
        links_by_subject t (whole_replaced s gone more whole can).rising q
        ∙ by (found s q.subject) refl (sym (links_by_subject s whole.rising q) ∙ (sym (shows_links s (conflicts_of s) refl q part) ∙ there))
      where
        by : (o : Option Activity) → found s q.subject ≡ o → has q (of_found (links_at s) o) ≡ true → has q (of_found (links_at t) (found t q.subject)) ≡ true
        by None here e = absurd (cc)
        by (Some a) here e = kept_by a here e

-- ---- moves

abbrev pub untouched : PlanState → List ℕ → List ℕ → Option ℕ → List Conflict
untouched s gone kinds parent = filter (is_untouched s gone kinds parent) (conflicts_of s)

-- none of them is of an activity that goes
pub subject_left : (s : PlanState) (gone kinds : List ℕ) (parent : Option ℕ) (q : Conflict) → has q (untouched s gone kinds parent) ≡ true → among q.subject gone ≡ false
subject_left s gone kinds parent q h = (aside s gone kinds parent q (has_passing (is_untouched s gone kinds parent) (conflicts_of s) q h).1).left

-- and none is of an order of the parent
pub parent_left : (s : PlanState) (gone kinds : List ℕ) (parent : Option ℕ) (q : Conflict) → has q (untouched s gone kinds parent) ≡ true → q.code ≡ Linked → is_number q.subject parent ≡ false
parent_left s gone kinds parent q h is = (aside s gone kinds parent q (has_passing (is_untouched s gone kinds parent) (conflicts_of s) q h).1).apart is

module _ (s : PlanState) (whole : IsWhole s) where
  abbrev xs : List Activity
  xs = s.plan.activities

  -- what stands is told of an activity that is there
  pub told_below : (q : Conflict) → part_of q.code ≡ of_links → has q (conflicts_of s) ≡ true → q.subject < s.next_id
  told_below q part there = by (found s q.subject) refl (sym (links_by_subject s whole.rising q) ∙ (sym (shows_links s (conflicts_of s) refl q part) ∙ there))
    where
      by : (o : Option Activity) → found s q.subject ≡ o → has q (of_found (links_at s) o) ≡ true → q.subject < s.next_id
      by None here e = absurd (cc)
      by (Some a) here e = let both = all_at (IsIdBelow s.next_id) xs q.subject a whole.ids here in let less : a.id < s.next_id = both.0.1 in let is : a.id ≡ q.subject = both.1 in omega (arith, less, is)

  pub below : (gone kinds : List ℕ) (parent : Option ℕ) (q : Conflict) → has q (untouched s gone kinds parent) ≡ true → q.subject < s.next_id
  below gone kinds parent q h = let both = has_passing (is_untouched s gone kinds parent) (conflicts_of s) q h in told_below q (aside s gone kinds parent q both.1).part both.0

  pub left_of : (gone kinds : List ℕ) (parent : Option ℕ) (t : PlanState) → ((q : Conflict) → IsAside s gone kinds parent q → has q (conflicts_of s) ≡ true → has q (link_conflicts t) ≡ true) → AreLinks t (untouched s gone kinds parent)
  left_of gone kinds parent t each = record {
    apart = standing_apart s (is_untouched s gone kinds parent);
    stand = λ q h. let both = has_passing (is_untouched s gone kinds parent) (conflicts_of s) q h in each q (aside s gone kinds parent q both.1) both.0;
  }

  module _ (next : s.next_id ≤ 3999999000) where
    pub left_by_deletion : (id : ℕ) → CanBeMade s (Delete id) → AreLinks (applied s (Delete id)) (untouched s (subtree_of id xs) [] (parent_of id xs))
    left_by_deletion id can = left_of (subtree_of id xs) [] (parent_of id xs) (applied s (Delete id)) each
      where
        by : IsMadeBy s (Delete id)
        by = made s whole (Delete id) tt can.proper can.allowed

        each : (q : Conflict) → IsAside s (subtree_of id xs) [] (parent_of id xs) q → has q (conflicts_of s) ≡ true → has q (link_conflicts (applied s (Delete id))) ≡ true
        each q is there = subst (λ (t : PlanState). has q (link_conflicts t) ≡ true) by.is
            (stands_after s (subtree_of id xs) [] whole (can_replace s whole next (Delete id) by) q is.left refl
            (λ c k e. All-nil (λ (m : Activity). eqb m.kind k ≡ false))
            (λ c slot. (none_goes s whole id q.subject is.left (is.apart c) slot, All-nil (λ (m : Activity). fills q.subject slot m ≡ false)))
            is.part there)

    pub left_by_shift : (id to : ℕ) → CanBeMade s (Shift id to) → AreLinks (applied s (Shift id to)) (untouched s (subtree_of id xs) (kinds_of s (subtree_of id xs)) (parent_of id xs))
    left_by_shift id to can = left_of (subtree_of id xs) (kinds_of s (subtree_of id xs)) (parent_of id xs) (applied s (Shift id to)) each
      where
        by : IsMadeBy s (Shift id to)
        by = made s whole (Shift id to) tt can.proper can.allowed

        each : (q : Conflict) → IsAside s (subtree_of id xs) (kinds_of s (subtree_of id xs)) (parent_of id xs) q → has q (conflicts_of s) ≡ true → has q (link_conflicts (applied s (Shift id to))) ≡ true
        each q is there = subst (λ (t : PlanState). has q (link_conflicts t) ≡ true) by.is
            (stands_after s (subtree_of id xs) (moved_with s to (found s id)) whole (can_replace s whole next (Shift id to) by) q is.left (ids_left s whole id to q.subject is.left)
            (λ c k e. kinds_left s whole id to k (is.lonely c k e))
            (λ c slot. (none_goes s whole id q.subject is.left (is.apart c) slot, none_comes s whole id to q.subject is.left (is.apart c) slot))
            is.part there)

    pub left_by_new : (kind to : ℕ) (goal : Option ℕ) → CanBeMade s (Add kind to goal) → AreLinks (applied s (Add kind to goal)) (untouched s [] (kind ∷ []) None)
    left_by_new kind to goal can = left_of [] (kind ∷ []) None (applied s (Add kind to goal)) each
      where
        by : IsMadeBy s (Add kind to goal)
        by = made s whole (Add kind to goal) tt can.proper can.allowed

        root : Activity
        root = root_for s kind to goal

        each : (q : Conflict) → IsAside s [] (kind ∷ []) None q → has q (conflicts_of s) ≡ true → has q (link_conflicts (applied s (Add kind to goal))) ≡ true
        each q is there =
            let less : q.subject < s.next_id = told_below q is.part there in
            subst (λ (t : PlanState). has q (link_conflicts t) ≡ true) by.is
            (stands_after s [] (root ∷ []) whole (can_replace s whole next (Add kind to goal) by) q refl (or_from (eqb s.next_id q.subject) false (ne_eqb s.next_id q.subject (λ e. omega (arith, less, e))) refl)
            (λ c k e. All-cons (λ (m : Activity). eqb m.kind k ≡ false) root [] (or_first_false (eqb kind k) false (is.lonely c k e)) (All-nil (λ (m : Activity). eqb m.kind k ≡ false)))
            (λ c slot. (All-nil (Fails (fills q.subject slot) xs), All-cons (λ (m : Activity). fills q.subject slot m ≡ false) root [] refl (All-nil (λ (m : Activity). fills q.subject slot m ≡ false))))
            is.part there)
