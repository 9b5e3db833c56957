-- The activities of a plan come into a temporal store by rising id, each into a free slot.
use Rattle.std.proofs.Common.{◌≡◌, ℕ, zero, suc, ◌+◌, ◌<◌, ◌≤◌, eqb, ltb, Bool, true, false, List, [], ◌∷◌, length, get_or, take, map, find, Option, None, Some, IfSome, refl, sym, ap, ◌∙◌, subst, arith, add-one}
use Rattle.std.specs.Prelude.{filter}
use Rattle.std.specs.Option.{option_map}
use Rattle.pl_model.specs.declared.alternatives.Slot.{Slot}
use Rattle.pl_model.specs.declared.whole.Model.{Model}
use Rattle.pl_plan.specs.declared.activity.Activity.{Activity}
use Rattle.pl_plan.specs.Activities.{activity_of, placed}
use Rattle.pl_plan.specs.Fitting as plan
use Rattle.pl_plan.proofs.Ids.{next_absent, next_placed}
use Rattle.pl_plan.proofs.ByLookUps.{is_this_slot}
use Rattle.pl_links.specs.Items as links
use Rattle.pl_links.specs.Kept.{Kept, kept_of}
use Rattle.pl_semantics.specs.declared.plan_state.PlanState.{PlanState}
use Rattle.pl_semantics.specs.Whole.{IsWhole}
use Rattle.pl_semantics.specs.Links.{placed_of}
use Rattle.pl_semantics.proofs.Found.{found_id, all_found}

-- ---- look-ups in the store are look-ups in the plan

module _ (s : PlanState) where
  pub item_is : (q : ℕ) (xs : List Activity) → links.item_of q (map (placed_of s) xs) ≡ option_map (placed_of s) (activity_of q xs)
  item_is q [] = refl
  item_is q (x ∷ xs) = cases (eqb x.id q) refl (item_is q xs)
    where
      cases : (b : Bool) → eqb x.id q ≡ b → links.item_of q (map (placed_of s) xs) ≡ option_map (placed_of s) (activity_of q xs) → links.item_of q (map (placed_of s) (x ∷ xs)) ≡ option_map (placed_of s) (activity_of q (x ∷ xs))
      cases true e more = rw e refl
      cases false e more = rw e more

  pub with_item_is : (a : Activity) (xs : List Activity) → links.with_item (placed_of s a) (map (placed_of s) xs) ≡ map (placed_of s) (placed a xs)
  with_item_is a [] = refl
  with_item_is a (x ∷ xs) = cases (ltb x.id a.id) refl (with_item_is a xs)
    where
      cases : (b : Bool) → ltb x.id a.id ≡ b → links.with_item (placed_of s a) (map (placed_of s) xs) ≡ map (placed_of s) (placed a xs) → links.with_item (placed_of s a) (map (placed_of s) (x ∷ xs)) ≡ map (placed_of s) (placed a (x ∷ xs))
      cases true e more = rw e (ap (λ l. placed_of s x ∷ l) more)
      cases false e more = rw e refl

  pub child_is : (parent slot : ℕ) (xs : List Activity) → links.child_of parent slot (map (placed_of s) xs) ≡ option_map (placed_of s) (find (plan.fills parent slot) xs)
  child_is parent slot [] = refl
  child_is parent slot (x ∷ xs) = cases (plan.is_slot parent slot x.parent) refl (child_is parent slot xs)
    where
      cases : (b : Bool) → plan.is_slot parent slot x.parent ≡ b → links.child_of parent slot (map (placed_of s) xs) ≡ option_map (placed_of s) (find (plan.fills parent slot) xs) → links.child_of parent slot (map (placed_of s) (x ∷ xs)) ≡ option_map (placed_of s) (find (plan.fills parent slot) (x ∷ xs))
      cases true e more = rw e refl
      cases false e more = rw e more

-- ---- one activity in a slot

some_here : (f : Activity → Bool) (xs : List Activity) (k : ℕ) (d : Activity) → k < length xs → f (get_or xs k d) ≡ true → 1 ≤ length (filter f xs)
some_here f [] k d lt e = absurd (omega (arith, lt))
some_here f (x ∷ xs) zero d lt e = rw e (omega arith)
some_here f (x ∷ xs) (suc k) d lt e = cases (f x) refl (some_here f xs k d (omega (arith, lt)) e)
  where
    cases : (b : Bool) → f x ≡ b → 1 ≤ length (filter f xs) → 1 ≤ length (filter f (x ∷ xs))
    cases true is more = rw is (omega arith)
    cases false is more = rw is more

none_before : (f : Activity → Bool) (xs : List Activity) (k : ℕ) (d : Activity) → k < length xs → f (get_or xs k d) ≡ true → length (filter f xs) ≤ 1 → find f (take k xs) ≡ None
none_before f [] k d lt e few = absurd (omega (arith, lt))
none_before f (x ∷ xs) zero d lt e few = refl
none_before f (x ∷ xs) (suc k) d lt e few = cases (f x) refl (none_before f xs k d (omega (arith, lt)) e) (some_here f xs k d (omega (arith, lt)) e)
  where
    cases : (b : Bool) → f x ≡ b → (length (filter f xs) ≤ 1 → find f (take k xs) ≡ None) → 1 ≤ length (filter f xs) → find f (take (suc k) (x ∷ xs)) ≡ None
    cases true is more some = let two : suc (length (filter f xs)) ≤ 1 = rw is at few in absurd (omega (arith, two, some))
    cases false is more some = rw is (more (rw is at few))

single_few : (kind : ℕ) (ys : List Activity) → plan.IsSingle kind ys → length ys ≤ 1
single_few kind [] single = absurd single
single_few kind (a ∷ []) single = omega arith
single_few kind (a ∷ b ∷ more) single = absurd single

some_slot : (slots : List Slot) (i : ℕ) → i < length slots → Slot
some_slot [] i lt = absurd (omega (arith, lt))
some_slot (x ∷ slots) i lt = x

-- at most one activity is in a slot of the alternative that is chosen
pub slot_few : (model : Model) (xs : List Activity) (above : Option Activity) (p : ℕ × ℕ) → activity_of p.0 xs ≡ above → plan.Fits model xs → p.1 < length (plan.chosen_slots_of model above) → length (filter (plan.fills p.0 p.1) xs) ≤ 1
slot_few model xs None p found fits lt = absurd (omega (arith, lt))
slot_few model xs (Some b) p found fits lt =
    let filled : plan.AreFilled model xs b = all_found (plan.AreFilled model xs) p.0 xs b fits.filled found in
    let d = some_slot (plan.chosen_slots model b) p.1 lt in
    let few : length (filter (plan.fills b.id p.1) xs) ≤ 1 = single_few _ _ (filled p.1 d lt) in
    subst (λ n. length (filter (plan.fills n p.1) xs) ≤ 1) (found_id p.0 xs b found) few

-- ---- what is asked of the next activity

module _ (s : PlanState) (whole : IsWhole s) (k : ℕ) (d : Activity) (lt : k < length s.plan.activities) where
  pub next_item : links.with_item (placed_of s (get_or s.plan.activities k d)) (map (placed_of s) (take k s.plan.activities)) ≡ map (placed_of s) (take (suc k) s.plan.activities)
  next_item = with_item_is s (get_or s.plan.activities k d) (take k s.plan.activities) ∙ ap (map (placed_of s)) (next_placed s.plan.activities 0 k d whole.rising lt)

  slot_free : (o : Option (ℕ × ℕ)) → (get_or s.plan.activities k d).parent ≡ o → IfSome o (λ p. p.1 < length (plan.chosen_slots_of s.model (activity_of p.0 s.plan.activities))) → IfSome o (λ p. links.child_of p.0 p.1 (map (placed_of s) (take k s.plan.activities)) ≡ None)
  slot_free None is in_slot = tt
  slot_free (Some p) is in_slot =
      let fills : plan.fills p.0 p.1 (get_or s.plan.activities k d) ≡ true = is_this_slot p.0 p.1 (get_or s.plan.activities k d).parent is in
      let few = slot_few s.model s.plan.activities (activity_of p.0 s.plan.activities) p refl whole.fits in_slot in
      child_is s p.0 p.1 (take k s.plan.activities) ∙ ap (option_map (placed_of s)) (none_before (plan.fills p.0 p.1) s.plan.activities k d lt fills few)

  pub next_fits : links.CanBePlaced s.model (map (placed_of s) (take k s.plan.activities)) (placed_of s (get_or s.plan.activities k d))
  next_fits =
      let a = get_or s.plan.activities k d in
      let alone : plan.FitsAlone s.model a = whole.fits.each k d lt in
      record {
        absent = item_is s a.id (take k s.plan.activities) ∙ ap (option_map (placed_of s)) (next_absent s.plan.activities 0 k d whole.rising lt);
        kind = alone.kind;
        choice = alone.choice;
        slot = slot_free a.parent refl (whole.fits.no_other k d lt);
      }

-- the same by what a loop knows of the activities and of the store
module _ (s : PlanState) (whole : IsWhole s) (xs : List Activity) (all : xs ≡ s.plan.activities) (k : ℕ) (x : Activity) (lt : k < length xs) (is : x ≡ get_or xs k x) (kept : Kept) (so_far : kept ≡ kept_of s.model (map (placed_of s) (take k xs))) where
  pub fits_next : links.CanBePlaced s.model kept.items (placed_of s x)
  fits_next =
      let lt' : k < length s.plan.activities = subst (λ ys. k < length ys) all lt in
      let fits = next_fits s whole k x lt' in
      subst (λ (l : Kept). links.CanBePlaced s.model l.items (placed_of s x)) (sym so_far)
      (subst (λ ys. links.CanBePlaced s.model (map (placed_of s) (take k ys)) (placed_of s x)) (sym all)
      (subst (λ y. links.CanBePlaced s.model (map (placed_of s) (take k s.plan.activities)) (placed_of s y)) (sym (is ∙ ap (λ ys. get_or ys k x) all)) fits))

  pub kept_next : kept_of s.model (links.with_item (placed_of s x) kept.items) ≡ kept_of s.model (map (placed_of s) (take (k + 1) xs))
  kept_next =
      let lt' : k < length s.plan.activities = subst (λ ys. k < length ys) all lt in
      let here : x ≡ get_or s.plan.activities k x = is ∙ ap (λ ys. get_or ys k x) all in
      ap (kept_of s.model)
      (ap (λ (l : Kept). links.with_item (placed_of s x) l.items) so_far
      ∙ (ap (λ ys. links.with_item (placed_of s x) (map (placed_of s) (take k ys))) all
      ∙ (ap (λ y. links.with_item (placed_of s y) (map (placed_of s) (take k s.plan.activities))) here
      ∙ (next_item s whole k x lt'
      ∙ (ap (λ n. map (placed_of s) (take n s.plan.activities)) (sym (add-one k)) ∙ ap (λ ys. map (placed_of s) (take (k + 1) ys)) (sym all))))))
