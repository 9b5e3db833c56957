-- The child in a slot of a parent is the only one there.
use Rattle.std.proofs.Common.{◌≡◌, ℕ, ◌<◌, ◌≤◌, Bool, true, false, cond, eqb, List, [], ◌∷◌, length, map, filter, find, Option, Some, None, refl, sym, ap, ◌∙◌, subst, arith}
use Rattle.std.specs.Prelude.{All, IfSome}
use Rattle.std.specs.Option.{option_map}
use Rattle.std.proofs.lemmas.List.Elements.{All-head, All-tail}
use Rattle.pl_links.specs.declared.placed.Placed.{Placed}
use Rattle.pl_links.specs.Items as links
use Rattle.pl_links.proofs.Slots.{place_is}
use Rattle.pl_plan.specs.declared.activity.Activity.{Activity}
use Rattle.pl_plan.specs.Activities.{activity_of}
use Rattle.pl_plan.specs.Fitting.{fills, IsInSlot, chosen_slots_of}
use Rattle.pl_plan.proofs.ByLookUps.{is_this_slot}
use Rattle.pl_plan.proofs.Climbs.{all_at}
use Rattle.pl_detect.proofs.Stored.{child_is, slot_few}
use Rattle.pl_semantics.specs.declared.plan_state.PlanState.{PlanState}
use Rattle.pl_semantics.specs.Links.{placed_of, placed_in}
use Rattle.pl_semantics.specs.PlanStates.{found}
use Rattle.pl_semantics.specs.Whole.{IsWhole, IsIdBelow}

-- ---- the first that passes a test

module _ {X : Type 0} (f : X → Bool) where
  pub found_passing : (P : X → Type 0) (xs : List X) → All P xs → (x : X) → find f xs ≡ Some x → (f x ≡ true) × P x
  found_passing P [] all y is = absurd (cc)
  found_passing P (x ∷ xs) all y is = by (f x) refl is (found_passing P xs (All-tail P x xs all) y)
    where
      by : (b : Bool) → f x ≡ b → cond b (Some x) (find f xs) ≡ Some y → (find f xs ≡ Some y → (f y ≡ true) × P y) → (f y ≡ true) × P y
      by true e h more = let same : x ≡ y = cc in (ap f (sym same) ∙ e, subst P same (All-head P x xs all))
      by false e h more = more h

module _ (f : Activity → Bool) where
  some_passes : (xs : List Activity) (id : ℕ) (a : Activity) → activity_of id xs ≡ Some a → f a ≡ true → 1 ≤ length (filter f xs)
  some_passes [] id a is passes = absurd (cc)
  some_passes (x ∷ xs) id a is passes = by (f x) refl (eqb x.id id) is (some_passes xs id a)
    where
      by : (b : Bool) → f x ≡ b → (c : Bool) → cond c (Some x) (activity_of id xs) ≡ Some a → (activity_of id xs ≡ Some a → f a ≡ true → 1 ≤ length (filter f xs)) → 1 ≤ length (cond b (x ∷ filter f xs) (filter f xs))
      by true e c h more = omega arith
      by false e true h more = absurd (let same : x ≡ a = cc in let bad : false ≡ true = sym e ∙ (ap f same ∙ passes) in cc)
      by false e false h more = more h passes

  pub only_passing : (xs : List Activity) → length (filter f xs) ≤ 1 → (id : ℕ) (a : Activity) → activity_of id xs ≡ Some a → f a ≡ true → find f xs ≡ Some a
  only_passing [] few id a is passes = absurd (cc)
  only_passing (x ∷ xs) few id a is passes = by (f x) refl (eqb x.id id) few is (λ less. only_passing xs less id a)
    where
      by : (b : Bool) → f x ≡ b → (c : Bool) → length (cond b (x ∷ filter f xs) (filter f xs)) ≤ 1 → cond c (Some x) (activity_of id xs) ≡ Some a → (length (filter f xs) ≤ 1 → activity_of id xs ≡ Some a → f a ≡ true → find f xs ≡ Some a) → cond b (Some x) (find f xs) ≡ Some a
      by true e true less h more = h
      by true e false less h more = absurd (let some : 1 ≤ length (filter f xs) = some_passes xs id a h passes in omega (arith, less, some))
      by false e true less h more = absurd (let same : x ≡ a = cc in let bad : false ≡ true = sym e ∙ (ap f same ∙ passes) in cc)
      by false e false less h more = more less h passes

  pub found_changed : (change : Activity → Activity) → ((x : Activity) → f (change x) ≡ f x) → (xs : List Activity) → find f (map change xs) ≡ option_map change (find f xs)
  found_changed change same [] = refl
  found_changed change same (x ∷ xs) = ap (λ (b : Bool). cond b (Some (change x)) (find f (map change xs))) (same x) ∙ by (f x) (found_changed change same xs)
    where
      by : (b : Bool) → find f (map change xs) ≡ option_map change (find f xs) → cond b (Some (change x)) (find f (map change xs)) ≡ option_map change (cond b (Some x) (find f xs))
      by true more = refl
      by false more = more

-- ---- slots

module _ (s : PlanState) (whole : IsWhole s) where
  pub only_there : (id : ℕ) (a : Activity) → found s id ≡ Some a → (parent slot : ℕ) → a.parent ≡ Some (parent, slot) → find (fills parent slot) s.plan.activities ≡ Some a
  only_there id a here parent slot place =
      let in_slot : IsInSlot s.model s.plan.activities a = (all_at (IsInSlot s.model s.plan.activities) s.plan.activities id a whole.fits.no_other here).0 in
      let below : slot < length (chosen_slots_of s.model (found s parent)) = subst (λ (o : Option (ℕ × ℕ)). IfSome o (λ p. p.1 < length (chosen_slots_of s.model (activity_of p.0 s.plan.activities)))) place in_slot in
      only_passing (fills parent slot) s.plan.activities (slot_few s.model s.plan.activities (found s parent) (parent, slot) refl whole.fits below) id a here (is_this_slot parent slot a.parent place)

  -- a live activity that is in a slot is the child there
  pub child_there : (id parent slot : ℕ) (c : Placed) → option_map (placed_of s) (found s id) ≡ Some c → links.fills parent slot c ≡ true → links.child_of parent slot (placed_in s) ≡ Some c
  child_there id parent slot c is fill = by (found s id) refl is
    where
      by : (o : Option Activity) → found s id ≡ o → option_map (placed_of s) o ≡ Some c → links.child_of parent slot (placed_in s) ≡ Some c
      by None here e = absurd (cc)
      by (Some a) here e =
          let same : placed_of s a ≡ c = cc in
          let place : a.parent ≡ Some (parent, slot) = ap (λ (p : Placed). p.parent) same ∙ place_is parent slot c.parent fill in
          child_is s parent slot s.plan.activities ∙ (ap (option_map (placed_of s)) (only_there id a here parent slot place) ∙ e)

  -- what is placed under an id is below the next one
  pub below_next : (id : ℕ) (c : Placed) → option_map (placed_of s) (found s id) ≡ Some c → id < s.next_id
  below_next id c is = by (found s id) refl is
    where
      by : (o : Option Activity) → found s id ≡ o → option_map (placed_of s) o ≡ Some c → id < s.next_id
      by None here e = absurd (cc)
      by (Some a) here e =
          let both = all_at (IsIdBelow s.next_id) s.plan.activities id a whole.ids here in
          let less : a.id < s.next_id = both.0.1 in
          let same : a.id ≡ id = both.1 in
          omega (arith, less, same)
