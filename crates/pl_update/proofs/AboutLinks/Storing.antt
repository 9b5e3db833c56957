-- A store goes on with its plan: what goes is taken out of both, and what is placed comes into both.
use Rattle.std.proofs.Common.{◌≡◌, ℕ, suc, ◌<◌, ◌≤◌, eqb, ltb, Bool, true, false, cond, List, [], ◌∷◌, length, map, find, filter, Option, None, Some, IfSome, refl, sym, ap, ◌∙◌, subst, arith}
use Rattle.std.specs.Prelude.{All, if◌then◌else◌}
use Rattle.std.specs.Option.{option_map}
use Rattle.std.proofs.lemmas.Bool.{eq-eqb, ne_eqb}
use Rattle.std.proofs.lemmas.List.Elements.{All-head, All-tail, All-weaker}
use Rattle.pl_plan.specs.declared.activity.Activity.{Activity}
use Rattle.pl_plan.specs.Activities.{activity_of, placed, without}
use Rattle.pl_plan.specs.Fitting as plan
use Rattle.pl_plan.specs.Firm.{end_of, end_in}
use Rattle.pl_plan.specs.Trees.{id_of}
use Rattle.pl_plan.specs.Values.{values_of}
use Rattle.pl_plan.proofs.ByLookUps.{is_this_slot}
use Rattle.pl_plan.proofs.Kept.{each_found}
use Rattle.pl_plan.proofs.Lookups.{found-placed}
use Rattle.pl_links.specs.Items as links
use Rattle.pl_links.specs.Kept.{Kept, IsFor, kept_of}
use Rattle.pl_semantics.specs.declared.plan_state.PlanState.{PlanState}
use Rattle.pl_semantics.specs.PlanStates.{among, end_at}
use Rattle.pl_semantics.specs.Whole.{IsWhole}
use Rattle.pl_semantics.specs.Links.{placed_of, placed_in}
use Rattle.pl_detect.proofs.Found.{all_found}
use Rattle.pl_detect.proofs.Stored.{item_is, with_item_is, child_is, slot_few}
use Rattle.pl_update.specs.Changes.Putting.{CanPut}
use Rattle.pl_update.specs.Changes.Replaced.{CanReplace, taken, put, replaced, touched, with_plan}
use Rattle.pl_update.proofs.AboutChanges.Putting.{found-taken, puttable, rising-taken}
use Rattle.pl_update.proofs.AboutChanges.Keeping.{whole_replaced}
use Rattle.pl_update.proofs.AboutEvaluations.Keeping.{among_neither}
use Rattle.pl_update.specs.Links.Telling.{all_without}
use Rattle.pl_update.specs.Links.Placing.{CanPlaceAll, all_with}

-- ---- what goes

module _ (s : PlanState) where
  without_is : (id : ℕ) (xs : List Activity) → links.without id (map (placed_of s) xs) ≡ map (placed_of s) (without id xs)
  without_is id [] = refl
  without_is id (x ∷ xs) = cases (eqb x.id id) refl (without_is id xs)
    where
      cases : (b : Bool) → eqb x.id id ≡ b → links.without id (map (placed_of s) xs) ≡ map (placed_of s) (without id xs) → links.without id (map (placed_of s) (x ∷ xs)) ≡ map (placed_of s) (without id (x ∷ xs))
      cases true e more = rw e refl
      cases false e more = rw e (ap (λ l. placed_of s x ∷ l) more)

  pub all_without_is : (gone : List ℕ) (xs : List Activity) → all_without gone (map (placed_of s) xs) ≡ map (placed_of s) (taken xs gone)
  all_without_is [] xs = refl
  all_without_is (g ∷ gone) xs = ap (all_without gone) (without_is g xs) ∙ all_without_is gone (without g xs)

  pub all_with_is : (xs more : List Activity) → all_with s more (map (placed_of s) xs) ≡ map (placed_of s) (put xs more)
  all_with_is xs [] = refl
  all_with_is xs (a ∷ more) = ap (all_with s more) (with_item_is s a xs) ∙ all_with_is (placed a xs) more

-- ---- what stays

same_choice_of : (id q : ℕ) (a b : Activity) (o : Option Activity) → eqb id q ≡ false → o ≡ Some b → cond (eqb id q) (Some a) o ≡ Some b
same_choice_of id q a b o e is = rw e is

-- an activity that stands keeps its place as another is placed
stays_one : (a : Activity) (xs : List Activity) (q : ℕ) (b : Activity) → activity_of a.id xs ≡ None → activity_of q xs ≡ Some b → activity_of q (placed a xs) ≡ Some b
stays_one a xs q b none here =
    let other : eqb a.id q ≡ false = ne_eqb a.id q (λ e. let bad : None ≡ Some b = sym none ∙ (ap (λ n. activity_of n xs) e ∙ here) in absurd (cc)) in
    found-placed a xs q none ∙ same_choice_of a.id q a b (activity_of q xs) other here

stays : (xs more : List Activity) (q : ℕ) (b : Activity) → CanPut xs more → activity_of q xs ≡ Some b → activity_of q (put xs more) ≡ Some b
stays xs [] q b can here = here
stays xs (a ∷ more) q b can here = stays (placed a xs) more q b can.1 (stays_one a xs q b can.0 here)

apart : (xs more : List Activity) (q : ℕ) (b : Activity) → CanPut xs more → activity_of q xs ≡ Some b → among q (map id_of more) ≡ false
apart xs [] q b can here = refl
apart xs (a ∷ more) q b can here =
    let other : eqb a.id q ≡ false = ne_eqb a.id q (λ e. let bad : None ≡ Some b = sym can.0 ∙ (ap (λ n. activity_of n xs) e ∙ here) in absurd (cc)) in
    rw other (apart (placed a xs) more q b can.1 (stays_one a xs q b can.0 here))

come : (a : Activity) (xs more : List Activity) → CanPut xs (a ∷ more) → activity_of a.id (put xs (a ∷ more)) ≡ Some a
come a xs more can = stays (placed a xs) more a.id a can.1 (found-placed a xs a.id can.0 ∙ rw (eq-eqb a.id a.id refl) refl)

map_alike : {X Y : Type 0} (f g : X → Y) (xs : List X) → All (λ x. f x ≡ g x) xs → map f xs ≡ map g xs
map_alike f g [] all = refl
map_alike f g (x ∷ xs) all = ap (λ y. y ∷ map f xs) (All-head (λ x. f x ≡ g x) x xs all) ∙ ap (λ l. g x ∷ l) (map_alike f g xs (All-tail (λ x. f x ≡ g x) x xs all))

left_there : (b : Bool) (o : Option Activity) (a : Activity) → (if b then None else o) ≡ Some a → (b ≡ false) × (o ≡ Some a)
left_there true o a e = absurd (cc)
left_there false o a e = (refl, e)

module _ (s : PlanState) (gone : List ℕ) (more : List Activity) (whole : IsWhole s) (can : CanReplace s gone more) where
  pub can_put : CanPut (taken s.plan.activities gone) more
  can_put = puttable s.plan.activities gone more whole.rising can.once can.free

  same_end : (a : Activity) → activity_of a.id (taken s.plan.activities gone) ≡ Some a → end_at s a ≡ end_at (with_plan gone more s) a
  unfolding end_of replaced
  same_end a here =
      let was = left_there (among a.id gone) (activity_of a.id s.plan.activities) a (sym (found-taken s.plan.activities gone a.id whole.rising) ∙ here) in
      let is : activity_of a.id (put (taken s.plan.activities gone) more) ≡ Some a = stays (taken s.plan.activities gone) more a.id a can_put here in
      let far : among a.id (touched gone more) ≡ false = among_neither a.id gone (map id_of more) was.0 (apart (taken s.plan.activities gone) more a.id a can_put here) in
      let values : values_of s.model s.plan.activities a.id ≡ values_of s.model (put (taken s.plan.activities gone) more) a.id = sym (can.kept a.id far) in
      ap (λ o. end_in s.model o (values_of s.model s.plan.activities a.id)) (was.1 ∙ sym is) ∙ ap (end_in s.model (activity_of a.id (put (taken s.plan.activities gone) more))) values

  same_placed : map (placed_of s) (taken s.plan.activities gone) ≡ map (placed_of (with_plan gone more s)) (taken s.plan.activities gone)
  same_placed = map_alike (placed_of s) (placed_of (with_plan gone more s)) (taken s.plan.activities gone)
      (All-weaker (λ a. activity_of a.id (taken s.plan.activities gone) ≡ Some a) (λ a. placed_of s a ≡ placed_of (with_plan gone more s) a)
      (λ a here. ap (λ (end : Option ℕ). record { id = a.id; kind = a.kind; start = a.start; end = end; parent = a.parent; detail = a.detail }) (same_end a here))
      (taken s.plan.activities gone) (each_found (taken s.plan.activities gone) (rising-taken s.plan.activities gone whole.rising)))

  -- once those that go are out
  pub taken_placed : all_without gone (placed_in s) ≡ map (placed_of (with_plan gone more s)) (taken s.plan.activities gone)
  taken_placed = all_without_is s gone s.plan.activities ∙ same_placed

  -- and once the others are in
  pub put_placed : all_with (with_plan gone more s) more (all_without gone (placed_in s)) ≡ placed_in (with_plan gone more s)
  unfolding replaced
  put_placed = ap (all_with (with_plan gone more s) more) taken_placed ∙ all_with_is (with_plan gone more s) (taken s.plan.activities gone) more

-- ---- each slot is free

module _ (f : Activity → Bool) where
  count_placed : (a : Activity) (xs : List Activity) → length (filter f (placed a xs)) ≡ length (filter f (a ∷ xs))
  count_placed a [] = refl
  count_placed a (x ∷ xs) = cases (ltb x.id a.id) refl (count_placed a xs)
    where
      turn : (p q : Bool) (ys zs : List Activity) → length ys ≡ length (cond p (a ∷ zs) zs) → length (cond q (x ∷ ys) ys) ≡ length (cond p (a ∷ cond q (x ∷ zs) zs) (cond q (x ∷ zs) zs))
      turn true true ys zs e = ap suc e
      turn true false ys zs e = e
      turn false true ys zs e = ap suc e
      turn false false ys zs e = e

      cases : (b : Bool) → ltb x.id a.id ≡ b → length (filter f (placed a xs)) ≡ length (filter f (a ∷ xs)) → length (filter f (placed a (x ∷ xs))) ≡ length (filter f (a ∷ x ∷ xs))
      cases true lt more = rw lt (turn (f a) (f x) (filter f (placed a xs)) (filter f xs) more)
      cases false lt more = rw lt refl

  grows : (a : Activity) (xs : List Activity) → length (filter f xs) ≤ length (filter f (a ∷ xs))
  grows a xs = by (f a)
    where
      by : (b : Bool) → length (filter f xs) ≤ length (cond b (a ∷ filter f xs) (filter f xs))
      by true = omega arith
      by false = omega arith

  grows_put : (xs more : List Activity) → length (filter f xs) ≤ length (filter f (put xs more))
  grows_put xs [] = omega arith
  grows_put xs (a ∷ more) = omega (arith, grows a xs, count_placed a xs, grows_put (placed a xs) more)

  none_found : (xs : List Activity) → length (filter f xs) < 1 → find f xs ≡ None
  none_found [] few = refl
  none_found (x ∷ xs) few = cases (f x) refl (none_found xs)
    where
      cases : (b : Bool) → f x ≡ b → (length (filter f xs) < 1 → find f xs ≡ None) → find f (x ∷ xs) ≡ None
      cases true e more = absurd (let h : suc (length (filter f xs)) < 1 = rw e at few in omega (arith, h))
      cases false e more = let h : length (filter f xs) < 1 = rw e at few in rw e (more h)

  -- one that passes comes, and at most one passes in the end
  none_before : (a : Activity) (xs more : List Activity) → f a ≡ true → length (filter f (put xs (a ∷ more))) ≤ 1 → find f xs ≡ None
  none_before a xs more e few =
      let one : length (filter f (a ∷ xs)) ≡ suc (length (filter f xs)) = rw e refl in
      none_found xs (omega (arith, one, count_placed a xs, grows_put (placed a xs) more, few))

module _ (t : PlanState) (whole : IsWhole t) where
  slot_free : (a : Activity) (xs more : List Activity) → t.plan.activities ≡ put xs (a ∷ more) → (o : Option (ℕ × ℕ)) → a.parent ≡ o → IfSome o (λ p. p.1 < length (plan.chosen_slots_of t.model (activity_of p.0 t.plan.activities))) → IfSome o (λ p. links.child_of p.0 p.1 (map (placed_of t) xs) ≡ None)
  slot_free a xs more all None is in_slot = tt
  slot_free a xs more all (Some p) is in_slot =
      let few : length (filter (plan.fills p.0 p.1) t.plan.activities) ≤ 1 = slot_few t.model t.plan.activities (activity_of p.0 t.plan.activities) p refl whole.fits in_slot in
      let few' : length (filter (plan.fills p.0 p.1) (put xs (a ∷ more))) ≤ 1 = subst (λ l. length (filter (plan.fills p.0 p.1) l) ≤ 1) all few in
      child_is t p.0 p.1 xs ∙ ap (option_map (placed_of t)) (none_before (plan.fills p.0 p.1) a xs more (is_this_slot p.0 p.1 a.parent is) few')

  fits_next : (a : Activity) (xs more : List Activity) → t.plan.activities ≡ put xs (a ∷ more) → activity_of a.id xs ≡ None → activity_of a.id t.plan.activities ≡ Some a → links.CanBePlaced t.model (map (placed_of t) xs) (placed_of t a)
  fits_next a xs more all none live =
      let alone : plan.FitsAlone t.model a = all_found (plan.FitsAlone t.model) a.id t.plan.activities a whole.fits.each live in
      let in_slot : plan.IsInSlot t.model t.plan.activities a = all_found (plan.IsInSlot t.model t.plan.activities) a.id t.plan.activities a whole.fits.no_other live in
      record {
        absent = item_is t a.id xs ∙ ap (option_map (placed_of t)) none;
        kind = alone.kind;
        choice = alone.choice;
        slot = slot_free a xs more all a.parent refl in_slot;
      }

  pub can_place_all : (xs more : List Activity) → CanPut xs more → t.plan.activities ≡ put xs more → CanPlaceAll t (map (placed_of t) xs) more
  can_place_all xs [] can all = tt
  can_place_all xs (a ∷ more) can all =
      let live : activity_of a.id t.plan.activities ≡ Some a = ap (activity_of a.id) all ∙ come a xs more can in
      (live, fits_next a xs more all can.0 live, subst (λ l. CanPlaceAll t l more) (sym (with_item_is t a xs)) (can_place_all (placed a xs) more can.1 all))

-- what is asked once those that go are out
pub can_place_replaced : (s : PlanState) (gone : List ℕ) (more : List Activity) → IsWhole s → CanReplace s gone more → CanPlaceAll (with_plan gone more s) (all_without gone (placed_in s)) more
unfolding replaced
can_place_replaced s gone more whole can =
    subst (λ l. CanPlaceAll (with_plan gone more s) l more) (sym (taken_placed s gone more whole can))
    (can_place_all (with_plan gone more s) (whole_replaced s gone more whole can) (taken s.plan.activities gone) more (can_put s gone more whole can) refl)

-- ---- by what the code knows of the store

module _ (s t : PlanState) (gone : List ℕ) (more : List Activity) (whole : IsWhole s) (can : CanReplace s gone more) (now : t ≡ with_plan gone more s)
    (kept mid : Kept) (kept_is : kept ≡ kept_of s.model (placed_in s)) (mid_is : mid.items ≡ all_without gone kept.items) where
  between : mid.items ≡ all_without gone (placed_in s)
  between = mid_is ∙ ap (λ (l : Kept). all_without gone l.items) kept_is

  pub whole_now : IsWhole t
  whole_now = subst IsWhole (sym now) (whole_replaced s gone more whole can)

  pub can_place : CanPlaceAll t mid.items more
  can_place = subst (λ (x : PlanState). CanPlaceAll x mid.items more) (sym now) (subst (λ l. CanPlaceAll (with_plan gone more s) l more) (sym between) (can_place_replaced s gone more whole can))

  pub kept_now : (new : Kept) → new.items ≡ all_with t more mid.items → IsFor t.model new → new ≡ kept_of t.model (placed_in t)
  kept_now new items_are is_for =
      let items : new.items ≡ placed_in t = items_are ∙ (ap (all_with t more) between ∙ subst (λ (x : PlanState). all_with x more (all_without gone (placed_in s)) ≡ placed_in x) (sym now) (put_placed s gone more whole can)) in
      let broken : new ≡ kept_of t.model new.items = ap (λ bs. record { items = new.items; broken = bs }) is_for in
      broken ∙ ap (kept_of t.model) items
