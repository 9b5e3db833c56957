-- What is found by an id settles a list of rising ids, and what each activity of a plan owes.
use Rattle.std.proofs.Common.{◌≡◌, ℕ, suc, ◌<◌, eqb, Bool, true, false, cond, List, [], ◌∷◌, length, get_or, Option, Some, None, IsSome, IfSome, refl, sym, ap, ◌∙◌, subst, arith, ◌⊎◌, ⊎_elim}
use Rattle.std.specs.Prelude.{All, filter}
use Rattle.std.proofs.lemmas.Bool.{eq-eqb, eqb-true, cases_order}
use Rattle.std.proofs.lemmas.List.Elements.{filter_passes}
use Rattle.pl_model.specs.declared.whole.Model.{Model}
use Rattle.pl_plan.specs.declared.activity.Activity.{Activity}
use Rattle.pl_plan.specs.Activities.{RiseFrom, AreRising, activity_of, placed}
use Rattle.pl_plan.specs.Fitting.{Fits, FitsAlone, AreFilled, IsInSlot, IsSingle, fills, chosen_slots, chosen_slots_of}
use Rattle.pl_plan.specs.Trees.{IsParented}
use Rattle.pl_plan.specs.LookUps.{HasChild, FitsAt}
use Rattle.pl_plan.proofs.Ids.{rising-placed}
use Rattle.pl_plan.proofs.Lookups.{none_below, found-placed}
use Rattle.pl_plan.proofs.Climbs.{all_at}
use Rattle.pl_plan.proofs.Kept.{all_kept, each_found}
use Rattle.pl_plan.proofs.ByLookUps.{slot_is, is_this_slot, fits_by_look_ups}

found_first : (x : Activity) (xs : List Activity) → activity_of x.id (x ∷ xs) ≡ Some x
found_first x xs = rw (eq-eqb x.id x.id refl) refl

same_from : (c : ℕ) (xs ys : List Activity) → RiseFrom c xs → RiseFrom c ys → ((q : ℕ) → activity_of q xs ≡ activity_of q ys) → xs ≡ ys
same_from c [] [] rising rises same = refl
same_from c [] (y ∷ ys) rising rises same = absurd (let bad : None ≡ Some y = same y.id ∙ found_first y ys in cc)
same_from c (x ∷ xs) [] rising rises same = absurd (let bad : Some x ≡ None = sym (found_first x xs) ∙ same x.id in cc)
same_from c (x ∷ xs) (y ∷ ys) rising rises same = by_order (cases_order x.id y.id) (λ e. same_from (suc x.id) xs ys rising.1 (rw e rises.1))
  where
    equal : x.id ≡ y.id → x ≡ y
    equal e = let both : Some x ≡ Some y = sym (found_first x xs) ∙ (same x.id ∙ (ap (λ n. activity_of n (y ∷ ys)) e ∙ found_first y ys)) in cc

    later : x.id ≡ y.id → (q : ℕ) → activity_of q xs ≡ activity_of q ys
    later e q = by_id (eqb x.id q) refl
      where
        by_id : (b : Bool) → eqb x.id q ≡ b → activity_of q xs ≡ activity_of q ys
        by_id true f =
            let is = eqb-true x.id q f in
            none_below xs (suc x.id) q rising.1 (omega (arith, is)) ∙ sym (none_below ys (suc y.id) q rises.1 (omega (arith, is, e)))
        by_id false f =
            let g : eqb y.id q ≡ false = rw (← e) f in
            let both : cond (eqb x.id q) (Some x) (activity_of q xs) ≡ cond (eqb y.id q) (Some y) (activity_of q ys) = same q in
            rw (f, g) at both

    by_order : (x.id ≡ y.id) ⊎ ((x.id < y.id) ⊎ (y.id < x.id)) → (x.id ≡ y.id → ((q : ℕ) → activity_of q xs ≡ activity_of q ys) → xs ≡ ys) → x ∷ xs ≡ y ∷ ys
    by_order o more = ⊎_elim
        (λ (e : x.id ≡ y.id). rw (equal e, more e (later e)) refl)
        (λ o. ⊎_elim
        (λ (lt : x.id < y.id). absurd (let bad : Some x ≡ None = sym (found_first x xs) ∙ (same x.id ∙ none_below (y ∷ ys) y.id x.id (omega arith, rises.1) lt) in cc))
        (λ (gt : y.id < x.id). absurd (let bad : Some y ≡ None = sym (found_first y ys) ∙ (sym (same y.id) ∙ none_below (x ∷ xs) x.id y.id (omega arith, rising.1) gt) in cc))
        o)
        o

pub same_activities : (xs ys : List Activity) → AreRising xs → AreRising ys → ((q : ℕ) → activity_of q xs ≡ activity_of q ys) → xs ≡ ys
same_activities xs ys rising rises same = same_from 0 xs ys rising rises same

-- ---- what each activity owes

-- what stands in a filtered list is found, and passes
first_kept : (p : Activity → Bool) (xs : List Activity) → AreRising xs → (x : Activity) (l : List Activity) → filter p xs ≡ x ∷ l → (activity_of x.id xs ≡ Some x) × (p x ≡ true)
first_kept p xs rising x l e =
    let found : All (λ y. activity_of y.id xs ≡ Some y) (x ∷ l) = subst (λ (ys : List Activity). All (λ y. activity_of y.id xs ≡ Some y) ys) e (all_kept p (λ y. activity_of y.id xs ≡ Some y) xs (λ k d lt holds. each_found xs rising k d lt)) in
    let passes : All (λ y. p y ≡ true) (x ∷ l) = subst (λ (ys : List Activity). All (λ y. p y ≡ true) ys) e (filter_passes p xs) in
    (found 0 x (omega arith), passes 0 x (omega arith))

-- what is found and passes stands in the filtered list
stands_in : (p : Activity → Bool) (xs : List Activity) (q : ℕ) (b : Activity) → activity_of q xs ≡ Some b → p b ≡ true → activity_of q (filter p xs) ≡ Some b
stands_in p [] q b is passes = absurd (cc)
stands_in p (x ∷ xs) q b is passes = cases (p x) refl (eqb x.id q) refl (stands_in p xs q b)
  where
    cases : (d : Bool) → p x ≡ d → (e : Bool) → eqb x.id q ≡ e → (activity_of q xs ≡ Some b → p b ≡ true → activity_of q (filter p xs) ≡ Some b) → activity_of q (filter p (x ∷ xs)) ≡ Some b
    cases true f true g more = let found : Some x ≡ Some b = rw g at is in rw (f, g) found
    cases true f false g more = let rest : activity_of q xs ≡ Some b = rw g at is in rw (f, g) (more rest passes)
    cases false f true g more =
        let found : Some x ≡ Some b = rw g at is in
        let same : x ≡ b = cc in
        absurd (let bad : false ≡ true = sym f ∙ (ap p same ∙ passes) in cc)
    cases false f false g more = let rest : activity_of q xs ≡ Some b = rw g at is in rw f (more rest passes)

module _ (model : Model) (xs : List Activity) (rising : AreRising xs) (fits : Fits model xs) where
  child_of : (kind parent slot : ℕ) → (l : List Activity) → filter (fills parent slot) xs ≡ l → IsSingle kind l → HasChild (λ q. activity_of q xs) kind parent slot
  child_of kind parent slot [] e single = absurd single
  child_of kind parent slot (x ∷ []) e single =
      let here = first_kept (fills parent slot) xs rising x [] e in
      record {
        id = x.id;
        a = x;
        found = here.0;
        place = slot_is parent slot x.parent here.1;
        is_of = single;
        only = λ other b is place.
            let stands : activity_of other (x ∷ []) ≡ Some b = subst (λ (l : List Activity). activity_of other l ≡ Some b) e (stands_in (fills parent slot) xs other b is (is_this_slot parent slot b.parent place)) in
            by_id other b stands (eqb x.id other) refl;
      }
    where
      by_id : (other : ℕ) (b : Activity) → activity_of other (x ∷ []) ≡ Some b → (d : Bool) → eqb x.id other ≡ d → other ≡ x.id
      by_id other b stands true f = sym (eqb-true x.id other f)
      by_id other b stands false f = absurd (let bad : None ≡ Some b = rw f at stands in cc)
  child_of kind parent slot (x ∷ y ∷ l) e single = absurd single

  pub owes_by_fits : (id : ℕ) (a : Activity) → activity_of id xs ≡ Some a → FitsAt model (λ q. activity_of q xs) id a
  owes_by_fits id a here =
      let alone = all_at (FitsAlone model) xs id a fits.each here in
      let same : a.id ≡ id = alone.1 in
      record {
        alone = alone.0;
        parented = subst (λ n. IfSome a.parent (λ p. IsSome (activity_of p.0 xs) × (p.0 < n))) same (all_at (IsParented xs) xs id a fits.rooted.parents here).0;
        in_slot = (all_at (IsInSlot model xs) xs id a fits.no_other here).0;
        filled = λ slot d lt. child_of _ id slot (filter (fills id slot) xs) refl (subst (λ n. IsSingle (get_or (chosen_slots model a) slot d).kind (filter (fills n slot) xs)) same ((all_at (AreFilled model xs) xs id a fits.filled here).0 slot d lt));
      }

  -- a new root without an alternative
  pub fits_added : (a : Activity) → activity_of a.id xs ≡ None → FitsAlone model a → a.parent ≡ None → chosen_slots model a ≡ [] → Fits model (placed a xs)
  fits_added a none alone root bare = fits_by_look_ups model (placed a xs) (rising-placed a 0 xs none (omega arith) rising) owes
    where
      with_a : ℕ → Option Activity
      with_a q = activity_of q (placed a xs)

      stays : (q : ℕ) (b : Activity) → activity_of q xs ≡ Some b → activity_of q (placed a xs) ≡ Some b
      stays q b is = rw (found-placed a xs q none) (by_id (eqb a.id q) refl)
        where
          by_id : (d : Bool) → eqb a.id q ≡ d → cond d (Some a) (activity_of q xs) ≡ Some b
          by_id true e = absurd (let bad : None ≡ Some b = sym none ∙ (ap (λ n. activity_of n xs) (eqb-true a.id q e) ∙ is) in cc)
          by_id false e = is

      found_of : (q : ℕ) → IsSome (activity_of q xs) → activity_of q (placed a xs) ≡ activity_of q xs
      found_of q live = by_found (activity_of q xs) refl
        where
          by_found : (o : Option Activity) → activity_of q xs ≡ o → activity_of q (placed a xs) ≡ activity_of q xs
          by_found None e = absurd (let bad : IsSome {T = Activity} None = rw e at live in cc)
          by_found (Some b) e = stays q b e ∙ sym e

      parents : (id : ℕ) (o : Option (ℕ × ℕ)) → IfSome o (λ p. IsSome (activity_of p.0 xs) × (p.0 < id)) → IfSome o (λ p. IsSome (activity_of p.0 (placed a xs)) × (p.0 < id))
      parents id None h = tt
      parents id (Some p) h = (rw (found_of p.0 h.0) h.0, h.1)

      slots : (id : ℕ) (o : Option (ℕ × ℕ)) → IfSome o (λ p. IsSome (activity_of p.0 xs) × (p.0 < id)) → IfSome o (λ p. p.1 < length (chosen_slots_of model (activity_of p.0 xs))) → IfSome o (λ p. p.1 < length (chosen_slots_of model (activity_of p.0 (placed a xs))))
      slots id None h lt = tt
      slots id (Some p) h lt = rw (found_of p.0 h.0) lt

      child : (kind parent slot : ℕ) → HasChild (λ q. activity_of q xs) kind parent slot → HasChild (λ q. activity_of q (placed a xs)) kind parent slot
      child kind parent slot c = record {
        id = c.id;
        a = c.a;
        found = stays c.id c.a c.found;
        place = c.place;
        is_of = c.is_of;
        only = λ other b is place. by_id other b place (eqb a.id other) refl (rw (found-placed a xs other none) at is);
      }
        where
          by_id : (other : ℕ) (b : Activity) → b.parent ≡ Some (parent, slot) → (d : Bool) → eqb a.id other ≡ d → cond (eqb a.id other) (Some a) (activity_of other xs) ≡ Some b → other ≡ c.id
          by_id other b place true e is =
              let found : Some a ≡ Some b = rw e at is in
              let same : a ≡ b = cc in
              absurd (let bad : None ≡ Some (parent, slot) = sym root ∙ (ap (λ (z : Activity). z.parent) same ∙ place) in cc)
          by_id other b place false e is = c.only other b (rw e at is) place

      owes : (id : ℕ) (b : Activity) → activity_of id (placed a xs) ≡ Some b → FitsAt model (λ q. activity_of q (placed a xs)) id b
      owes id b is = by_id (eqb a.id id) refl (rw (found-placed a xs id none) at is)
        where
          new : (b : Activity) → a ≡ b → FitsAt model (λ q. activity_of q (placed a xs)) id b
          new b same = subst (λ (z : Activity). FitsAt model (λ q. activity_of q (placed a xs)) id z) same (record {
            alone = alone;
            parented = rw root tt;
            in_slot = rw root tt;
            filled = λ slot d lt. absurd (omega (arith, lt, ap length bare));
          })

          by_id : (d : Bool) → eqb a.id id ≡ d → cond (eqb a.id id) (Some a) (activity_of id xs) ≡ Some b → FitsAt model (λ q. activity_of q (placed a xs)) id b
          by_id true e found = let both : Some a ≡ Some b = rw e at found in new b (cc)
          by_id false e found =
              let before = owes_by_fits id b (rw e at found) in
              record {
                alone = before.alone;
                parented = parents id b.parent before.parented;
                in_slot = slots id b.parent before.parented before.in_slot;
                filled = λ slot d lt. child _ id slot (before.filled slot d lt);
              }
