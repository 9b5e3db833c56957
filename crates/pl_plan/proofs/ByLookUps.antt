-- Activities that owe nothing by look-ups fit the model.
use Rattle.std.proofs.Common.{◌≡◌, ℕ, suc, ◌<◌, eqb, Bool, true, false, List, [], ◌∷◌, length, get_or, Option, Some, None, refl, sym, ap, ◌∙◌, arith}
use Rattle.std.specs.Prelude.{All, filter}
use Rattle.std.proofs.lemmas.Bool.{eq-eqb, eqb-true}
use Rattle.pl_model.specs.declared.whole.Model.{Model}
use Rattle.pl_plan.specs.declared.activity.Activity.{Activity}
use Rattle.pl_plan.specs.Activities.{RiseFrom, AreRising, activity_of}
use Rattle.pl_plan.specs.Fitting.{Fits, IsSingle, fills, is_slot}
use Rattle.pl_plan.specs.LookUps.{HasChild, FitsAt}
use Rattle.pl_plan.proofs.Kept.{all_kept, each_found}

pub slot_is : (parent slot : ℕ) (o : Option (ℕ × ℕ)) → is_slot parent slot o ≡ true → o ≡ Some (parent, slot)
slot_is parent slot None e = absurd (cc)
slot_is parent slot (Some p) e = by_both (eqb p.0 parent) refl (eqb p.1 slot) refl
  where
    by_both : (b : Bool) → eqb p.0 parent ≡ b → (d : Bool) → eqb p.1 slot ≡ d → Some p ≡ Some (parent, slot)
    by_both true f true g = ap Some (let first = eqb-true p.0 parent f in let second = eqb-true p.1 slot g in rw (← first, ← second) refl)
    by_both true f false g = absurd (let bad : false ≡ true = rw (f, g) at e in cc)
    by_both false f d g = absurd (let bad : false ≡ true = rw f at e in cc)

pub is_this_slot : (parent slot : ℕ) (o : Option (ℕ × ℕ)) → o ≡ Some (parent, slot) → is_slot parent slot o ≡ true
is_this_slot parent slot o e = rw (e, eq-eqb parent parent refl, eq-eqb slot slot refl) refl

pub filter_rising : (p : Activity → Bool) (c : ℕ) (xs : List Activity) → RiseFrom c xs → RiseFrom c (filter p xs)
filter_rising p c [] rising = tt
filter_rising p c (x ∷ xs) rising = cases (p x) refl (filter_rising p (suc x.id) xs rising.1)
  where
    weaker : (b : ℕ) (ys : List Activity) → RiseFrom (suc x.id) ys → RiseFrom c ys
    weaker b [] r = tt
    weaker b (y ∷ ys) r = (omega (arith, r.0, rising.0), r.1)

    cases : (b : Bool) → p x ≡ b → RiseFrom (suc x.id) (filter p xs) → RiseFrom c (filter p (x ∷ xs))
    cases true e more = rw e (rising.0, more)
    cases false e more = rw e (weaker c (filter p xs) more)

pub some_pass : (p : Activity → Bool) (xs : List Activity) (q : ℕ) (a : Activity) → activity_of q xs ≡ Some a → p a ≡ true → 0 < length (filter p xs)
some_pass p [] q a is passes = absurd (cc)
some_pass p (x ∷ xs) q a is passes = cases (p x) refl (some_pass p xs q a)
  where
    cases : (b : Bool) → p x ≡ b → (activity_of q xs ≡ Some a → p a ≡ true → 0 < length (filter p xs)) → 0 < length (filter p (x ∷ xs))
    cases true e more = rw e (omega arith)
    cases false e more = by_id (eqb x.id q) refl
      where
        by_id : (d : Bool) → eqb x.id q ≡ d → 0 < length (filter p (x ∷ xs))
        by_id true f =
            let found : Some x ≡ Some a = rw f at is in
            let same : x ≡ a = cc in
            absurd (let bad : false ≡ true = sym e ∙ (ap p same ∙ passes) in cc)
        by_id false f = let rest : activity_of q xs ≡ Some a = rw f at is in rw e (more rest passes)

single_of : (kind : ℕ) (a : Activity) (l : List Activity) → RiseFrom 0 l → All (λ x. x ≡ a) l → 0 < length l → a.kind ≡ kind → IsSingle kind l
single_of kind a [] rising same some is = absurd (omega (arith, some))
single_of kind a (x ∷ []) rising same some is = ap (λ (y : Activity). y.kind) (same 0 x (omega arith)) ∙ is
single_of kind a (x ∷ y ∷ l) rising same some is =
    let first : x ≡ a = same 0 x (omega arith) in
    let second : y ≡ a = same 1 x (omega arith) in
    let equal : x.id ≡ y.id = ap (λ (z : Activity). z.id) (first ∙ sym second) in
    absurd (omega (arith, rising.1.0, equal))

module _ (model : Model) (xs : List Activity) (rising : AreRising xs) (owes : (id : ℕ) (a : Activity) → activity_of id xs ≡ Some a → FitsAt model (λ q. activity_of q xs) id a) where
  single : (kind parent slot : ℕ) → HasChild (λ q. activity_of q xs) kind parent slot → IsSingle kind (filter (fills parent slot) xs)
  single kind parent slot child =
      single_of kind child.a (filter (fills parent slot) xs) (filter_rising (fills parent slot) 0 xs rising)
      (all_kept (fills parent slot) (λ x. x ≡ child.a) xs (λ k d lt fill. same (get_or xs k d) (each_found xs rising k d lt) fill))
      (some_pass (fills parent slot) xs child.id child.a child.found (is_this_slot parent slot child.a.parent child.place))
      child.is_of
    where
      same : (x : Activity) → activity_of x.id xs ≡ Some x → fills parent slot x ≡ true → x ≡ child.a
      same x here fill =
          let is : x.id ≡ child.id = child.only x.id x here (slot_is parent slot x.parent fill) in
          let both : Some x ≡ Some child.a = sym here ∙ (ap (λ n. activity_of n xs) is ∙ child.found) in
          cc

  pub fits_by_look_ups : Fits model xs
  fits_by_look_ups = record {
    rooted = record { parents = λ k d lt. (owes (get_or xs k d).id (get_or xs k d) (each_found xs rising k d lt)).parented };
    each = λ k d lt. (owes (get_or xs k d).id (get_or xs k d) (each_found xs rising k d lt)).alone;
    filled = λ k d lt slot e in_range. single _ (get_or xs k d).id slot ((owes (get_or xs k d).id (get_or xs k d) (each_found xs rising k d lt)).filled slot e in_range);
    no_other = λ k d lt. (owes (get_or xs k d).id (get_or xs k d) (each_found xs rising k d lt)).in_slot;
  }
