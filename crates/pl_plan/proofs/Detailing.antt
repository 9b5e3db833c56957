-- A parent with an alternative chosen, and a new child in each of its slots, fit the model where the rest did.
use Rattle.std.proofs.Common.{◌≡◌, ℕ, ◌<◌, ◌≤◌, eqb, Bool, true, false, cond, List, [], length, Option, Some, None, IsSome, IfSome, refl, sym, ap, ◌∙◌, subst, arith}
use Rattle.std.specs.Option.{option_or}
use Rattle.std.proofs.lemmas.Bool.{eq-eqb, eqb-true, eqb-false}
use Rattle.pl_model.specs.declared.whole.Model.{Model}
use Rattle.pl_plan.specs.declared.activity.Activity.{Activity}
use Rattle.pl_plan.specs.Activities.{AreRising, activity_of, exchanged}
use Rattle.pl_plan.specs.Fitting.{Fits, FitsAlone, chosen_slots, chosen_slots_of}
use Rattle.pl_plan.specs.LookUps.{HasChild, FitsAt, AreNewChildren, detailed_at}
use Rattle.pl_plan.proofs.Lookups.{found-exchanged, swapped}
use Rattle.pl_plan.proofs.ByLookUps.{fits_by_look_ups}
use Rattle.pl_plan.proofs.LookUpLaws.{owes_by_fits}

module _ (model : Model) (xs : List Activity) (rising : AreRising xs) (fits : Fits model xs) (before parent : Activity) (here : activity_of parent.id xs ≡ Some before) (place : before.parent ≡ parent.parent) (kind : before.kind ≡ parent.kind) (undetailed : chosen_slots model before ≡ []) (alone : FitsAlone model parent)
    (children ys : List Activity) (rises : AreRising ys) (come : AreNewChildren model xs parent children) (found : (q : ℕ) → activity_of q ys ≡ detailed_at parent children xs q) where
  -- ---- what is found

  new_found : (q : ℕ) (c : Activity) → activity_of q children ≡ Some c → activity_of q ys ≡ Some c
  new_found q c is = found q ∙ ap (λ o. option_or o (activity_of q (exchanged parent xs))) is

  parent_found : activity_of parent.id ys ≡ Some parent
  parent_found = found parent.id ∙ by_new (activity_of parent.id children) refl
    where
      by_new : (o : Option Activity) → activity_of parent.id children ≡ o → option_or o (activity_of parent.id (exchanged parent xs)) ≡ Some parent
      by_new (Some c) e = absurd (let none = come.fresh parent.id c e in let bad : None ≡ Some before = sym none ∙ here in cc)
      by_new None e = found-exchanged parent xs parent.id ∙ rw (eq-eqb parent.id parent.id refl, here) refl

  -- what stood and is not the parent stands
  old_found : (q : ℕ) (b : Activity) → activity_of q xs ≡ Some b → eqb parent.id q ≡ false → activity_of q ys ≡ Some b
  old_found q b is other = found q ∙ by_new (activity_of q children) refl
    where
      by_new : (o : Option Activity) → activity_of q children ≡ o → option_or o (activity_of q (exchanged parent xs)) ≡ Some b
      by_new (Some c) e = absurd (let bad : None ≡ Some b = sym (come.fresh q c e) ∙ is in cc)
      by_new None e = found-exchanged parent xs q ∙ rw (other, is) refl

  -- who stood is found with the same parent and kind
  record Stands (q : ℕ) (b : Activity) : Type 0 where
    a : Activity
    found_now : activity_of q ys ≡ Some a
    parent_same : a.parent ≡ b.parent
    kind_same : a.kind ≡ b.kind
    slots_kept : length (chosen_slots model b) ≤ length (chosen_slots model a)

  stands : (q : ℕ) (b : Activity) → activity_of q xs ≡ Some b → Stands q b
  stands q b is = by_id (eqb parent.id q) refl
    where
      by_id : (d : Bool) → eqb parent.id q ≡ d → Stands q b
      by_id true e =
          let same : Some before ≡ Some b = sym here ∙ (ap (λ n. activity_of n xs) (eqb-true parent.id q e) ∙ is) in
          let is_before : before ≡ b = cc in
          record {
            a = parent;
            found_now = ap (λ n. activity_of n ys) (sym (eqb-true parent.id q e)) ∙ parent_found;
            parent_same = sym place ∙ ap (λ (z : Activity). z.parent) is_before;
            kind_same = sym kind ∙ ap (λ (z : Activity). z.kind) is_before;
            slots_kept = subst (λ (z : Activity). length (chosen_slots model z) ≤ length (chosen_slots model parent)) is_before (rw undetailed (omega arith));
          }
      by_id false e = record { a = b; found_now = old_found q b is e; parent_same = refl; kind_same = refl; slots_kept = omega arith }

  -- who is found is new, or is the parent, or stood
  data Whence (q : ℕ) (a : Activity) : Type 0 where
    new : activity_of q children ≡ Some a → Whence q a
    same_parent : q ≡ parent.id → a ≡ parent → Whence q a
    old : activity_of q xs ≡ Some a → eqb parent.id q ≡ false → Whence q a

  whence : (q : ℕ) (a : Activity) → activity_of q ys ≡ Some a → Whence q a
  whence q a is = by_new (activity_of q children) refl (sym (found q) ∙ is)
    where
      by_new : (o : Option Activity) → activity_of q children ≡ o → option_or o (activity_of q (exchanged parent xs)) ≡ Some a → Whence q a
      by_new (Some c) e f = let same : Some c ≡ Some a = f in new (e ∙ same)
      by_new None e f = by_id (eqb parent.id q) refl (sym (found-exchanged parent xs q) ∙ f)
        where
          by_id : (d : Bool) → eqb parent.id q ≡ d → cond (eqb parent.id q) (swapped parent (activity_of q xs)) (activity_of q xs) ≡ Some a → Whence q a
          by_id true g h =
              let is_here : activity_of q xs ≡ Some before = ap (λ n. activity_of n xs) (sym (eqb-true parent.id q g)) ∙ here in
              let both : Some parent ≡ Some a = rw (g, is_here) at h in
              same_parent (sym (eqb-true parent.id q g)) (cc)
          by_id false g h = old (rw g at h) g

  -- ---- what each owes

  no_child : (other : ℕ) (b : Activity) (slot : ℕ) → activity_of other xs ≡ Some b → b.parent ≡ Some (parent.id, slot) → ⊥
  no_child other b slot is named =
      let owed = (owes_by_fits model xs rising fits other b is).in_slot in
      let lt : slot < length (chosen_slots_of model (activity_of parent.id xs)) = rw named at owed in
      let bound : slot < length (chosen_slots model before) = rw here at lt in
      omega (arith, bound, ap length undetailed)

  parents_stand : (id : ℕ) (o : Option (ℕ × ℕ)) → IfSome o (λ p. IsSome (activity_of p.0 xs) × (p.0 < id)) → IfSome o (λ p. IsSome (activity_of p.0 ys) × (p.0 < id))
  parents_stand id None h = tt
  parents_stand id (Some p) h = (by_found (activity_of p.0 xs) refl, h.1)
    where
      by_found : (o : Option Activity) → activity_of p.0 xs ≡ o → IsSome (activity_of p.0 ys)
      by_found None e = absurd (let bad : IsSome {T = Activity} None = rw e at h.0 in cc)
      by_found (Some b) e = rw (Stands.found_now (stands p.0 b e)) refl

  slots_stand : (id : ℕ) (o : Option (ℕ × ℕ)) → IfSome o (λ p. IsSome (activity_of p.0 xs) × (p.0 < id)) → IfSome o (λ p. p.1 < length (chosen_slots_of model (activity_of p.0 xs))) → IfSome o (λ p. p.1 < length (chosen_slots_of model (activity_of p.0 ys)))
  slots_stand id None h lt = tt
  slots_stand id (Some p) h lt = by_found (activity_of p.0 xs) refl
    where
      by_found : (o : Option Activity) → activity_of p.0 xs ≡ o → p.1 < length (chosen_slots_of model (activity_of p.0 ys))
      by_found None e = absurd (let bad : IsSome {T = Activity} None = rw e at h.0 in cc)
      by_found (Some b) e =
          let before_lt : p.1 < length (chosen_slots model b) = rw e at lt in
          let enough = Stands.slots_kept (stands p.0 b e) in
          rw (Stands.found_now (stands p.0 b e)) (omega (arith, before_lt, enough))

  smaller : (p : ℕ × ℕ) → parent.parent ≡ Some p → p.0 < parent.id
  smaller p e =
      let owed = (owes_by_fits model xs rising fits parent.id before here).parented in
      let both : IsSome (activity_of p.0 xs) × (p.0 < parent.id) = rw (place ∙ e) at owed in
      both.1

  of_new : (id : ℕ) (a : Activity) → activity_of id children ≡ Some a → FitsAt model (λ q. activity_of q ys) id a
  of_new id a e =
      let at = come.place id a e in
      let bound : at.0 < length (chosen_slots_of model (activity_of parent.id ys)) = rw parent_found at.2 in
      record {
        alone = come.alone id a e;
        parented = rw at.1 (rw parent_found refl, come.larger id a e);
        in_slot = rw at.1 bound;
        filled = λ slot d lt. absurd (omega (arith, lt, ap length (come.bare id a e)));
      }

  child_new : (kind slot : ℕ) → HasChild (λ q. activity_of q children) kind parent.id slot → HasChild (λ q. activity_of q ys) kind parent.id slot
  child_new kin slot c = record {
    id = c.id;
    a = c.a;
    found = new_found c.id c.a c.found;
    place = c.place;
    is_of = c.is_of;
    only = λ other b is named. by_whence other b named (whence other b is);
  }
    where
      by_whence : (other : ℕ) (b : Activity) → b.parent ≡ Some (parent.id, slot) → Whence other b → other ≡ c.id
      by_whence other b named (new e) = c.only other b e named
      by_whence other b named (same_parent q is) = absurd (let lt = smaller (parent.id, slot) (ap (λ (z : Activity). z.parent) (sym is) ∙ named) in omega (arith, lt))
      by_whence other b named (old e f) = absurd (no_child other b slot e named)

  of_parent : FitsAt model (λ q. activity_of q ys) parent.id parent
  of_parent =
      let owed = owes_by_fits model xs rising fits parent.id before here in
      let P : Option (ℕ × ℕ) → Type 0 = λ o. IfSome o (λ p. IsSome (activity_of p.0 ys) × (p.0 < parent.id)) in
      let Q : Option (ℕ × ℕ) → Type 0 = λ o. IfSome o (λ p. p.1 < length (chosen_slots_of model (activity_of p.0 ys))) in
      record {
        alone = alone;
        parented = subst P place (parents_stand parent.id before.parent owed.parented);
        in_slot = subst Q place (slots_stand parent.id before.parent owed.parented owed.in_slot);
        filled = λ slot d lt. child_new _ slot (come.filled slot d lt);
      }

  child_old : (id kind slot : ℕ) → eqb parent.id id ≡ false → HasChild (λ q. activity_of q xs) kind id slot → HasChild (λ q. activity_of q ys) kind id slot
  child_old id kin slot apart c =
      let s = stands c.id c.a c.found in
      record {
        id = c.id;
        a = Stands.a s;
        found = Stands.found_now s;
        place = Stands.parent_same s ∙ c.place;
        is_of = Stands.kind_same s ∙ c.is_of;
        only = λ other b is named. by_whence other b named (whence other b is);
      }
    where
      by_whence : (other : ℕ) (b : Activity) → b.parent ≡ Some (id, slot) → Whence other b → other ≡ c.id
      by_whence other b named (new e) =
          let at = come.place other b e in
          let both : Some (parent.id, at.0) ≡ Some (id, slot) = sym at.1 ∙ named in
          let same : (parent.id, at.0) ≡ (id, slot) = cc in
          absurd (eqb-false parent.id id apart (ap (λ (p : ℕ × ℕ). p.0) same))
      by_whence other b named (same_parent q is) =
          q ∙ c.only parent.id before here (place ∙ (ap (λ (z : Activity). z.parent) (sym is) ∙ named))
      by_whence other b named (old e f) = c.only other b e named

  of_old : (id : ℕ) (a : Activity) → activity_of id xs ≡ Some a → eqb parent.id id ≡ false → FitsAt model (λ q. activity_of q ys) id a
  of_old id a e apart =
      let owed = owes_by_fits model xs rising fits id a e in
      record {
        alone = owed.alone;
        parented = parents_stand id a.parent owed.parented;
        in_slot = slots_stand id a.parent owed.parented owed.in_slot;
        filled = λ slot d lt. child_old id _ slot apart (owed.filled slot d lt);
      }

  pub fits_detailed : Fits model ys
  fits_detailed = fits_by_look_ups model ys rises (λ id a is. by_whence id a (whence id a is))
    where
      by_whence : (id : ℕ) (a : Activity) → Whence id a → FitsAt model (λ q. activity_of q ys) id a
      by_whence id a (new e) = of_new id a e
      by_whence id a (same_parent q is) = subst (λ n. FitsAt model (λ i. activity_of i ys) n a) (sym q) (subst (λ (z : Activity). FitsAt model (λ i. activity_of i ys) parent.id z) (sym is) of_parent)
      by_whence id a (old e f) = of_old id a e f
