-- Each kind of move leaves activities that fit the model.
use Rattle.std.proofs.Common.{◌≡◌, ℕ, suc, ◌<◌, ◌≤◌, eqb, ltb, Bool, true, false, cond, not, ◌||◌, List, [], ◌∷◌, get_or, map, Option, Some, None, is_some, IfSome, refl, sym, ap, ◌∙◌, subst, arith, inl, inr}
use Rattle.std.specs.Prelude.{All}
use Rattle.std.proofs.lemmas.Bool.{eq-eqb, ne_eqb, lt-ltb, le-ltb, eqb-true, ltb-true, ltb-false, not-true, or_right}
use Rattle.pl_model.specs.declared.whole.Model.{Model}
use Rattle.pl_plan.specs.declared.activity.Activity.{Activity}
use Rattle.pl_plan.specs.Activities.{RiseFrom, AreRising, activity_of, IsLive, placed, without}
use Rattle.pl_plan.specs.Trees.{IsParented, IsRooted, parent_id, parent_of, Descends, itself, child, descends}
use Rattle.pl_plan.specs.Fitting.{Fits, FitsAlone}
use Rattle.pl_plan.specs.Moves.{KeepsTree, kept, without_subtree, without_below, abstracted}
use Rattle.pl_plan.proofs.Lookups.{none_below}
use Rattle.pl_plan.proofs.Climbs.{all_at, parent_smaller}
use Rattle.pl_plan.proofs.TreeLaws.{descends_sound, descends_complete, at_child}
use Rattle.pl_plan.proofs.Kept.{all_kept, found-kept, each_found, fits_left, KeepsSlots}

-- ---- a put after a take

put_first : (a : Activity) (xs : List Activity) → RiseFrom (suc a.id) xs → placed a xs ≡ a ∷ xs
put_first a [] rising = refl
put_first a (x ∷ xs) rising = rw (le-ltb x.id a.id (omega (arith, rising.0))) refl

later_id : (xs : List Activity) (c : ℕ) (a : Activity) → RiseFrom c xs → activity_of a.id xs ≡ Some a → c ≤ a.id
later_id xs c a rising is = by_test (ltb a.id c) refl
  where
    by_test : (b : Bool) → ltb a.id c ≡ b → c ≤ a.id
    by_test true e = absurd (let bad : None ≡ Some a = sym (none_below xs c a.id rising (ltb-true a.id c e)) ∙ is in cc)
    by_test false e = ltb-false a.id c e

put_back_from : (c : ℕ) (a : Activity) (xs : List Activity) → RiseFrom c xs → activity_of a.id xs ≡ Some a → placed a (without a.id xs) ≡ xs
put_back_from c a [] rising is = absurd (cc)
put_back_from c a (x ∷ xs) rising is = cases (eqb x.id a.id) refl (put_back_from (suc x.id) a xs rising.1)
  where
    cases : (b : Bool) → eqb x.id a.id ≡ b → (activity_of a.id xs ≡ Some a → placed a (without a.id xs) ≡ xs) → placed a (without a.id (x ∷ xs)) ≡ x ∷ xs
    cases true e more =
        let found : Some x ≡ Some a = rw e at is in
        let same : x ≡ a = cc in
        let after : RiseFrom (suc a.id) xs = subst (λ (y : Activity). RiseFrom (suc y.id) xs) same rising.1 in
        rw e (put_first a xs after ∙ ap (λ (y : Activity). y ∷ xs) (sym same))
    cases false e more =
        let rest : activity_of a.id xs ≡ Some a = rw e at is in
        let lt : x.id < a.id = (let le = later_id xs (suc x.id) a rising.1 rest in omega (arith, le)) in
        rw e (rw (lt-ltb x.id a.id lt) (ap (λ l. x ∷ l) (more rest)))

pub put_back : (xs : List Activity) → AreRising xs → (a : Activity) → activity_of a.id xs ≡ Some a → placed a (without a.id xs) ≡ xs
put_back xs rising a is = put_back_from 0 a xs rising is

-- ---- lists that stay as they are

all_stay : (xs : List Activity) → kept (λ id. true) xs ≡ xs
all_stay [] = refl
all_stay (x ∷ xs) = ap (λ l. x ∷ l) (all_stay xs)

same_map : (xs : List Activity) → map (λ a. a) xs ≡ xs
same_map [] = refl
same_map (x ∷ xs) = ap (λ l. x ∷ l) (same_map xs)

-- ---- trees that go

module _ (xs : List Activity) (rooted : IsRooted xs) (rising : AreRising xs) (top : ℕ) where
  below_top : (q : ℕ) → Descends xs top q → top ≤ q
  below_top q itself = omega arith
  below_top q (child n p is above) = let lt = (parent_smaller xs rooted q p is).1 in let le = below_top p above in omega (arith, lt, le)

  -- a child of what descends descends
  lower : (q p : ℕ) → parent_of q xs ≡ Some p → descends xs top q ≡ false → descends xs top p ≡ false
  lower q p is fails = by_test (descends xs top p) refl
    where
      by_test : (b : Bool) → descends xs top p ≡ b → descends xs top p ≡ false
      by_test true e = absurd (let holds : descends xs top q ≡ true = descends_complete xs rooted top q (child q p is (descends_sound xs rooted top p e)) in let bad : false ≡ true = sym fails ∙ holds in cc)
      by_test false e = e

  -- of a child of what does not descend: only the top itself does
  upper : (q p : ℕ) → parent_of q xs ≡ Some p → descends xs top p ≡ false → eqb q top ≡ false → descends xs top q ≡ false
  upper q p is fails other = at_child xs rooted top q p is ∙ rw (other, fails) refl

  closed_outside : (q p : ℕ) → parent_of q xs ≡ Some p → not (descends xs top q) ≡ true → not (descends xs top p) ≡ true
  closed_outside q p is stay = rw (lower q p is (not-true (descends xs top q) stay)) refl

  parented_outside : (x : Activity) → activity_of x.id xs ≡ Some x → IsParented xs x → not (descends xs top x.id) ≡ true → IsParented (without_subtree top xs) x
  parented_outside x here holds stay = by_parent x.parent refl holds
    where
      live : (p : ℕ) → IsLive p xs → not (descends xs top p) ≡ true → is_some (activity_of p (without_subtree top xs)) ≡ true
      live p l s = rw (found-kept (λ id. not (descends xs top id)) xs p, s) l

      by_parent : (o : Option (ℕ × ℕ)) → x.parent ≡ o → IfSome o (λ p. IsLive p.0 xs × (p.0 < x.id)) → IfSome o (λ p. IsLive p.0 (without_subtree top xs) × (p.0 < x.id))
      by_parent None e h = tt
      by_parent (Some p) e h =
          let named : parent_of x.id xs ≡ Some p.0 = rw here (ap parent_id e) in
          (live p.0 h.0 (closed_outside x.id p.0 named stay), h.1)

  pub rooted_outside : IsRooted (without_subtree top xs)
  rooted_outside = record { parents = all_kept (λ a. not (descends xs top a.id)) (IsParented (without_subtree top xs)) xs (λ k d lt. parented_outside (get_or xs k d) (each_found xs rising k d lt) (rooted.parents k d lt)) }

-- ---- the moves

stays_itself : KeepsTree (λ a. a)
stays_itself = record { id = λ a. refl; kind = λ a. refl; parent = λ a. refl }

pub fits_changed : (model : Model) (xs : List Activity) → AreRising xs → Fits model xs → (change : Activity → Activity) → KeepsTree change → ((a : Activity) → (change a).detail ≡ a.detail) → All (λ a. FitsAlone model (change a)) xs → Fits model (map change xs)
fits_changed model xs rising fits change keeps detail alone =
    subst (λ l. Fits model (map change l)) (all_stay xs) (fits_left model xs rising fits (λ id. true) change keeps (λ q p is stay. refl) (λ id a here stay. inl (rw (keeps.kind a, detail a) refl, λ q is. refl)) alone)

pub fits_deleted : (model : Model) (xs : List Activity) → AreRising xs → Fits model xs → (top : ℕ) → parent_of top xs ≡ None → Fits model (without_subtree top xs)
fits_deleted model xs rising fits top root =
    subst (λ l. Fits model l) (same_map (without_subtree top xs)) (fits_left model xs rising fits (λ id. not (descends xs top id)) (λ a. a) stays_itself (closed_outside xs fits.rooted rising top) slots fits.each)
  where
    slots : (id : ℕ) (a : Activity) → activity_of id xs ≡ Some a → not (descends xs top id) ≡ true → KeepsSlots model xs rising fits (λ i. not (descends xs top i)) (λ b. b) stays_itself id a
    slots id a here stay = inl (refl, λ q is. by_top q is (eqb q top) refl)
      where
        by_top : (q : ℕ) → parent_of q xs ≡ Some id → (b : Bool) → eqb q top ≡ b → not (descends xs top q) ≡ true
        by_top q is true e = absurd (let bad : None ≡ Some id = sym root ∙ (ap (λ n. parent_of n xs) (sym (eqb-true q top e)) ∙ is) in cc)
        by_top q is false e = rw (upper xs fits.rooted rising top q id is (not-true (descends xs top id) stay) e) refl

pub abstracted_keeps : (top : ℕ) → KeepsTree (abstracted top)
abstracted_keeps top = record { id = λ a. by_id a (eqb a.id top); kind = λ a. by_kind a (eqb a.id top); parent = λ a. by_parent a (eqb a.id top) }
  where
    by_id : (a : Activity) (b : Bool) → (cond b (record a { detail = None }) a).id ≡ a.id
    by_id a true = refl
    by_id a false = refl

    by_kind : (a : Activity) (b : Bool) → (cond b (record a { detail = None }) a).kind ≡ a.kind
    by_kind a true = refl
    by_kind a false = refl

    by_parent : (a : Activity) (b : Bool) → (cond b (record a { detail = None }) a).parent ≡ a.parent
    by_parent a true = refl
    by_parent a false = refl

-- the top, or what does not descend from it
abbrev outside_or : List Activity → ℕ → ℕ → Bool
outside_or xs top id = eqb id top || not (descends xs top id)

pub fits_abstracted : (model : Model) (xs : List Activity) → AreRising xs → Fits model xs → (top : ℕ) → Fits model (map (abstracted top) (without_below top xs))
fits_abstracted model xs rising fits top =
    fits_left model xs rising fits (outside_or xs top) (abstracted top) (abstracted_keeps top) closed slots (λ k d lt. alone (get_or xs k d) (fits.each k d lt) (eqb (get_or xs k d).id top))
  where
    alone : (a : Activity) → FitsAlone model a → (b : Bool) → FitsAlone model (cond b (record a { detail = None }) a)
    alone a fit true = record { kind = fit.kind; start = fit.start; set = fit.set; choice = tt; measured = fit.measured }
    alone a fit false = fit

    top_parent : (p : ℕ) → parent_of top xs ≡ Some p → descends xs top p ≡ false
    top_parent p is = by_test (descends xs top p) refl
      where
        by_test : (b : Bool) → descends xs top p ≡ b → descends xs top p ≡ false
        by_test true e = absurd (let le = below_top xs fits.rooted rising top p (descends_sound xs fits.rooted top p e) in let lt = (parent_smaller xs fits.rooted top p is).1 in omega (arith, le, lt))
        by_test false e = e

    closed : (q p : ℕ) → parent_of q xs ≡ Some p → outside_or xs top q ≡ true → outside_or xs top p ≡ true
    closed q p is stay = by_top (eqb q top) refl
      where
        by_top : (b : Bool) → eqb q top ≡ b → outside_or xs top p ≡ true
        by_top true e =
            let is' : parent_of top xs ≡ Some p = ap (λ n. parent_of n xs) (sym (eqb-true q top e)) ∙ is in
            or_right (eqb p top) (not (descends xs top p)) (rw (top_parent p is') refl)
        by_top false e =
            let outside : not (descends xs top q) ≡ true = rw e at stay in
            or_right (eqb p top) (not (descends xs top p)) (closed_outside xs fits.rooted rising top q p is outside)

    slots : (id : ℕ) (a : Activity) → activity_of id xs ≡ Some a → outside_or xs top id ≡ true → KeepsSlots model xs rising fits (outside_or xs top) (abstracted top) (abstracted_keeps top) id a
    slots id a here stay = by_top (eqb id top) refl
      where
        same : a.id ≡ id
        same = (all_at (FitsAlone model) xs id a fits.each here).1

        by_top : (b : Bool) → eqb id top ≡ b → KeepsSlots model xs rising fits (outside_or xs top) (abstracted top) (abstracted_keeps top) id a
        by_top true e =
            let is : id ≡ top = eqb-true id top e in
            inr (
              let test : eqb a.id top ≡ true = eq-eqb a.id top (same ∙ is) in rw test refl,
              λ q named.
                  let lt : id < q = (parent_smaller xs fits.rooted q id named).1 in
                  let holds : descends xs top q ≡ true = descends_complete xs fits.rooted top q (child q id named (subst (λ n. Descends xs top n) (sym is) itself)) in
                  rw (ne_eqb q top (λ f. omega (arith, lt, is, f)), holds) refl,
            )
        by_top false e =
            inl (let test : eqb a.id top ≡ false = ap (λ n. eqb n top) same ∙ e in rw test refl, λ q named. by_child q named (eqb q top) refl)
          where
            outside : descends xs top id ≡ false
            outside = not-true (descends xs top id) (rw e at stay)

            by_child : (q : ℕ) → parent_of q xs ≡ Some id → (b : Bool) → eqb q top ≡ b → outside_or xs top q ≡ true
            by_child q named true f = rw f refl
            by_child q named false f = rw (f, upper xs fits.rooted rising top q id named outside f) refl
