-- A new root is a replacement.
use Rattle.std.proofs.Common.{◌≡◌, ℕ, suc, ◌+◌, ◌<◌, ◌≤◌, eqb, Bool, true, false, cond, List, [], ◌∷◌, ◌++◌, length, refl, sym, ap, ◌∙◌, subst, arith}
use Rattle.std.specs.Prelude.{◌||◌, All, Option, Some, None, is_some}
use Rattle.std.specs.Option.{option_or}
use Rattle.std.proofs.lemmas.Bool.{eqb-true, eq-eqb, lt-ltb}
use Rattle.std.proofs.lemmas.List.{length-append}
use Rattle.std.proofs.lemmas.List.Elements.{All-head, All-tail, All-cons, All-nil}
use Rattle.std.proofs.Math.Bool.{or-false}
use Rattle.pl_plan.specs.declared.activity.Activity.{Activity}
use Rattle.pl_plan.specs.Activities.{RiseFrom, IsLive, activity_of, placed}
use Rattle.pl_plan.specs.Trees.{Descends, itself, child}
use Rattle.pl_plan.specs.Fitting.{Fits, FitsAlone, chosen_slots}
use Rattle.pl_plan.proofs.Climbs.{all_at, parent_smaller}
use Rattle.pl_plan.proofs.LookUpLaws.{fits_added}
use Rattle.pl_semantics.specs.declared.plan_state.PlanState.{PlanState}
use Rattle.pl_semantics.specs.Whole.{IsWhole, IsCarried, IsIdBelow, HasBegun}
use Rattle.pl_moves.proofs.Swaps.{MayCome, IsSwap, swapped_at}

pub found_append : (xs zs : List Activity) (q : ℕ) → activity_of q (xs ++ zs) ≡ option_or (activity_of q xs) (activity_of q zs)
found_append [] zs q = refl
found_append (x ∷ xs) zs q = cases (eqb x.id q) refl (found_append xs zs q)
  where
    cases : (b : Bool) → eqb x.id q ≡ b → activity_of q (xs ++ zs) ≡ option_or (activity_of q xs) (activity_of q zs) → activity_of q (x ∷ xs ++ zs) ≡ option_or (activity_of q (x ∷ xs)) (activity_of q zs)
    cases true e more = rw e refl
    cases false e more = rw e more

pub rising_append : (c n : ℕ) (xs zs : List Activity) → c ≤ n → RiseFrom c xs → All (λ x. x.id < n) xs → RiseFrom n zs → RiseFrom c (xs ++ zs)
rising_append c n [] [] le rises below later = tt
rising_append c n [] (z ∷ zs) le rises below later = (omega (arith, le, later.0), later.1)
rising_append c n (x ∷ xs) zs le rises below later =
    let first : x.id < n = All-head (λ (y : Activity). y.id < n) x xs below in
    (rises.0, rising_append (suc x.id) n xs zs (omega (arith, first)) rises.1 (All-tail (λ (y : Activity). y.id < n) x xs below) later)

-- what is placed with the greatest id stands at the end
placed_last : (a : Activity) (xs : List Activity) → All (λ x. x.id < a.id) xs → placed a xs ≡ xs ++ a ∷ []
placed_last a [] below = refl
placed_last a (x ∷ xs) below =
    let first : x.id < a.id = All-head (λ (y : Activity). y.id < a.id) x xs below in
    rw (lt-ltb x.id a.id first) (ap (λ l. x ∷ l) (placed_last a xs (All-tail (λ (y : Activity). y.id < a.id) x xs below)))

module _ (s : PlanState) (whole : IsWhole s) where
  abbrev xs : List Activity
  xs = s.plan.activities

  pub below : All (λ x. x.id < s.next_id) xs
  below i d lt = (whole.ids i d lt).1

  -- an id from the next one on is not live
  pub unused : (q : ℕ) → s.next_id ≤ q → activity_of q xs ≡ None
  unused q le = by (activity_of q xs) refl
    where
      by : (o : Option Activity) → activity_of q xs ≡ o → activity_of q xs ≡ None
      by None e = e
      by (Some a) e =
          let all = all_at (IsIdBelow s.next_id) xs q a whole.ids e in
          let lt : a.id < s.next_id = all.0.1 in
          let is : a.id ≡ q = all.1 in
          absurd (omega (arith, lt, is, le))

  -- nothing else descends from an id that is not live
  pub alone_below : (q id : ℕ) → activity_of q xs ≡ None → Descends xs q id → id ≡ q
  alone_below q id none itself = refl
  alone_below q id none (child n p is above) =
      let same : p ≡ q = alone_below q p none above in
      let live : IsLive p xs = (parent_smaller xs whole.fits.rooted n p is).0 in
      absurd (let held : is_some (activity_of q xs) ≡ true = subst (λ k. is_some (activity_of k xs) ≡ true) same live in let bad : false ≡ true = rw none at held in cc)

  module _ (r : Activity) (id : r.id ≡ s.next_id) where
    absent : activity_of r.id xs ≡ None
    absent = unused r.id (omega (arith, id))

    found_added : (q : ℕ) → activity_of q (xs ++ r ∷ []) ≡ swapped_at xs [] (r ∷ []) q
    found_added q = found_append xs (r ∷ []) q ∙ by_id (eqb r.id q) refl
      where
        by_id : (b : Bool) → eqb r.id q ≡ b → option_or (activity_of q xs) (cond (eqb r.id q) (Some r) None) ≡ option_or (cond (eqb r.id q) (Some r) None) (activity_of q xs)
        by_id true e = let none : activity_of q xs ≡ None = ap (λ n. activity_of n xs) (sym (eqb-true r.id q e)) ∙ absent in rw (e, none) refl
        by_id false e = rw e (by (activity_of q xs))
          where
            by : (o : Option Activity) → option_or o None ≡ option_or None o
            by None = refl
            by (Some a) = refl

    pub add_swap : FitsAlone s.model r → r.parent ≡ None → chosen_slots s.model r ≡ [] → IsCarried s.goals r → HasBegun s.moment s.committed r → length xs + 1 ≤ s.live_limit → IsSwap s [] (r ∷ []) (xs ++ r ∷ [])
    add_swap alone root bare carried begun room = record {
      live = λ i d lt. absurd (omega (arith, lt));
      rises = (omega arith, tt);
      may = All-cons (MayCome xs []) r [] (λ live. absurd (let bad : false ≡ true = rw absent at live in cc)) (All-nil (MayCome xs []));
      ids = All-cons (λ (a : Activity). (1 ≤ a.id) × (a.id < s.next_id + 17)) r [] (omega (arith, id, whole.next.0), omega (arith, id)) (All-nil (λ (a : Activity). (1 ≤ a.id) × (a.id < s.next_id + 17)));
      carried = All-cons (IsCarried s.goals) r [] carried (All-nil (IsCarried s.goals));
      begun = All-cons (HasBegun s.moment s.committed) r [] begun (All-nil (HasBegun s.moment s.committed));
      rising = rising_append 0 s.next_id xs (r ∷ []) (omega arith) whole.rising below (omega (arith, id), tt);
      found = found_added;
      above = λ q apart p above. sym (found_added p ∙ by q apart p above (eqb r.id p) refl);
      fits = subst (λ (l : List Activity). Fits s.model l) (placed_last r xs (subst (λ n. All (λ x. x.id < n) xs) (sym id) below)) (fits_added s.model xs whole.rising whole.fits r absent alone root bare);
      few = let len = length-append xs (r ∷ []) in omega (arith, len, room);
    }
      where
        by : (q : ℕ) → (eqb r.id q || false) ≡ false → (p : ℕ) → Descends xs p q → (b : Bool) → eqb r.id p ≡ b → option_or (cond (eqb r.id p) (Some r) None) (activity_of p xs) ≡ activity_of p xs
        by q apart p above true e =
            let is : r.id ≡ p = eqb-true r.id p e in
            let none : activity_of p xs ≡ None = ap (λ n. activity_of n xs) (sym is) ∙ absent in
            let same : q ≡ p = alone_below p q none above in
            absurd (let bad : true ≡ false = sym (eq-eqb r.id q (is ∙ sym same)) ∙ (sym (or-false (eqb r.id q)) ∙ apart) in cc)
        by q apart p above false e = rw e refl
