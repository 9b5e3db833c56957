-- Ranks of ids, and the ids of ranks.
use Rattle.std.proofs.Common.{◌≡◌, ℕ, zero, suc, ◌+◌, ◌<◌, ◌≤◌, eqb, Bool, true, false, List, [], ◌∷◌, length, get_or, Option, Some, None, IfSome, refl, ap, ◌∙◌, arith}
use Rattle.std.specs.Prelude.{All, IsSome}
use Rattle.std.proofs.lemmas.Bool.{eqb-true, lt-ltb, le-ltb}
use Rattle.std.proofs.lemmas.List.Elements.{All-head, All-tail}
use Rattle.pl_plan.specs.declared.activity.Activity.{Activity}
use Rattle.pl_plan.specs.Activities.{RiseFrom, AreRising, activity_of, IsLive}
use Rattle.pl_plan.specs.Trees.{IsParented, IsRooted}
use Rattle.pl_plan.proofs.Kept.{each_found}
use Rattle.pl_semantics.specs.Whole.{IsIdBelow}
use Rattle.pl_renumbering.specs.Renumbered.{KeepsOrder, renumbered_place, renumbered, renumbered_all}
use Rattle.pl_renumbering.specs.Normal.{rank, id_from}

module _ (next : ℕ) where
  pub id_above : (xs : List Activity) (c n : ℕ) → RiseFrom c xs → c ≤ next → All (IsIdBelow next) xs → c ≤ id_from next xs n
  id_above [] c n rise le below = omega (arith, le)
  id_above (x ∷ xs) c zero rise le below = rise.0
  id_above (x ∷ xs) c (suc n) rise le below =
      let under = (All-head (IsIdBelow next) x xs below).1 in
      let more = id_above xs (suc x.id) n rise.1 (omega (arith, under)) (All-tail (IsIdBelow next) x xs below) in
      let first = rise.0 in
      omega (arith, more, first)

  pub ids_rise : (xs : List Activity) (c : ℕ) → RiseFrom c xs → All (IsIdBelow next) xs → KeepsOrder (id_from next xs)
  ids_rise [] c rise below m n less = omega (arith, less)
  ids_rise (x ∷ xs) c rise below zero zero less = absurd (omega (arith, less))
  ids_rise (x ∷ xs) c rise below (suc m) zero less = absurd (omega (arith, less))
  ids_rise (x ∷ xs) c rise below zero (suc n) less =
      let under = (All-head (IsIdBelow next) x xs below).1 in
      let more = id_above xs (suc x.id) n rise.1 (omega (arith, under)) (All-tail (IsIdBelow next) x xs below) in
      omega (arith, more)
  ids_rise (x ∷ xs) c rise below (suc m) (suc n) less = ids_rise xs (suc x.id) rise.1 (All-tail (IsIdBelow next) x xs below) m n (omega (arith, less))

  pub ids_ahead : (xs : List Activity) (n m : ℕ) → m ≡ length xs + n → id_from next xs m ≡ next + n
  ids_ahead [] n m e = let same : m ≡ n = omega (arith, e) in ap (λ k. next + k) same
  ids_ahead (x ∷ xs) n zero e = absurd (omega (arith, e))
  ids_ahead (x ∷ xs) n (suc m) e = ids_ahead xs n m (omega (arith, e))

  pub found_above : (xs : List Activity) (c id : ℕ) (a : Activity) → RiseFrom c xs → activity_of id xs ≡ Some a → c ≤ id
  found_above [] c id a rise is = absurd (let bad : None ≡ Some a = is in (cc))
  found_above (x ∷ xs) c id a rise is = by (eqb x.id id) refl (λ there. found_above xs (suc x.id) id a rise.1 there)
    where
      by : (b : Bool) → eqb x.id id ≡ b → (activity_of id xs ≡ Some a → suc x.id ≤ id) → c ≤ id
      by true e more = let same = eqb-true x.id id e in let first = rise.0 in omega (arith, same, first)
      by false e more = let later = more (rw e at is) in let first = rise.0 in omega (arith, later, first)

  pub rank_back : (xs : List Activity) (c id : ℕ) (a : Activity) → RiseFrom c xs → activity_of id xs ≡ Some a → id_from next xs (rank xs id) ≡ id
  rank_back [] c id a rise is = absurd (let bad : None ≡ Some a = is in (cc))
  rank_back (x ∷ xs) c id a rise is = by (eqb x.id id) refl (λ there. rank_back xs (suc x.id) id a rise.1 there)
    where
      by : (b : Bool) → eqb x.id id ≡ b → (activity_of id xs ≡ Some a → id_from next xs (rank xs id) ≡ id) → id_from next (x ∷ xs) (rank (x ∷ xs) id) ≡ id
      by true e more = let same : x.id ≡ id = eqb-true x.id id e in rw (le-ltb x.id id (omega (arith, same))) same
      by false e more =
          let there : activity_of id xs ≡ Some a = rw e at is in
          let later = found_above xs (suc x.id) id a rise.1 there in
          rw (lt-ltb x.id id (omega (arith, later))) (more there)

  -- ---- the activities, back from ranks

  module _ (all : List Activity) (rising : AreRising all) (rooted : IsRooted all) where
    id_back : (id : ℕ) → IsLive id all → id_from next all (rank all id) ≡ id
    id_back id live = by (activity_of id all) refl live
      where
        by : (o : Option Activity) → activity_of id all ≡ o → IsSome o → id_from next all (rank all id) ≡ id
        by None e some = absurd (let bad : false ≡ true = some in (cc))
        by (Some a) e some = rank_back all 0 id a rising e

    place_back : (id : ℕ) (o : Option (ℕ × ℕ)) → IfSome o (λ p. IsLive p.0 all × (p.0 < id)) → renumbered_place (id_from next all) (renumbered_place (rank all) o) ≡ o
    place_back id None is = refl
    place_back id (Some p) is = ap (λ n. Some (n, p.1)) (id_back p.0 is.0)

    activity_back : (a : Activity) → activity_of a.id all ≡ Some a → IsParented all a → renumbered (id_from next all) (renumbered (rank all) a) ≡ a
    activity_back a here parented =
        ap (λ i. record a { id = i; parent = renumbered_place (id_from next all) (renumbered_place (rank all) a.parent) }) (rank_back all 0 a.id a rising here)
        ∙ ap (λ p. record a { id = a.id; parent = p }) (place_back a.id a.parent parented)

    each_back : (xs : List Activity) → All (λ a. renumbered (id_from next all) (renumbered (rank all) a) ≡ a) xs → renumbered_all (id_from next all) (renumbered_all (rank all) xs) ≡ xs
    each_back [] same = refl
    each_back (x ∷ xs) same =
        rw (All-head (λ a. renumbered (id_from next all) (renumbered (rank all) a) ≡ a) x xs same)
        (ap (λ l. x ∷ l) (each_back xs (All-tail (λ a. renumbered (id_from next all) (renumbered (rank all) a) ≡ a) x xs same)))

    pub all_back : renumbered_all (id_from next all) (renumbered_all (rank all) all) ≡ all
    all_back = each_back all (λ k d lt. activity_back (get_or all k d) (each_found all rising k d lt) (rooted.parents k d lt))
