-- What a subtree holds, and that its ids rise.
use Rattle.std.proofs.Common.{◌≡◌, ℕ, suc, eqb, Bool, true, false, List, [], ◌∷◌, map, refl, sym, subst, arith}
use Rattle.std.specs.Prelude.{All, Contains, filter, ◌↔◌}
use Rattle.std.specs.List.Sorted.{IsStrictlyIncreasing}
use Rattle.std.proofs.lemmas.Bool.{eq-eqb, eqb-true}
use Rattle.std.proofs.lemmas.List.Elements.{All-nil, All-cons, All-weaker, All-contains, All-contains_itself, All-filter, All-map, filter_passes}
use Rattle.pl_plan.specs.declared.activity.Activity.{Activity}
use Rattle.pl_plan.specs.Activities.{RiseFrom, AreRising, IsLive}
use Rattle.pl_plan.specs.Trees.{id_of, IsRooted, Descends, descends, subtree_of}
use Rattle.pl_plan.proofs.RisingIds.{RiseIds, filter_rises, increases}
use Rattle.pl_plan.proofs.TreeLaws.{descends_sound, descends_complete}

contains_cons : (y : ℕ) (ids : List ℕ) (q : ℕ) → Contains ids q → Contains (y ∷ ids) q
contains_cons y ids q (k, lt, is) = (suc k, omega (arith, lt), is)

contains_first : (ids : List ℕ) (q : ℕ) → Contains (q ∷ ids) q
contains_first ids q = (0, omega arith, refl)

-- what passes stays
passing_stay : (p : ℕ → Bool) (ids : List ℕ) → All (λ q. p q ≡ true → Contains (filter p ids) q) ids
passing_stay p [] = All-nil (λ q. p q ≡ true → Contains (filter p []) q)
passing_stay p (x ∷ ids) = All-cons (λ q. p q ≡ true → Contains (filter p (x ∷ ids)) q) x ids first (All-weaker (λ q. p q ≡ true → Contains (filter p ids) q) (λ q. p q ≡ true → Contains (filter p (x ∷ ids)) q) (later (p x) refl) ids (passing_stay p ids))
  where
    first : p x ≡ true → Contains (filter p (x ∷ ids)) x
    first e = rw e (contains_first (filter p ids) x)

    later : (b : Bool) → p x ≡ b → (q : ℕ) → (p q ≡ true → Contains (filter p ids) q) → p q ≡ true → Contains (filter p (x ∷ ids)) q
    later true e q stay holds = rw e (contains_cons x (filter p ids) q (stay holds))
    later false e q stay holds = rw e (stay holds)

live_more : (x a : Activity) (xs : List Activity) → IsLive a.id xs → IsLive a.id (x ∷ xs)
live_more x a xs live = cases (eqb x.id a.id) refl
  where
    cases : (b : Bool) → eqb x.id a.id ≡ b → IsLive a.id (x ∷ xs)
    cases true e = rw e refl
    cases false e = rw e live

all_live : (xs : List Activity) → All (λ a. IsLive a.id xs) xs
all_live [] = All-nil (λ a. IsLive a.id [])
all_live (x ∷ xs) = All-cons (λ a. IsLive a.id (x ∷ xs)) x xs (rw (eq-eqb x.id x.id refl) refl) (All-weaker (λ a. IsLive a.id xs) (λ a. IsLive a.id (x ∷ xs)) (λ a live. live_more x a xs live) xs (all_live xs))

live_has : (xs : List Activity) (q : ℕ) → IsLive q xs → Contains (map id_of xs) q
live_has [] q live = absurd (cc)
live_has (x ∷ xs) q live = cases (eqb x.id q) refl (live_has xs q)
  where
    cases : (b : Bool) → eqb x.id q ≡ b → (IsLive q xs → Contains (map id_of xs) q) → Contains (map id_of (x ∷ xs)) q
    cases true e more = subst (λ n. Contains (n ∷ map id_of xs) q) (sym (eqb-true x.id q e)) (contains_first (map id_of xs) q)
    cases false e more = contains_cons x.id (map id_of xs) q (more (rw e at live))

pub subtree_members : (xs : List Activity) → IsRooted xs → (top id : ℕ) → Contains (subtree_of top xs) id ↔ (IsLive id xs × Descends xs top id)
unfolding subtree_of
subtree_members xs rooted top id = (there, back)
  where
    passes : ℕ → Bool
    passes = descends xs top

    there : Contains (subtree_of top xs) id → IsLive id xs × Descends xs top id
    there has =
        let ids = map id_of xs in
        let among : Contains ids id = All-contains (Contains ids) (filter (descends xs top) ids) id (All-filter (descends xs top) (Contains ids) ids (All-contains_itself ids)) has in
        let live : IsLive id xs = All-contains (λ q. IsLive q xs) ids id (All-map (λ q. IsLive q xs) id_of xs (all_live xs)) among in
        let holds : descends xs top id ≡ true = All-contains (λ q. descends xs top q ≡ true) (filter (descends xs top) ids) id (filter_passes (descends xs top) ids) has in
        (live, descends_sound xs rooted top id holds)

    back : IsLive id xs × Descends xs top id → Contains (subtree_of top xs) id
    back both =
        let ids = map id_of xs in
        All-contains (λ q. descends xs top q ≡ true → Contains (filter (descends xs top) ids) q) ids id (passing_stay (descends xs top) ids) (live_has xs id both.0) (descends_complete xs rooted top id both.1)

-- ---- rising ids

pub ids_rise : (c : ℕ) (xs : List Activity) → RiseFrom c xs → RiseIds c (map id_of xs)
ids_rise c [] rising = tt
ids_rise c (x ∷ xs) rising = (rising.0, ids_rise (suc x.id) xs rising.1)

pub subtree_rises : (xs : List Activity) → AreRising xs → (top : ℕ) → IsStrictlyIncreasing (subtree_of top xs)
unfolding subtree_of
subtree_rises xs rising top = increases 0 (subtree_of top xs) (filter_rises (descends xs top) 0 (map id_of xs) (ids_rise 0 xs rising))
