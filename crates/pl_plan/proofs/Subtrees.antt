-- What descends from an activity, from above: itself, and what descends from its children.
use Rattle.std.proofs.Common.{◌≡◌, ℕ, zero, suc, ◌<◌, eqb, Bool, true, false, ◌&&◌, ◌||◌, List, [], ◌∷◌, length, get_or, map, Option, Some, None, is_some, refl, sym, ap, ◌∙◌, subst, arith, nat_cmp, is_eq, cond, BTreeSet}
use Rattle.std.specs.Prelude.{filter}
use Rattle.std.specs.List.{list_any}
use Rattle.std.specs.List.Sorted.{IsStrictlySortedBy}
use Rattle.std.specs.BTreeMap.{is_at}
use Rattle.std.specs.BTreeSet.{contains}
use Rattle.std.proofs.lemmas.Bool.{eq-eqb, ne_eqb, eqb-true, eqb-false, or_left, or_right}
use Rattle.std.proofs.Math.Bool.{or-false, and-false}
use Rattle.pl_lists.proofs.Elements.{any_agree}
use Rattle.pl_lists.proofs.Tests.{same_test}
use Rattle.pl_plan.specs.declared.activity.Activity.{Activity}
use Rattle.pl_plan.specs.Activities.{AreRising, activity_of, IsLive}
use Rattle.pl_plan.specs.Index.{is_number}
use Rattle.pl_plan.specs.Trees.{id_of, IsRooted, parent_in, parent_of, children_of, Descends, itself, child, descends, subtree_of}
use Rattle.pl_plan.proofs.TreeLaws.{descends_join, descends_sound, descends_complete}
use Rattle.pl_plan.proofs.RisingIds.{among, filter_rises, same_rising, sorted_rises}
use Rattle.pl_plan.proofs.Owned.{owned_among}
use Rattle.pl_plan.proofs.Pairs.{eq_at}
use Rattle.pl_plan.proofs.Members.{ids_rise}

-- ---- tests that agree

any_at : (f : ℕ → Bool) (ids : List ℕ) (q : ℕ) → among q ids ≡ true → f q ≡ true → list_any f ids ≡ true
any_at f [] q there holds = absurd (cc)
any_at f (i ∷ ids) q there holds = by_id (eqb q i) refl (any_at f ids q)
  where
    by_id : (b : Bool) → eqb q i ≡ b → (among q ids ≡ true → f q ≡ true → list_any f ids ≡ true) → (f i || list_any f ids) ≡ true
    by_id true e more = or_left (f i) (list_any f ids) (subst (λ n. f n ≡ true) (eqb-true q i e) holds)
    by_id false e more = or_right (f i) (list_any f ids) (more (rw e at there) holds)

any_gives : (f : ℕ → Bool) (G : Type 0) (ids : List ℕ) → list_any f ids ≡ true → ((i : ℕ) → among i ids ≡ true → f i ≡ true → G) → G
any_gives f G [] holds given = absurd (cc)
any_gives f G (i ∷ ids) holds given = by_first (f i) refl (λ h. any_gives f G ids h (λ j there is. given j (or_right (eqb j i) (among j ids) there) is))
  where
    by_first : (b : Bool) → f i ≡ b → (list_any f ids ≡ true → G) → G
    by_first true e more = given i (or_left (eqb i i) (among i ids) (eq-eqb i i refl)) e
    by_first false e more = more (rw e at holds)

pub number_is : (n : ℕ) (o : Option ℕ) → is_number n o ≡ true → o ≡ Some n
number_is n None e = absurd (cc)
number_is n (Some m) e = ap Some (eqb-true m n e)

pub is_this : (n : ℕ) (o : Option ℕ) → o ≡ Some n → is_number n o ≡ true
is_this n None e = absurd (cc)
is_this n (Some m) e = let same : m ≡ n = cc in eq-eqb m n same

pub among_itself : (ids : List ℕ) (k : ℕ) → k < length ids → among (get_or ids k 0) ids ≡ true
among_itself [] k lt = absurd (omega (arith, lt))
among_itself (i ∷ ids) zero lt = or_left (eqb i i) (among i ids) (eq-eqb i i refl)
among_itself (i ∷ ids) (suc k) lt = or_right (eqb (get_or ids k 0) i) (among (get_or ids k 0) ids) (among_itself ids k (omega (arith, lt)))

pub named_live : (xs : List Activity) (q p : ℕ) → parent_of q xs ≡ Some p → IsLive q xs
named_live xs q p is = by_found (activity_of q xs) refl
  where
    by_found : (o : Option Activity) → activity_of q xs ≡ o → is_some o ≡ true
    by_found None e = absurd (let bad : None ≡ Some p = rw e at is in cc)
    by_found (Some a) e = refl

pub one_more : (a b rest : Bool) → (b || (a || rest)) ≡ ((a || b) || rest)
one_more true true rest = refl
one_more true false rest = refl
one_more false true rest = refl
one_more false false rest = refl

pub grouped : (a b rest : Bool) → (a || (b || rest)) ≡ ((a || b) || rest)
grouped true b rest = refl
grouped false b rest = refl

module _ (xs : List Activity) (rooted : IsRooted xs) (rising : AreRising xs) where
  pub child_parent : (top id : ℕ) → among id (children_of top xs) ≡ true → parent_of id xs ≡ Some top
  child_parent top id there = number_is top (parent_of id xs) (sym (owned_among parent_in top 0 xs id rising) ∙ there)

  parent_child : (top id : ℕ) → parent_of id xs ≡ Some top → among id (children_of top xs) ≡ true
  parent_child top id is = owned_among parent_in top 0 xs id rising ∙ is_this top (parent_of id xs) is

  -- itself, or below a child
  abbrev pub below : ℕ → ℕ → Bool
  below top q = list_any (λ c. descends xs c q) (children_of top xs) || eqb top q

  down : (top q : ℕ) → Descends xs top q → below top q ≡ true
  down top q itself = or_right (list_any (λ c. descends xs c top) (children_of top xs)) (eqb top top) (eq-eqb top top refl)
  down top q (child n p is above) = by_parent (eqb top p) refl (down top p above)
    where
      lower : (i : ℕ) → among i (children_of top xs) ≡ true → descends xs i p ≡ true → list_any (λ c. descends xs c q) (children_of top xs) ≡ true
      lower i there holds = any_at (λ c. descends xs c q) (children_of top xs) i there (descends_complete xs rooted i q (child q p is (descends_sound xs rooted i p holds)))

      by_parent : (b : Bool) → eqb top p ≡ b → below top p ≡ true → below top q ≡ true
      by_parent true e more =
          let named : parent_of q xs ≡ Some top = is ∙ ap Some (sym (eqb-true top p e)) in
          or_left (list_any (λ c. descends xs c q) (children_of top xs)) (eqb top q) (any_at (λ c. descends xs c q) (children_of top xs) q (parent_child top q named) (descends_complete xs rooted q q itself))
      by_parent false e more =
          let some : list_any (λ c. descends xs c p) (children_of top xs) ≡ true = or_false (list_any (λ c. descends xs c p) (children_of top xs)) (rw e at more) in
          or_left (list_any (λ c. descends xs c q) (children_of top xs)) (eqb top q) (any_gives (λ c. descends xs c p) (list_any (λ c. descends xs c q) (children_of top xs) ≡ true) (children_of top xs) some lower)
        where
          or_false : (b : Bool) → (b || false) ≡ true → b ≡ true
          or_false true h = refl
          or_false false h = h

  up : (top q : ℕ) → below top q ≡ true → Descends xs top q
  up top q holds = by_self (eqb top q) refl
    where
      by_self : (b : Bool) → eqb top q ≡ b → Descends xs top q
      by_self true e = subst (λ n. Descends xs top n) (eqb-true top q e) itself
      by_self false e =
          any_gives (λ c. descends xs c q) (Descends xs top q) (children_of top xs) (or_false (list_any (λ c. descends xs c q) (children_of top xs)) (rw e at holds))
          (λ i there is. descends_join xs top i q (child i top (child_parent top i there) itself) (descends_sound xs rooted i q is))
        where
          or_false : (b : Bool) → (b || false) ≡ true → b ≡ true
          or_false true h = refl
          or_false false h = h

  pub descends_below : (top q : ℕ) → below top q ≡ descends xs top q
  descends_below top q = same_test (below top q) (descends xs top q) (λ h. descends_complete xs rooted top q (up top q h)) (λ h. down top q (descends_sound xs rooted top q h))

  -- ---- the subtree as a list

  among_filter : (p : ℕ → Bool) (q : ℕ) (ids : List ℕ) → among q (filter p ids) ≡ (p q && among q ids)
  among_filter p q [] = sym (and-false (p q))
  among_filter p q (i ∷ ids) = cases (p i) refl (eqb q i) refl (among_filter p q ids)
    where
      cases : (b : Bool) → p i ≡ b → (d : Bool) → eqb q i ≡ d → among q (filter p ids) ≡ (p q && among q ids) → among q (filter p (i ∷ ids)) ≡ (p q && among q (i ∷ ids))
      cases true e true f more = let holds : p q ≡ true = ap p (eqb-true q i f) ∙ e in rw (e, f, holds) refl
      cases true e false f more = rw (e, f) more
      cases false e true f more = let fails : p q ≡ false = ap p (eqb-true q i f) ∙ e in rw (e, fails) (rw fails at more)
      cases false e false f more = rw (e, f) more

  among_live : (q : ℕ) (ys : List Activity) → among q (map id_of ys) ≡ is_some (activity_of q ys)
  among_live q [] = refl
  among_live q (y ∷ ys) = cases (eqb y.id q) refl (among_live q ys)
    where
      cases : (b : Bool) → eqb y.id q ≡ b → among q (map id_of ys) ≡ is_some (activity_of q ys) → among q (map id_of (y ∷ ys)) ≡ is_some (activity_of q (y ∷ ys))
      cases true e more = rw (e, eq-eqb q y.id (sym (eqb-true y.id q e))) refl
      cases false e more = rw (e, ne_eqb q y.id (λ same. eqb-false y.id q e (sym same))) more

  pub descends_live : (top q : ℕ) → IsLive top xs → Descends xs top q → is_some (activity_of q xs) ≡ true
  descends_live top q live itself = live
  descends_live top q live (child n p is above) = named_live xs q p is

  pub subtree_is : (top : ℕ) (ids : List ℕ) → IsLive top xs → IsStrictlySortedBy nat_cmp ids → ((q : ℕ) → among q ids ≡ descends xs top q) → ids ≡ subtree_of top xs
  unfolding subtree_of
  subtree_is top ids live sorted same =
      same_rising 0 ids (subtree_of top xs) (sorted_rises 0 ids (λ k d lt. omega arith) sorted) (filter_rises (descends xs top) 0 (map id_of xs) (ids_rise 0 xs rising))
      (λ q. same q ∙ sym (among_filter (descends xs top) q (map id_of xs) ∙ (ap (λ b. descends xs top q && b) (among_live q xs) ∙ both q (descends xs top q) refl)))
    where
      both : (q : ℕ) (b : Bool) → descends xs top q ≡ b → (b && is_some (activity_of q xs)) ≡ b
      both q true e = descends_live top q live (descends_sound xs rooted top q e)
      both q false e = refl

pub contains_among : (q : ℕ) (ids : List ℕ) → list_any (λ k. is_eq (nat_cmp q k)) ids ≡ among q ids
contains_among q ids = any_agree (λ k. is_eq (nat_cmp q k)) (eqb q) (eq_at q) ids

pub inserted_one : (before after : BTreeSet ℕ) (id q : ℕ) → contains nat_cmp after q ≡ cond (is_at (nat_cmp id) q) true (contains nat_cmp before q) → contains nat_cmp after q ≡ (eqb id q || contains nat_cmp before q)
inserted_one before after id q is = is ∙ rw (eq_at id q) (as_or (eqb id q))
  where
    as_or : (b : Bool) → cond b true (contains nat_cmp before q) ≡ (b || contains nat_cmp before q)
    as_or true = refl
    as_or false = refl

pub found_all : (xs : List Activity) (top : ℕ) (before after : BTreeSet ℕ) (q : ℕ) → before.keys ≡ [] → contains nat_cmp after q ≡ (descends xs top q || contains nat_cmp before q) → among q after.keys ≡ descends xs top q
found_all xs top before after q empty is = sym (contains_among q after.keys) ∙ (is ∙ (ap (λ (l : List ℕ). descends xs top q || list_any (λ k. is_eq (nat_cmp q k)) l) empty ∙ or-false (descends xs top q)))
