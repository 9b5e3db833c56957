-- Parents, and what a rule comes to along them.
use Rattle.std.proofs.Common.{◌≡◌, ℕ, zero, suc, ◌<◌, ◌≤◌, eqb, Bool, true, false, List, [], ◌∷◌, Option, Some, None, IfSome, refl, ap, subst, arith}
use Rattle.std.specs.Prelude.{All}
use Rattle.std.proofs.lemmas.List.Elements.{All-head, All-tail}
use Rattle.std.proofs.lemmas.Bool.{eqb-true}
use Rattle.pl_plan.specs.declared.activity.Activity.{Activity}
use Rattle.pl_plan.specs.Activities.{activity_of, IsLive}
use Rattle.pl_plan.specs.Trees.{IsParented, IsRooted, parent_id, parent_of, climbed, climb}

-- what holds of all activities holds of the one of an id
pub all_at : (P : Activity → Type 0) (xs : List Activity) (id : ℕ) (a : Activity) → All P xs → activity_of id xs ≡ Some a → P a × (a.id ≡ id)
all_at P [] id a all is = absurd (cc)
all_at P (x ∷ xs) id a all is = cases (eqb x.id id) refl (all_at P xs id a (All-tail P x xs all))
  where
    cases : (b : Bool) → eqb x.id id ≡ b → (activity_of id xs ≡ Some a → P a × (a.id ≡ id)) → P a × (a.id ≡ id)
    cases true e more =
        let found : Some x ≡ Some a = rw e at is in
        let same : x ≡ a = cc in
        (subst P same (All-head P x xs all), subst (λ y. y.id ≡ id) same (eqb-true x.id id e))
    cases false e more = let found : activity_of id xs ≡ Some a = rw e at is in more found

parent_below : (xs : List Activity) (a : Activity) (o : Option (ℕ × ℕ)) (p : ℕ) → IfSome o (λ q. IsLive q.0 xs × (q.0 < a.id)) → parent_id o ≡ Some p → IsLive p xs × (p < a.id)
parent_below xs a None p holds is = absurd (cc)
parent_below xs a (Some q) p holds is =
    let same : q.0 ≡ p = cc in
    subst (λ n. IsLive n xs × (n < a.id)) same holds

-- a parent is live, and its id is smaller
pub parent_smaller : (xs : List Activity) → IsRooted xs → (id p : ℕ) → parent_of id xs ≡ Some p → IsLive p xs × (p < id)
parent_smaller xs rooted id p is = cases (activity_of id xs) refl
  where
    cases : (o : Option Activity) → activity_of id xs ≡ o → IsLive p xs × (p < id)
    cases None e = let none : None ≡ Some p = rw e at is in absurd (cc)
    cases (Some a) e =
        let named : parent_id a.parent ≡ Some p = rw e at is in
        let all = all_at (IsParented xs) xs id a rooted.parents e in
        subst (λ n. IsLive p xs × (p < n)) all.1 (parent_below xs a a.parent p all.0 named)

module _ {R : Type 0} (rule : ℕ → Option R → R) (xs : List Activity) (rooted : IsRooted xs) where
  -- more steps than the id come to the same
  climbed_same : (m n id : ℕ) → id ≤ m → id ≤ n → climbed rule m xs id ≡ climbed rule n xs id
  climbed_same zero zero id le ge = refl
  climbed_same zero (suc n) id le ge = cases (parent_of id xs) refl
    where
      cases : (o : Option ℕ) → parent_of id xs ≡ o → climbed rule zero xs id ≡ climbed rule (suc n) xs id
      cases None e = rw e refl
      cases (Some p) e = absurd (omega (arith, (parent_smaller xs rooted id p e).1, le))
  climbed_same (suc m) zero id le ge = cases (parent_of id xs) refl
    where
      cases : (o : Option ℕ) → parent_of id xs ≡ o → climbed rule (suc m) xs id ≡ climbed rule zero xs id
      cases None e = rw e refl
      cases (Some p) e = absurd (omega (arith, (parent_smaller xs rooted id p e).1, ge))
  climbed_same (suc m) (suc n) id le ge = cases (parent_of id xs) refl (λ p a b. climbed_same m n p a b)
    where
      cases : (o : Option ℕ) → parent_of id xs ≡ o → ((p : ℕ) → p ≤ m → p ≤ n → climbed rule m xs p ≡ climbed rule n xs p) → climbed rule (suc m) xs id ≡ climbed rule (suc n) xs id
      cases None e more = rw e refl
      cases (Some p) e more =
          let lt : p < id = (parent_smaller xs rooted id p e).1 in
          rw e (ap (λ r. rule id (Some r)) (more p (omega (arith, lt, le)) (omega (arith, lt, ge))))

  pub climb_root : (id : ℕ) → parent_of id xs ≡ None → climb rule xs id ≡ rule id None
  unfolding climb
  climb_root zero none = refl
  climb_root (suc n) none = rw none refl

  pub climb_child : (id p : ℕ) → parent_of id xs ≡ Some p → climb rule xs id ≡ rule id (Some (climb rule xs p))
  unfolding climb
  climb_child zero p is = absurd (omega (arith, (parent_smaller xs rooted zero p is).1))
  climb_child (suc n) p is =
      let lt : p < suc n = (parent_smaller xs rooted (suc n) p is).1 in
      rw is (ap (λ r. rule (suc n) (Some r)) (climbed_same n p p (omega (arith, lt)) (omega arith)))
