-- The test of descent is exact, and roots are unique.
use Rattle.std.proofs.Common.{◌≡◌, ℕ, zero, suc, ◌<◌, ◌≤◌, eqb, Bool, true, false, List, Option, Some, None, refl, sym, ◌∙◌, subst, arith}
use Rattle.std.proofs.lemmas.Bool.{eq-eqb, eqb-true, or_right}
use Rattle.pl_plan.specs.declared.activity.Activity.{Activity}
use Rattle.pl_plan.specs.Activities.{IsLive}
use Rattle.pl_plan.specs.Trees.{IsRooted, parent_of, root_rule, root_of, Descends, itself, child, descent_rule, descends}
use Rattle.pl_plan.specs.Laws.{IsRootOf}
use Rattle.pl_plan.proofs.Climbs.{parent_smaller, climb_root, climb_child}

pub descends_join : (xs : List Activity) (top middle id : ℕ) → Descends xs top middle → Descends xs middle id → Descends xs top id
descends_join xs top middle id above itself = above
descends_join xs top middle id above (child n p is below) = child id p is (descends_join xs top middle p above below)

module _ (xs : List Activity) (rooted : IsRooted xs) where
  at_root : (top id : ℕ) → parent_of id xs ≡ None → descends xs top id ≡ descent_rule top id None
  at_root top id none = climb_root (descent_rule top) xs rooted id none

  pub at_child : (top id p : ℕ) → parent_of id xs ≡ Some p → descends xs top id ≡ descent_rule top id (Some (descends xs top p))
  at_child top id p is = climb_child (descent_rule top) xs rooted id p is

  sound_by : (top n id : ℕ) → id ≤ n → descends xs top id ≡ true → Descends xs top id
  sound_by top zero id le holds = by_parent (parent_of id xs) refl (eqb id top) refl
    where
      by_parent : (o : Option ℕ) → parent_of id xs ≡ o → (b : Bool) → eqb id top ≡ b → Descends xs top id
      by_parent o e true same = subst (λ k. Descends xs top k) (sym (eqb-true id top same)) itself
      by_parent None e false other = let bad : false ≡ true = sym (at_root top id e ∙ rw other refl) ∙ holds in absurd (cc)
      by_parent (Some p) e false other = absurd (omega (arith, (parent_smaller xs rooted id p e).1, le))
  sound_by top (suc n) id le holds = by_parent (parent_of id xs) refl (eqb id top) refl (λ p less h. sound_by top n p less h)
    where
      by_parent : (o : Option ℕ) → parent_of id xs ≡ o → (b : Bool) → eqb id top ≡ b → ((p : ℕ) → p ≤ n → descends xs top p ≡ true → Descends xs top p) → Descends xs top id
      by_parent o e true same more = subst (λ k. Descends xs top k) (sym (eqb-true id top same)) itself
      by_parent None e false other more = let bad : false ≡ true = sym (at_root top id e ∙ rw other refl) ∙ holds in absurd (cc)
      by_parent (Some p) e false other more =
          let less : p < id = (parent_smaller xs rooted id p e).1 in
          let above : descends xs top p ≡ true = sym (at_child top id p e ∙ rw other refl) ∙ holds in
          child id p e (more p (omega (arith, less, le)) above)

  pub descends_sound : (top id : ℕ) → descends xs top id ≡ true → Descends xs top id
  descends_sound top id holds = sound_by top id id (omega arith) holds

  self_true : (top : ℕ) → descends xs top top ≡ true
  self_true top = by_parent (parent_of top xs) refl
    where
      same : eqb top top ≡ true
      same = eq-eqb top top refl

      by_parent : (o : Option ℕ) → parent_of top xs ≡ o → descends xs top top ≡ true
      by_parent None e = at_root top top e ∙ rw same refl
      by_parent (Some p) e = at_child top top p e ∙ rw same refl

  pub descends_complete : (top id : ℕ) → Descends xs top id → descends xs top id ≡ true
  descends_complete top id itself = self_true top
  descends_complete top id (child n p is above) = at_child top id p is ∙ or_right (eqb id top) (descends xs top p) (descends_complete top p above)

  root_by : (n id : ℕ) → id ≤ n → IsLive id xs → IsRootOf xs id (root_of id xs)
  root_by zero id le live = by_parent (parent_of id xs) refl
    where
      by_parent : (o : Option ℕ) → parent_of id xs ≡ o → IsRootOf xs id (root_of id xs)
      by_parent None e = subst (λ r. IsRootOf xs id r) (sym (climb_root root_rule xs rooted id e)) (record { live = live; top = e; above = itself })
      by_parent (Some p) e = absurd (omega (arith, (parent_smaller xs rooted id p e).1, le))
  root_by (suc n) id le live = by_parent (parent_of id xs) refl (λ p less l. root_by n p less l)
    where
      by_parent : (o : Option ℕ) → parent_of id xs ≡ o → ((p : ℕ) → p ≤ n → IsLive p xs → IsRootOf xs p (root_of p xs)) → IsRootOf xs id (root_of id xs)
      by_parent None e more = subst (λ r. IsRootOf xs id r) (sym (climb_root root_rule xs rooted id e)) (record { live = live; top = e; above = itself })
      by_parent (Some p) e more =
          let smaller = parent_smaller xs rooted id p e in
          let above = more p (omega (arith, smaller.1, le)) smaller.0 in
          subst (λ r. IsRootOf xs id r) (sym (climb_child root_rule xs rooted id p e)) (record { live = above.live; top = above.top; above = child id p e above.above })

  pub root_is : (id : ℕ) → IsLive id xs → IsRootOf xs id (root_of id xs)
  root_is id live = root_by id id (omega arith) live

  same_root : (root id : ℕ) → parent_of root xs ≡ None → Descends xs root id → root ≡ root_of id xs
  same_root root id none itself = sym (climb_root root_rule xs rooted root none)
  same_root root id none (child n p is above) = same_root root p none above ∙ sym (climb_child root_rule xs rooted id p is)

  pub root_only : (id root : ℕ) → IsRootOf xs id root → root ≡ root_of id xs
  root_only id root is = same_root root id is.top is.above
