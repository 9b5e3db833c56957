-- What holds of each conflict of a list.
use Rattle.std.proofs.Common.{◌≡◌, Bool, true, false, List, [], ◌∷◌, ◌++◌, refl, sym, ◌∙◌, subst}
use Rattle.std.specs.Prelude.{◌||◌, All, map, Option, Some, None}
use Rattle.std.specs.List.{flat_map}
use Rattle.std.proofs.lemmas.List.Elements.{All-head, All-tail}
use Rattle.std.proofs.Math.Bool.{or-false}
use Rattle.pl_conflict.specs.declared.conflict.Conflict.{Conflict}
use Rattle.pl_conflict.specs.Order.{has}
use Rattle.pl_conflict.proofs.Sorting.{same_is, has-append}
use Rattle.pl_semantics.specs.PlanStates.{of_found, when, if_planned}

abbrev pub Each : (Conflict → Type 0) → List Conflict → Type 0
Each P ks = (q : Conflict) → has q ks ≡ true → P q

module _ (P : Conflict → Type 0) where
  pub each_none : Each P []
  each_none q h = absurd (cc)

  pub each_one : (k : Conflict) → P k → Each P (k ∷ [])
  each_one k p q h = subst P (sym (same_is q k (sym (or-false _) ∙ h))) p

  pub each_append : (xs ys : List Conflict) → Each P xs → Each P ys → Each P (xs ++ ys)
  each_append xs ys one two q h = cases (has q xs) refl (sym (has-append xs ys q) ∙ h)
    where
      cases : (b : Bool) → has q xs ≡ b → (has q xs || has q ys) ≡ true → P q
      cases true e g = one q e
      cases false e g = two q (rw e at g)

  pub each_when : (b : Bool) (k : Conflict) → P k → Each P (when b k)
  each_when true k p = each_one k p
  each_when false k p = each_none

  pub each_planned : (b : Bool) (ks : List Conflict) → Each P ks → Each P (if_planned b ks)
  each_planned true ks all = each_none
  each_planned false ks all = all

  pub each_found : {X : Type 0} (rule : X → List Conflict) (o : Option X) → ((x : X) → Each P (rule x)) → Each P (of_found rule o)
  each_found rule None all = each_none
  each_found rule (Some x) all = all x

  pub each_flat : {X : Type 0} (rule : X → List Conflict) (xs : List X) → ((x : X) → Each P (rule x)) → Each P (flat_map rule xs)
  each_flat rule [] all = each_none
  each_flat rule (x ∷ xs) all = each_append (rule x) (flat_map rule xs) (all x) (each_flat rule xs all)

  pub each_map : {X : Type 0} (make : X → Conflict) (xs : List X) → ((x : X) → P (make x)) → Each P (map make xs)
  each_map make [] all = each_none
  each_map make (x ∷ xs) all = each_append (make x ∷ []) (map make xs) (each_one (make x) (all x)) (each_map make xs all)

  pub each_made : {X : Type 0} (make : X → Conflict) (xs : List X) → All (λ x. P (make x)) xs → Each P (map make xs)
  each_made make [] all = each_none
  each_made make (x ∷ xs) all = each_append (make x ∷ []) (map make xs) (each_one (make x) (All-head (λ x. P (make x)) x xs all)) (each_made make xs (All-tail (λ x. P (make x)) x xs all))
