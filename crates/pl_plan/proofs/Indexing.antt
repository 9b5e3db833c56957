-- The indexes after a change of the activities.
use Rattle.std.proofs.Common.{◌≡◌, ℕ, eqb, Bool, true, false, cond, not, ◌&&◌, ◌||◌, List, Option, Some, None, refl, ap, ◌∙◌, subst}
use Rattle.std.specs.Prelude.{option_and_then}
use Rattle.std.proofs.lemmas.Bool.{eqb-true}
use Rattle.pl_plan.specs.declared.activity.Activity.{Activity}
use Rattle.pl_plan.specs.Activities.{AreRising, activity_of, placed, without, exchanged}
use Rattle.pl_plan.specs.Index.{is_number, has_pair, Enters, Leaves, IsIndexOf}
use Rattle.pl_plan.proofs.Lookups.{found-placed, found-without, found-exchanged, swapped}

module _ (owner : Activity → Option ℕ) where
  owner_of : Option Activity → Option ℕ
  owner_of o = option_and_then owner o

  pub index-placed : (a : Activity) (xs : List Activity) (before after : List (ℕ × ℕ)) → activity_of a.id xs ≡ None → IsIndexOf owner xs before → Enters (owner a) a.id before after → IsIndexOf owner (placed a xs) after
  index-placed a xs before after none tied enters n q = enters n q ∙ (rw (found-placed a xs q none) (cases (eqb a.id q) refl))
    where
      cases : (b : Bool) → eqb a.id q ≡ b → ((is_number n (owner a) && b) || has_pair n q before) ≡ is_number n (option_and_then owner (cond b (Some a) (activity_of q xs)))
      cases true e =
          let same = eqb-true a.id q e in
          let absent : has_pair n q before ≡ false = tied n q ∙ subst (λ i. is_number n (option_and_then owner (activity_of i xs)) ≡ false) same (rw none refl) in
          rw absent (or_false (is_number n (owner a)))
        where
          or_false : (b : Bool) → ((b && true) || false) ≡ b
          or_false true = refl
          or_false false = refl
      cases false e = and_false (is_number n (owner a)) ∙ tied n q
        where
          and_false : (b : Bool) → ((b && false) || has_pair n q before) ≡ has_pair n q before
          and_false true = refl
          and_false false = refl

  pub index-without : (a : Activity) (xs : List Activity) (before after : List (ℕ × ℕ)) → AreRising xs → activity_of a.id xs ≡ Some a → IsIndexOf owner xs before → Leaves (owner a) a.id before after → IsIndexOf owner (without a.id xs) after
  index-without a xs before after rising here tied leaves n q = leaves n q ∙ (rw (found-without a.id 0 xs q rising) (cases (eqb a.id q) refl))
    where
      cases : (b : Bool) → eqb a.id q ≡ b → (not (is_number n (owner a) && b) && has_pair n q before) ≡ is_number n (option_and_then owner (cond b None (activity_of q xs)))
      cases true e =
          let same = eqb-true a.id q e in
          let there : has_pair n q before ≡ is_number n (owner a) = tied n q ∙ subst (λ i. is_number n (option_and_then owner (activity_of i xs)) ≡ is_number n (owner a)) same (rw here refl) in
          rw there (none (is_number n (owner a)))
        where
          none : (b : Bool) → (not (b && true) && b) ≡ false
          none true = refl
          none false = refl
      cases false e = keep (is_number n (owner a)) ∙ tied n q
        where
          keep : (b : Bool) → (not (b && false) && has_pair n q before) ≡ has_pair n q before
          keep true = refl
          keep false = refl

  pub index-exchanged : (a : Activity) (xs : List Activity) (pairs : List (ℕ × ℕ)) → ((b : Activity) → activity_of a.id xs ≡ Some b → owner b ≡ owner a) → IsIndexOf owner xs pairs → IsIndexOf owner (exchanged a xs) pairs
  index-exchanged a xs pairs same tied n q = tied n q ∙ rw (found-exchanged a xs q) (cases (eqb a.id q) refl)
    where
      cases : (b : Bool) → eqb a.id q ≡ b → is_number n (option_and_then owner (activity_of q xs)) ≡ is_number n (option_and_then owner (cond b (swapped a (activity_of q xs)) (activity_of q xs)))
      cases true e = by_found (activity_of q xs) refl
        where
          by_found : (o : Option Activity) → activity_of q xs ≡ o → is_number n (option_and_then owner o) ≡ is_number n (option_and_then owner (swapped a o))
          by_found None f = refl
          by_found (Some b) f = ap (is_number n) (same b (ap (λ i. activity_of i xs) (eqb-true a.id q e) ∙ f))
      cases false e = refl
