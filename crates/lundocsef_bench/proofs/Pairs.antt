-- What comes and goes at once leaves as many as before.
use Rattle.std.proofs.Common.{◌≡◌, suc, Bool, true, false, ◌||◌, cond, List, [], ◌∷◌, ◌++◌, length, refl, ap, sym, ◌∙◌, arith}
use Rattle.std.proofs.lemmas.Bool.{eq-eqb, false≢true}
use Rattle.std.proofs.lemmas.Bool.Decides.{Decides-int_eq}
use Rattle.std.proofs.lemmas.List.{length-append}
use Rattle.pl_points.specs.Standing.{stands, without}
use Rattle.pl_capacity.specs.declared.reservation.Use.{Use}
use Rattle.pl_capacity.specs.Uses.{same_use}
use Rattle.pl_level.specs.declared.reservation.Effect.{Effect}
use Rattle.pl_level.specs.Effects.{same_effect}

stands-push : {X : Type 0} (same : X → X → Bool) (xs : List X) (u : X) → same u u ≡ true → stands same u (xs ++ u ∷ []) ≡ true
stands-push same [] u e = rw e refl
stands-push same (x ∷ xs) u e = cases (same x u) (stands-push same xs u e)
  where
    cases : (v : Bool) → stands same u (xs ++ u ∷ []) ≡ true → (v || stands same u (xs ++ u ∷ [])) ≡ true
    cases true more = refl
    cases false more = more

length-without : {X : Type 0} (same : X → X → Bool) (xs : List X) (u : X) → stands same u xs ≡ true → suc (length (without same u xs)) ≡ length xs
length-without same [] u has = absurd (false≢true has)
length-without same (x ∷ xs) u has = cases (same x u) refl has (length-without same xs u)
  where
    cases : (v : Bool) → same x u ≡ v → stands same u (x ∷ xs) ≡ true → (stands same u xs ≡ true → suc (length (without same u xs)) ≡ length xs) → suc (length (cond v xs (x ∷ without same u xs))) ≡ suc (length xs)
    cases true e h more = refl
    cases false e h more = ap suc (more (sym (rw e refl) ∙ h))

pub same_as_itself : (u : Use) → same_use u u ≡ true
same_as_itself u = rw (eq-eqb u.from u.from refl) (rw (eq-eqb u.to u.to refl) ((Decides-int_eq u.amount u.amount).1 refl))

pub effect_as_itself : (u : Effect) → same_effect u u ≡ true
effect_as_itself u = rw (eq-eqb u.at u.at refl) ((Decides-int_eq u.delta u.delta).1 refl)

pub use_stands : (xs : List Use) (u : Use) → stands same_use u (xs ++ u ∷ []) ≡ true
use_stands xs u = stands-push same_use xs u (same_as_itself u)

pub effect_stands : (xs : List Effect) (u : Effect) → stands same_effect u (xs ++ u ∷ []) ≡ true
effect_stands xs u = stands-push same_effect xs u (effect_as_itself u)

pub use_gone : (xs : List Use) (u : Use) → length (without same_use u (xs ++ u ∷ [])) ≡ length xs
use_gone xs u = omega (arith, length-without same_use (xs ++ u ∷ []) u (use_stands xs u), length-append xs (u ∷ []))

pub effect_gone : (xs : List Effect) (u : Effect) → length (without same_effect u (xs ++ u ∷ [])) ≡ length xs
effect_gone xs u = omega (arith, length-without same_effect (xs ++ u ∷ []) u (effect_stands xs u), length-append xs (u ∷ []))
