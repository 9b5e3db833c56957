-- Sums over what stands.
use Rattle.std.proofs.Common.{◌≡◌, suc, ◌*◌, ◌^◌, ◌≤◌, Bool, true, false, ◌||◌, cond, List, [], ◌∷◌, ◌++◌, length, refl, ap, subst, arith, ℤ, pos, ◌+ℤ◌, ◌≤ℤ◌, neg_ℤ}
use Rattle.std.proofs.lemmas.Bool.{cond_both, false≢true}
use Rattle.std.proofs.lemmas.Int.{ints}
use Rattle.pl_points.specs.Sums.{total}
use Rattle.pl_points.specs.declared.noted.Noted.{Noted}
use Rattle.pl_points.specs.Standing.{stands, without, noted, standing_from, Each}

pub total-push : {T : Type 0} (f : T → ℤ) (xs : List T) (u : T) → total f (xs ++ u ∷ []) ≡ total f xs +ℤ f u
total-push f [] u = omega (arith, ints)
total-push f (x ∷ xs) u = omega (arith, ints, total-push f xs u)

pub total-without : {T : Type 0} (same : T → T → Bool) (exact : (x y : T) → same x y ≡ true → x ≡ y) (f : T → ℤ) (xs : List T) (u : T) → stands same u xs ≡ true → total f (without same u xs) +ℤ f u ≡ total f xs
total-without same exact f [] u has = absurd (false≢true has)
total-without same exact f (x ∷ xs) u has = cases (same x u) refl (total-without same exact f xs u) has
  where
    cases : (v : Bool) → same x u ≡ v → (stands same u xs ≡ true → total f (without same u xs) +ℤ f u ≡ total f xs) → (v || stands same u xs) ≡ true → total f (cond v xs (x ∷ without same u xs)) +ℤ f u ≡ f x +ℤ total f xs
    cases true e more has = omega (arith, ints, ap f (exact x u e))
    cases false e more has = omega (arith, ints, more has)

pub length-without : {T : Type 0} (same : T → T → Bool) (xs : List T) (u : T) → length (without same u xs) ≤ length xs
length-without same [] u = omega arith
length-without same (x ∷ xs) u = cond_both (same x u) xs (x ∷ without same u xs) (λ l. length l ≤ suc (length xs)) (λ e. omega arith) (λ e. omega (arith, length-without same xs u))

pub each-push : {T : Type 0} (P : T → Type 0) (xs : List T) (u : T) → Each P xs → P u → Each P (xs ++ u ∷ [])
each-push P [] u all one = (one, tt)
each-push P (x ∷ xs) u all one = (all.0, each-push P xs u all.1 one)

pub each-without : {T : Type 0} (P : T → Type 0) (same : T → T → Bool) (xs : List T) (u : T) → Each P xs → Each P (without same u xs)
each-without P same [] u all = tt
each-without P same (x ∷ xs) u all = cond_both (same x u) xs (x ∷ without same u xs) (λ l. Each P l) (λ e. all.1) (λ e. (all.0, each-without P same xs u all.1))

pub each-stands : {T : Type 0} (P : T → Type 0) (same : T → T → Bool) (exact : (x y : T) → same x y ≡ true → x ≡ y) (xs : List T) (u : T) → Each P xs → stands same u xs ≡ true → P u
each-stands P same exact [] u all has = absurd (false≢true has)
each-stands P same exact (x ∷ xs) u all has = cases (same x u) refl (each-stands P same exact xs u all.1) has
  where
    cases : (v : Bool) → same x u ≡ v → (stands same u xs ≡ true → P u) → (v || stands same u xs) ≡ true → P u
    cases true e more has = subst (λ y. P y) (exact x u e) all.0
    cases false e more has = more has

pub standing-push : {T : Type 0} (same : T → T → Bool) (items : List T) (notes : List (Noted T)) (note : Noted T) → standing_from same items (notes ++ note ∷ []) ≡ noted same (standing_from same items notes) note
standing-push same items [] note = refl
standing-push same items (x ∷ notes) note = standing-push same (noted same items x) notes note

-- within 10^9 of 0
abbrev pub IsAmount : ℤ → Type 0
IsAmount z = (neg_ℤ (pos (10 ^ 9)) ≤ℤ z) × (z ≤ℤ pos (10 ^ 9))

pub total_bounds : {T : Type 0} (f : T → ℤ) (xs : List T) → Each (λ x. IsAmount (f x)) xs → (neg_ℤ (pos (1000000000 * length xs)) ≤ℤ total f xs) × (total f xs ≤ℤ pos (1000000000 * length xs))
total_bounds f [] all = (omega (arith, ints), omega (arith, ints))
total_bounds f (x ∷ xs) all =
    let more : (neg_ℤ (pos (1000000000 * length xs)) ≤ℤ total f xs) × (total f xs ≤ℤ pos (1000000000 * length xs)) = total_bounds f xs all.1 in
    (omega (arith, ints, more.0, all.0.0), omega (arith, ints, more.1, all.0.1))

pub each-all : {T : Type 0} (P Q : T → Type 0) (xs : List T) → ((x : T) → P x → Q x) → Each P xs → Each Q xs
each-all P Q [] f all = tt
each-all P Q (x ∷ xs) f all = (f x all.0, each-all P Q xs f all.1)
