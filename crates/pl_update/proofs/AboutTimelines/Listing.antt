-- Sums over lists, however each item counts.
use Rattle.std.proofs.Common.{◌≡◌, Bool, true, false, cond, List, [], ◌∷◌, ◌++◌, length, refl, arith, ℤ, pos, ◌+ℤ◌, ◌≤ℤ◌}
use Rattle.std.specs.Prelude.{All}
use Rattle.std.specs.List.{flat_map, fold}
use Rattle.std.proofs.lemmas.Int.{ints}
use Rattle.std.proofs.lemmas.List.Elements.{All-head, All-tail}
use Rattle.pl_lists.specs.Lists.{front, back}
use Rattle.pl_points.specs.Sums.{total}

pub total_same : {T : Type 0} (f g : T → ℤ) → ((x : T) → f x ≡ g x) → (xs : List T) → total f xs ≡ total g xs
total_same f g same [] = refl
total_same f g same (x ∷ xs) = omega (arith, ints, same x, total_same f g same xs)

-- the same where they are equal on the items alone
pub total_each : {T : Type 0} (f g : T → ℤ) (xs : List T) → All (λ x. f x ≡ g x) xs → total f xs ≡ total g xs
total_each f g [] all = refl
total_each f g (x ∷ xs) all = omega (arith, ints, All-head (λ x. f x ≡ g x) x xs all, total_each f g xs (All-tail (λ x. f x ≡ g x) x xs all))

pub total_zero : {T : Type 0} (f : T → ℤ) (xs : List T) → All (λ x. f x ≡ pos 0) xs → total f xs ≡ pos 0
total_zero f [] all = refl
total_zero f (x ∷ xs) all = omega (arith, ints, All-head (λ x. f x ≡ pos 0) x xs all, total_zero f xs (All-tail (λ x. f x ≡ pos 0) x xs all))

pub total_nothing : {T : Type 0} (xs : List T) → total (λ x. pos 0) xs ≡ pos 0
total_nothing [] = refl
total_nothing (x ∷ xs) = omega (arith, ints, total_nothing xs)

pub total_least : {T : Type 0} (f : T → ℤ) → ((x : T) → pos 0 ≤ℤ f x) → (xs : List T) → pos 0 ≤ℤ total f xs
total_least f least [] = omega (arith, ints)
total_least f least (x ∷ xs) = omega (arith, ints, least x, total_least f least xs)

pub total_most : {T : Type 0} (f g : T → ℤ) → ((x : T) → f x ≤ℤ g x) → (xs : List T) → total f xs ≤ℤ total g xs
total_most f g most [] = omega (arith, ints)
total_most f g most (x ∷ xs) = omega (arith, ints, most x, total_most f g most xs)

pub total_ones : {T : Type 0} (f : T → ℤ) → ((x : T) → f x ≤ℤ pos 1) → (xs : List T) → total f xs ≤ℤ pos (length xs)
total_ones f most [] = omega (arith, ints)
total_ones f most (x ∷ xs) = omega (arith, ints, most x, total_ones f most xs)

pub total-append : {T : Type 0} (f : T → ℤ) (xs ys : List T) → total f (xs ++ ys) ≡ total f xs +ℤ total f ys
total-append f [] ys = omega (arith, ints)
total-append f (x ∷ xs) ys = omega (arith, ints, total-append f xs ys)

pub total-flat : {T X : Type 0} (f : X → ℤ) (rule : T → List X) (xs : List T) → total f (flat_map rule xs) ≡ total (λ x. total f (rule x)) xs
total-flat f rule [] = refl
total-flat f rule (x ∷ xs) = omega (arith, ints, total-append f (rule x) (flat_map rule xs), total-flat f rule xs)

-- ---- one put in its place

total_parted : {T : Type 0} (f : T → ℤ) (passes : T → Bool) (xs : List T) → total f xs ≡ total f (front passes xs) +ℤ total f (back passes xs)
total_parted f passes [] = refl
total_parted f passes (x ∷ xs) = by (passes x) (total_parted f passes xs)
  where
    by : (b : Bool) → total f xs ≡ total f (front passes xs) +ℤ total f (back passes xs) → (f x +ℤ total f xs) ≡ total f (cond b (x ∷ front passes xs) []) +ℤ total f (cond b (back passes xs) (x ∷ xs))
    by true h = omega (arith, ints, h)
    by false h = omega (arith, ints)

pub total_put : {T : Type 0} (f : T → ℤ) (passes : T → Bool) (u : T) (xs : List T) → total f (front passes xs ++ u ∷ back passes xs) ≡ total f xs +ℤ f u
total_put f passes u xs = omega (arith, ints, total-append f (front passes xs) (u ∷ back passes xs), total_parted f passes xs)

-- and one after another
pub total_fold : {T : Type 0} (f : T → ℤ) (put : List T → T → List T) → ((ys : List T) (x : T) → total f (put ys x) ≡ total f ys +ℤ f x) → (xs ys : List T) → total f (fold put ys xs) ≡ total f ys +ℤ total f xs
total_fold f put puts [] ys = omega (arith, ints)
total_fold f put puts (x ∷ xs) ys = omega (arith, ints, total_fold f put puts xs (put ys x), puts ys x)
