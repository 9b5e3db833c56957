-- What the least and the greatest sum of a block's fronts say.
use Rattle.std.proofs.Common.{◌≡◌, ◌<◌, Bool, true, false, ◌||◌, cond, List, [], ◌∷◌, ◌++◌, length, refl, ap, sym, ◌∙◌, arith, ℤ, pos, ◌+ℤ◌, Some, Option}
use Rattle.std.specs.Prelude.{int_lt, is_some}
use Rattle.std.specs.Int.{int_min, int_max}
use Rattle.std.proofs.lemmas.Bool.{false≢true}
use Rattle.std.proofs.lemmas.Int.{ints}
use Rattle.std.proofs.Math.Bool.{or-false}
use Rattle.pl_points.specs.Points.{Point, leaving, is_out}
use Rattle.pl_blocks.specs.Blocks.{least_along, greatest_along, least_sum, greatest_sum, change_of}

-- whether the least or the greatest of some sums is outside
abbrev pub either_out : ℤ → ℤ → ℤ → ℤ → Bool
either_out least most low high = int_lt low least || int_lt most high

low_part : (L s low z : ℤ) → int_lt (s +ℤ int_min low z) L ≡ (int_lt (s +ℤ low) L || int_lt (s +ℤ z) L)
low_part L s low z = grind (arith, ints)

high_part : (M s high z : ℤ) → int_lt M (s +ℤ int_max high z) ≡ (int_lt M (s +ℤ high) || int_lt M (s +ℤ z))
high_part M s high z = grind (arith, ints)

or_true : (c : Bool) → true ≡ (c || true)
or_true true = refl
or_true false = refl

across : (a b c d : Bool) → ((a || b) || (c || d)) ≡ ((a || c) || (b || d))
across true b c d = refl
across false true c d = or_true c
across false false c d = refl

one_more : (L M s low high z : ℤ) → either_out L M (s +ℤ int_min low z) (s +ℤ int_max high z) ≡ (either_out L M (s +ℤ low) (s +ℤ high) || is_out L M (s +ℤ z))
one_more L M s low high z =
    ap (λ a. a || int_lt M (s +ℤ int_max high z)) (low_part L s low z) ∙ ap (λ b. (int_lt (s +ℤ low) L || int_lt (s +ℤ z) L) || b) (high_part M s high z)
    ∙ across (int_lt (s +ℤ low) L) (int_lt (s +ℤ z) L) (int_lt M (s +ℤ high)) (int_lt M (s +ℤ z))

shuffle : (a o : Bool) (r : Point) (l : Option Point) → ((a || o) || is_some l) ≡ (a || is_some (cond o (Some r) l))
shuffle true true r l = refl
shuffle true false r l = refl
shuffle false true r l = refl
shuffle false false r l = refl

out_along : (L M s low high r : ℤ) (ps : List Point) → either_out L M (s +ℤ least_along low r ps) (s +ℤ greatest_along high r ps) ≡ (either_out L M (s +ℤ low) (s +ℤ high) || is_some (leaving L M (s +ℤ r) ps))
out_along L M s low high r [] = sym (or-false (either_out L M (s +ℤ low) (s +ℤ high)))
out_along L M s low high r (p ∷ ps) =
    let z = r +ℤ p.1 in
    let same : s +ℤ z ≡ (s +ℤ r) +ℤ p.1 = omega (arith, ints) in
    let a = either_out L M (s +ℤ low) (s +ℤ high) in
    let more : either_out L M (s +ℤ least_along (int_min low z) z ps) (s +ℤ greatest_along (int_max high z) z ps) ≡ (either_out L M (s +ℤ int_min low z) (s +ℤ int_max high z) || is_some (leaving L M (s +ℤ z) ps)) = out_along L M s (int_min low z) (int_max high z) z ps in
    more ∙ ap (λ b. b || is_some (leaving L M (s +ℤ z) ps)) (one_more L M s low high z)
    ∙ shuffle a (is_out L M (s +ℤ z)) (p.0, s +ℤ z) (leaving L M (s +ℤ z) ps)
    ∙ ap (λ x. a || is_some (cond (is_out L M x) (Some (p.0, x)) (leaving L M x ps))) same

first_there : (o : Bool) (r : Point) (l : Option Point) → (o || is_some (cond o (Some r) l)) ≡ is_some (cond o (Some r) l)
first_there true r l = refl
first_there false r l = refl

-- a sum of the block's points, behind one so far, is outside exactly where the least or the greatest is
pub out_there : (L M s : ℤ) (ps : List Point) → 0 < length ps → either_out L M (s +ℤ least_sum ps) (s +ℤ greatest_sum ps) ≡ is_some (leaving L M s ps)
out_there L M s [] some = absurd (omega (arith, some))
out_there L M s (p ∷ ps) some =
    let zero_more : s +ℤ pos 0 ≡ s = omega (arith, ints) in
    out_along L M s p.1 p.1 (pos 0) (p ∷ ps)
    ∙ ap (λ x. either_out L M (s +ℤ p.1) (s +ℤ p.1) || is_some (leaving L M x (p ∷ ps))) zero_more
    ∙ first_there (is_out L M (s +ℤ p.1)) (p.0, s +ℤ p.1) (leaving L M (s +ℤ p.1) ps)

-- the first that leaves, of two parts
pub leaving_first : (L M s : ℤ) (xs ys : List Point) → is_some (leaving L M s xs) ≡ true → leaving L M s (xs ++ ys) ≡ leaving L M s xs
leaving_first L M s [] ys some = absurd (false≢true some)
leaving_first L M s (x ∷ xs) ys some = cases (is_out L M (s +ℤ x.1)) (leaving_first L M (s +ℤ x.1) xs ys) some
  where
    cases : (v : Bool) → (is_some (leaving L M (s +ℤ x.1) xs) ≡ true → leaving L M (s +ℤ x.1) (xs ++ ys) ≡ leaving L M (s +ℤ x.1) xs)
        → is_some (cond v (Some (x.0, s +ℤ x.1)) (leaving L M (s +ℤ x.1) xs)) ≡ true
        → cond v (Some (x.0, s +ℤ x.1)) (leaving L M (s +ℤ x.1) (xs ++ ys)) ≡ cond v (Some (x.0, s +ℤ x.1)) (leaving L M (s +ℤ x.1) xs)
    cases true more some = refl
    cases false more some = more some

pub leaving_later : (L M s : ℤ) (xs ys : List Point) → is_some (leaving L M s xs) ≡ false → leaving L M s (xs ++ ys) ≡ leaving L M (s +ℤ change_of xs) ys
leaving_later L M s [] ys none =
    let same : s ≡ s +ℤ pos 0 = omega (arith, ints) in
    ap (λ z. leaving L M z ys) same
leaving_later L M s (x ∷ xs) ys none = cases (is_out L M (s +ℤ x.1)) (leaving_later L M (s +ℤ x.1) xs ys) none
  where
    same : (s +ℤ x.1) +ℤ change_of xs ≡ s +ℤ (x.1 +ℤ change_of xs)
    same = omega (arith, ints)

    cases : (v : Bool) → (is_some (leaving L M (s +ℤ x.1) xs) ≡ false → leaving L M (s +ℤ x.1) (xs ++ ys) ≡ leaving L M ((s +ℤ x.1) +ℤ change_of xs) ys)
        → is_some (cond v (Some (x.0, s +ℤ x.1)) (leaving L M (s +ℤ x.1) xs)) ≡ false
        → cond v (Some (x.0, s +ℤ x.1)) (leaving L M (s +ℤ x.1) (xs ++ ys)) ≡ leaving L M (s +ℤ change_of (x ∷ xs)) ys
    cases true more none = absurd (false≢true (sym none))
    cases false more none = more none ∙ ap (λ z. leaving L M z ys) same
