-- The bounds of an expression's value, by interval arithmetic.
use Rattle.std.specs.Prelude.{ℕ, ℤ, pos, negsuc, ◌+ℤ◌, ◌-ℤ◌, ◌*ℤ◌, ◌≤ℤ◌, ◌≡◌, ◌<◌, Option, Some, None, List, length, slice_index_or}
use Rattle.std.specs.Int.{int_min, int_max}
use Rattle.pl_model.specs.declared.expressions.Op.{Op}
use Rattle.pl_model.specs.declared.expressions.Op.TheVariants.{Add, Sub, Mul, Min, Max}
use Rattle.pl_model.specs.declared.expressions.Expr.{Expr, fold-Expr}
use Rattle.pl_model.specs.declared.expressions.Expr.TheOpen.{Expr-F}

-- the nearest number that is no farther than 10^18 from 0
abbrev pub clipped : ℤ → ℤ
clipped n = int_min (int_max n (negsuc 999999999999999999)) (pos 1000000000000000000)

-- both ends clipped
abbrev pub clipped_both : ℤ × ℤ → ℤ × ℤ
clipped_both r = (clipped r.0, clipped r.1)

abbrev pub least_of : ℤ → ℤ → ℤ → ℤ → ℤ
least_of a b c d = int_min (int_min a b) (int_min c d)

abbrev pub greatest_of : ℤ → ℤ → ℤ → ℤ → ℤ
greatest_of a b c d = int_max (int_max a b) (int_max c d)

-- the least and the greatest outcome of two numbers in these intervals; a product has its ends at the four corners
abbrev pub reach_of : Op → ℤ × ℤ → ℤ × ℤ → ℤ × ℤ
reach_of Add a b = (a.0 +ℤ b.0, a.1 +ℤ b.1)
reach_of Sub a b = (a.0 -ℤ b.1, a.1 -ℤ b.0)
reach_of Mul a b = (least_of (a.0 *ℤ b.0) (a.0 *ℤ b.1) (a.1 *ℤ b.0) (a.1 *ℤ b.1), greatest_of (a.0 *ℤ b.0) (a.0 *ℤ b.1) (a.1 *ℤ b.0) (a.1 *ℤ b.1))
reach_of Min a b = (int_min a.0 b.0, int_min a.1 b.1)
reach_of Max a b = (int_max a.0 b.0, int_max a.1 b.1)

-- the range of a parameter
abbrev pub range_of : List (ℤ × ℤ) → ℕ → ℤ × ℤ
range_of ranges p = slice_index_or ranges p (pos 0, pos 0)

-- what one level of an expression gives, from the bounds of its parts
abbrev pub bounds_at : List (ℤ × ℤ) → Expr-F (ℤ × ℤ) → ℤ × ℤ
bounds_at ranges (Expr-F.Num n) = clipped_both (n, n)
bounds_at ranges (Expr-F.Param p) = clipped_both (range_of ranges p)
bounds_at ranges (Expr-F.Apply op a b) = clipped_both (reach_of op a b)

abbrev pub bounds_of : Expr → List (ℤ × ℤ) → ℤ × ℤ
bounds_of e ranges = fold-Expr (ℤ × ℤ) (bounds_at ranges) e

abbrev pub IsWithin : ℤ × ℤ → ℤ → Type 0
IsWithin range v = (range.0 ≤ℤ v) × (v ≤ℤ range.1)

-- each value that is there lies in the range of its parameter
abbrev pub AreWithin : List (Option ℤ) → List (ℤ × ℤ) → Type 0
AreWithin values ranges = (p : ℕ) (v : ℤ) → p < length ranges → slice_index_or values p None ≡ Some v → IsWithin (range_of ranges p) v
