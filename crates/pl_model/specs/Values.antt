-- The value of an expression.
use Rattle.std.specs.Prelude.{ℕ, ℤ, pos, negsuc, ◌+ℤ◌, ◌-ℤ◌, ◌*ℤ◌, int_le, Bool, true, Option, Some, None, List, slice_index_or, option_and_then, ◌&&◌, if◌then◌else◌, nat_lt, IsTrue}
use Rattle.std.specs.Int.{int_min, int_max}
use Rattle.pl_model.specs.declared.expressions.Op.{Op}
use Rattle.pl_model.specs.declared.expressions.Op.TheVariants.{Add, Sub, Mul, Min, Max}
use Rattle.pl_model.specs.declared.expressions.Expr.{Expr, fold-Expr}
use Rattle.pl_model.specs.declared.expressions.Expr.TheOpen.{Expr-F}

abbrev pub outcome_of : Op → ℤ → ℤ → ℤ
outcome_of Add a b = a +ℤ b
outcome_of Sub a b = a -ℤ b
outcome_of Mul a b = a *ℤ b
outcome_of Min a b = int_min a b
outcome_of Max a b = int_max a b

-- the number where it is no farther than 10^18 from 0, else none
abbrev pub limited : ℤ → Option ℤ
limited n = if int_le (negsuc 999999999999999999) n && int_le n (pos 1000000000000000000) then Some n else None

-- the outcome of two values, where both are there
abbrev pub joined : Op → Option ℤ → Option ℤ → Option ℤ
joined op None b = None
joined op (Some a) None = None
joined op (Some a) (Some b) = limited (outcome_of op a b)

-- what one level of an expression gives, from the values of its parts
abbrev pub value_at : List (Option ℤ) → Expr-F (Option ℤ) → Option ℤ
value_at values (Expr-F.Num n) = limited n
value_at values (Expr-F.Param p) = option_and_then limited (slice_index_or values p None)
value_at values (Expr-F.Apply op a b) = joined op a b

-- the value: none where a named value is absent, or a part's value lies too far from 0
abbrev pub value_of : Expr → List (Option ℤ) → Option ℤ
value_of e values = fold-Expr (Option ℤ) (value_at values) e

abbrev pub names_at : ℕ → Expr-F Bool → Bool
names_at n (Expr-F.Num k) = true
names_at n (Expr-F.Param p) = nat_lt p n
names_at n (Expr-F.Apply op a b) = a && b

-- each parameter that the expression names has a number below n
abbrev pub NamesBelow : ℕ → Expr → Type 0
NamesBelow n e = IsTrue (fold-Expr Bool (names_at n) e)
