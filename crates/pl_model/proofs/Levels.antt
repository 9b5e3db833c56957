-- One level of an expression's value.
use Rattle.std.proofs.Common.{◌≡◌, ℕ, ℤ, Bool, Option, None, List, rules}
use Rattle.std.specs.Prelude.{option_and_then, slice_index_or, nat_lt}
use Rattle.pl_model.specs.declared.expressions.Op.{Op}
use Rattle.pl_model.specs.declared.expressions.Expr.{Expr, Num, Param, Apply, fold-Expr, the_lemmas}
use Rattle.pl_model.specs.Values.{limited, joined, value_of, names_at}

pub value_of-Num : (n : ℤ) (values : List (Option ℤ)) → value_of (Num n) values ≡ limited n
value_of-Num n values = search (rules, the_lemmas)

pub value_of-Param : (p : ℕ) (values : List (Option ℤ)) → value_of (Param p) values ≡ option_and_then limited (slice_index_or values p None)
value_of-Param p values = search (rules, the_lemmas)

pub value_of-Apply : (op : Op) (left right : Expr) (values : List (Option ℤ)) → value_of (Apply op left right) values ≡ joined op (value_of left values) (value_of right values)
value_of-Apply op left right values = search (rules, the_lemmas)

pub names-Param : (p n : ℕ) → fold-Expr Bool (names_at n) (Param p) ≡ nat_lt p n
names-Param p n = search (rules, the_lemmas)
