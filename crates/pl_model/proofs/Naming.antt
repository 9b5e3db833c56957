-- What follows from the parameters that an expression names.
use Rattle.std.proofs.Common.{◌≡◌, ℕ, ◌<◌, ℤ, Bool, true, Option, None, List, sym, ap, ◌∙◌, arith}
use Rattle.std.specs.Prelude.{nat_lt, slice_index_or, option_and_then}
use Rattle.std.proofs.lemmas.Bool.Decides.{nat_tests}
use Rattle.std.proofs.lemmas.Bool.{and_parts, and_from}
use Rattle.pl_model.specs.declared.expressions.Op.{Op}
use Rattle.pl_model.specs.declared.expressions.Expr.{Expr, Num, Param, Apply, fold-Expr}
use Rattle.pl_model.specs.Values.{limited, joined, value_at, value_of, names_at, NamesBelow}
use Rattle.pl_model.specs.Checked.{ranked_at, NamesRanked}
use Rattle.pl_model.proofs.Induction.{induct, fold_num, fold_param, fold_apply}

below_from_test : (a b : ℕ) → nat_lt a b ≡ true → a < b
below_from_test a b h = grind (arith, nat_tests)

test_from_below : (a b : ℕ) → a < b → nat_lt a b ≡ true
test_from_below a b h = grind (arith, nat_tests)

-- ---- names below a number

pub names-num : (n : ℕ) (k : ℤ) → NamesBelow n (Num k)
names-num n k = fold_num Bool (names_at n) k

pub names-param : (n p : ℕ) → p < n → NamesBelow n (Param p)
names-param n p h = fold_param Bool (names_at n) p ∙ test_from_below p n h

pub names-apply : (n : ℕ) (op : Op) (a b : Expr) → NamesBelow n a → NamesBelow n b → NamesBelow n (Apply op a b)
names-apply n op a b h i = fold_apply Bool (names_at n) op a b ∙ and_from (fold-Expr Bool (names_at n) a) (fold-Expr Bool (names_at n) b) h i

pub param_names : (n p : ℕ) → NamesBelow n (Param p) → p < n
param_names n p h = below_from_test p n (sym (fold_param Bool (names_at n) p) ∙ h)

pub parts_name : (n : ℕ) (op : Op) (a b : Expr) → NamesBelow n (Apply op a b) → NamesBelow n a × NamesBelow n b
parts_name n op a b h = and_parts (fold-Expr Bool (names_at n) a) (fold-Expr Bool (names_at n) b) (sym (fold_apply Bool (names_at n) op a b) ∙ h)

-- ---- ranks of what is named

module _ (rank : ℕ → ℕ) (r : ℕ) where
  pub ranked-num : (k : ℤ) → NamesRanked rank r (Num k)
  ranked-num k = fold_num Bool (ranked_at rank r) k

  pub ranked-param : (p : ℕ) → rank p < r → NamesRanked rank r (Param p)
  ranked-param p h = fold_param Bool (ranked_at rank r) p ∙ test_from_below (rank p) r h

  pub ranked-apply : (op : Op) (a b : Expr) → NamesRanked rank r a → NamesRanked rank r b → NamesRanked rank r (Apply op a b)
  ranked-apply op a b h i = fold_apply Bool (ranked_at rank r) op a b ∙ and_from (fold-Expr Bool (ranked_at rank r) a) (fold-Expr Bool (ranked_at rank r) b) h i

  pub param_ranked : (p : ℕ) → NamesRanked rank r (Param p) → rank p < r
  param_ranked p h = below_from_test (rank p) r (sym (fold_param Bool (ranked_at rank r) p) ∙ h)

  pub parts_ranked : (op : Op) (a b : Expr) → NamesRanked rank r (Apply op a b) → NamesRanked rank r a × NamesRanked rank r b
  parts_ranked op a b h = and_parts (fold-Expr Bool (ranked_at rank r) a) (fold-Expr Bool (ranked_at rank r) b) (sym (fold_apply Bool (ranked_at rank r) op a b) ∙ h)

  -- values that agree at smaller ranks give one value to what names parameters of these ranks alone
  pub value_same : (values others : List (Option ℤ)) → ((p : ℕ) → rank p < r → slice_index_or values p None ≡ slice_index_or others p None) → (e : Expr) → NamesRanked rank r e → value_of e values ≡ value_of e others
  value_same values others same = induct (λ e. NamesRanked rank r e → value_of e values ≡ value_of e others)
      (λ k h. fold_num (Option ℤ) (value_at values) k ∙ sym (fold_num (Option ℤ) (value_at others) k))
      (λ p h. fold_param (Option ℤ) (value_at values) p ∙ ap (option_and_then limited) (same p (param_ranked p h)) ∙ sym (fold_param (Option ℤ) (value_at others) p))
      (λ op a b f g h. let two = parts_ranked op a b h in
      let left : value_of a values ≡ value_of a others = f two.0 in
      let right : value_of b values ≡ value_of b others = g two.1 in
      fold_apply (Option ℤ) (value_at values) op a b ∙ ap (λ x. joined op x (value_of b values)) left ∙ ap (joined op (value_of a others)) right ∙ sym (fold_apply (Option ℤ) (value_at others) op a b))
