-- Induction over expressions, and what a fold gives of each of them.
use Rattle.std.proofs.Common.{◌≡◌, ℕ, ℤ, sym, subst, ap, ◌∙◌}
use Rattle.pl_model.specs.declared.expressions.Op.{Op}
use Rattle.pl_model.specs.declared.expressions.Expr.{Expr, Num, Param, Apply, fold-Expr, fold-roll-Expr, ind-Expr, map-Expr, roll-Expr}
use Rattle.pl_model.specs.declared.expressions.Expr.TheOpen.{Expr-F}
use Rattle.pl_model.specs.declared.expressions.Expr.TheViews.{rolls-Num, rolls-Param, rolls-Apply}

module _ (P : Expr → Type 0) (num : (n : ℤ) → P (Num n)) (param : (p : ℕ) → P (Param p)) (apply : (op : Op) (a b : Expr) → P a → P b → P (Apply op a b)) where
  step : (x : Expr-F Expr) (y : Expr-F ((e : Expr) × P e)) → map-Expr ((e : Expr) × P e) Expr (λ e. e.0) y ≡ x → P (roll-Expr x)
  step x (Expr-F.Num n) is = subst (λ z. P (roll-Expr z)) is (subst P (sym (rolls-Num n)) (num n))
  step x (Expr-F.Param p) is = subst (λ z. P (roll-Expr z)) is (subst P (sym (rolls-Param p)) (param p))
  step x (Expr-F.Apply op a b) is = subst (λ z. P (roll-Expr z)) is (subst P (sym (rolls-Apply op a.0 b.0)) (apply op a.0 b.0 a.1 b.1))

  pub induct : (e : Expr) → P e
  induct = ind-Expr P step

module _ (A : Type 0) (at : Expr-F A → A) where
  pub fold_num : (n : ℤ) → fold-Expr A at (Num n) ≡ at (Expr-F.Num n)
  fold_num n = ap (fold-Expr A at) (sym (rolls-Num n)) ∙ fold-roll-Expr A at (Expr-F.Num n)

  pub fold_param : (p : ℕ) → fold-Expr A at (Param p) ≡ at (Expr-F.Param p)
  fold_param p = ap (fold-Expr A at) (sym (rolls-Param p)) ∙ fold-roll-Expr A at (Expr-F.Param p)

  pub fold_apply : (op : Op) (a b : Expr) → fold-Expr A at (Apply op a b) ≡ at (Expr-F.Apply op (fold-Expr A at a) (fold-Expr A at b))
  fold_apply op a b = ap (fold-Expr A at) (sym (rolls-Apply op a b)) ∙ fold-roll-Expr A at (Expr-F.Apply op a b)
