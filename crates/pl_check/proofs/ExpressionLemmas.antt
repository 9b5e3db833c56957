-- Expressions of the text, and what their numbered forms name.
use Rattle.std.proofs.Common.{◌≡◌, ℕ, ◌<◌, ℤ, List, ◌++◌, Ok, Contains, length, refl, sym, subst, ap, ◌∙◌, arith}
use Rattle.std.proofs.lemmas.Option.{slice_get_within}
use Rattle.std.proofs.lemmas.List.Elements.{Contains-append_left, Contains-append_right}
use Rattle.pl_syntax.specs.declared.parameters.AstParam.{AstParam}
use Rattle.pl_syntax.specs.declared.expressions.AstExpr.{AstExpr, Num, Name, Apply, fold-AstExpr, fold-roll-AstExpr, ind-AstExpr, map-AstExpr, roll-AstExpr}
use Rattle.pl_syntax.specs.declared.expressions.AstExpr.TheOpen.{AstExpr-F}
use Rattle.pl_syntax.specs.declared.expressions.AstExpr.TheViews.{rolls-Num, rolls-Name, rolls-Apply}
use Rattle.pl_model.specs.declared.expressions.Op.{Op}
use Rattle.pl_model.specs.declared.expressions.Expr.{Expr}
use Rattle.pl_model.specs.declared.expressions.Expr as model
use Rattle.pl_model.specs.Values.{NamesBelow}
use Rattle.pl_model.specs.Checked.{NamesRanked}
use Rattle.pl_model.proofs.Induction.{induct, fold_param, fold_apply}
use Rattle.pl_model.proofs.Naming.{names-num, names-param, names-apply, param_names, parts_name, ranked-num, ranked-param, ranked-apply}
use Rattle.pl_check.specs.Judgements.{Judged, ◌>>=◌}
use Rattle.pl_check.specs.Finding.{known, param_named, is_param_named}
use Rattle.pl_check.specs.Numbering.{numbered_at, numbered}
use Rattle.pl_check.specs.Dependencies.{params_at, params_of}
use Rattle.pl_lists.proofs.Judging.{bind_ok}
use Rattle.pl_check.proofs.PairLemmas.{known_ok, ok_same, placed_at}

-- ---- induction over expressions of the text

module _ (P : AstExpr → Type 0) (num : (n : ℤ) → P (Num n)) (named : (name : List ℕ) → P (Name name)) (apply : (op : Op) (a b : AstExpr) → P a → P b → P (Apply op a b)) where
  step : (x : AstExpr-F AstExpr) (y : AstExpr-F ((e : AstExpr) × P e)) → map-AstExpr ((e : AstExpr) × P e) AstExpr (λ e. e.0) y ≡ x → P (roll-AstExpr x)
  step x (AstExpr-F.Num n) is = subst (λ z. P (roll-AstExpr z)) is (subst P (sym (rolls-Num n)) (num n))
  step x (AstExpr-F.Name name) is = subst (λ z. P (roll-AstExpr z)) is (subst P (sym (rolls-Name name)) (named name))
  step x (AstExpr-F.Apply op a b) is = subst (λ z. P (roll-AstExpr z)) is (subst P (sym (rolls-Apply op a.0 b.0)) (apply op a.0 b.0 a.1 b.1))

  pub written : (e : AstExpr) → P e
  written = ind-AstExpr P step

module _ (params : List AstParam) where
  pub numbered-num : (n : ℤ) → numbered params (Num n) ≡ Ok (model.Num n)
  numbered-num n = ap (fold-AstExpr (Judged Expr) (numbered_at params)) (sym (rolls-Num n)) ∙ fold-roll-AstExpr (Judged Expr) (numbered_at params) (AstExpr-F.Num n)

  pub numbered-name : (name : List ℕ) → numbered params (Name name) ≡ (known name (param_named params name) >>= λ p. Ok (model.Param p))
  numbered-name name = ap (fold-AstExpr (Judged Expr) (numbered_at params)) (sym (rolls-Name name)) ∙ fold-roll-AstExpr (Judged Expr) (numbered_at params) (AstExpr-F.Name name)

  pub numbered-apply : (op : Op) (a b : AstExpr) → numbered params (Apply op a b) ≡ (numbered params a >>= λ x. numbered params b >>= λ y. Ok (model.Apply op x y))
  numbered-apply op a b = ap (fold-AstExpr (Judged Expr) (numbered_at params)) (sym (rolls-Apply op a b)) ∙ fold-roll-AstExpr (Judged Expr) (numbered_at params) (AstExpr-F.Apply op a b)

  -- a numbered expression names parameters of its kind
  pub names_made : (e : AstExpr) (x : Expr) → numbered params e ≡ Ok x → NamesBelow (length params) x
  names_made = written (λ e. (x : Expr) → numbered params e ≡ Ok x → NamesBelow (length params) x)
      (λ n x h. subst (NamesBelow (length params)) (ok_same _ x (sym (numbered-num n) ∙ h)) (names-num (length params) n))
      (λ name x h.
      let p = bind_ok (known name (param_named params name)) (λ p. Ok (model.Param p)) x (sym (numbered-name name) ∙ h) in
      let place = placed_at (is_param_named name) params p.0 (known_ok name (param_named params name) p.0 p.1) in
      subst (NamesBelow (length params)) (ok_same _ x p.2) (names-param (length params) p.0 (slice_get_within params p.0 place.0 place.1)))
      (λ op a b f g x h.
      let left = bind_ok (numbered params a) (λ y. numbered params b >>= λ z. Ok (model.Apply op y z)) x (sym (numbered-apply op a b) ∙ h) in
      let right = bind_ok (numbered params b) (λ z. Ok (model.Apply op left.0 z)) x left.2 in
      subst (NamesBelow (length params)) (ok_same _ x right.2) (names-apply (length params) op left.0 right.0 (f left.0 left.1) (g right.0 right.1)))

-- ---- the ranks of what an expression names

pub names_ranked : (rank : ℕ → ℕ) (r n : ℕ) (e : Expr) → NamesBelow n e → ((p : ℕ) → p < n → Contains (params_of e) p → rank p < r) → NamesRanked rank r e
names_ranked rank r n = induct (λ e. NamesBelow n e → ((p : ℕ) → p < n → Contains (params_of e) p → rank p < r) → NamesRanked rank r e)
    (λ k h f. ranked-num rank r k)
    (λ p h f.
    let itself : Contains (params_of (model.Param p)) p = subst (λ ps. Contains ps p) (sym (fold_param (List ℕ) params_at p)) (0, omega arith, refl) in
    ranked-param rank r p (f p (param_names n p h) itself))
    (λ op a b i j h f.
    let two = parts_name n op a b h in
    let all : params_of (model.Apply op a b) ≡ params_of a ++ params_of b = fold_apply (List ℕ) params_at op a b in
    ranked-apply rank r op a b
    (i two.0 (λ p lt at. f p lt (subst (λ ps. Contains ps p) (sym all) (Contains-append_left (params_of a) (params_of b) p at))))
    (j two.1 (λ p lt at. f p lt (subst (λ ps. Contains ps p) (sym all) (Contains-append_right (params_of a) (params_of b) p at)))))
