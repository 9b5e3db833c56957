-- Expressions. A form is a text of the grammar by its parts, brackets among them; `spell form rest` is its tokens with `rest` behind them.
use Rattle.std.specs.Prelude.{ℕ, zero, suc, pos, ◌≤◌, max, List, ◌∷◌}
use Rattle.pl_syntax.specs.declared.token.Token.{Token}
use Rattle.pl_syntax.specs.declared.token.Token.TheVariants as token
use Rattle.pl_text.specs.declared.word.Word.TheVariants as word
use Rattle.pl_syntax.specs.declared.symbol.Symbol.TheVariants as symbol
use Rattle.pl_syntax.specs.declared.expressions.AstExpr.{AstExpr}
use Rattle.pl_syntax.specs.declared.expressions.AstExpr.TheVariants as tree
use Rattle.pl_model.specs.declared.expressions.Op.{Op}
use Rattle.pl_model.specs.declared.expressions.Op.TheVariants as op

-- `+` or `-`; `min` or `max`
pub data Sign : Type 0 where
  plus minus : Sign

pub data Pick : Type 0 where
  least most : Pick

mutual
  -- factor = number | name | "(" expr ")" | ( "min" | "max" ) "(" expr "," expr ")"
  pub data Factor : Type 0 where
    number : ℕ → Factor
    named : List ℕ → Factor
    group : Expr → Factor
    pick : Pick → Expr → Expr → Factor

  -- expr = term { ( "+" | "-" ) term }, term = factor { "*" factor }
  pub data Expr : Type 0 where
    expr : Factor → Products → Sums → Expr

  -- { "*" factor }
  pub data Products : Type 0 where
    no_product : Products
    times : Factor → Products → Products

  -- { ( "+" | "-" ) term }
  pub data Sums : Type 0 where
    no_sum : Sums
    joined : Sign → Factor → Products → Sums → Sums

-- ---- the tokens

abbrev pub sign_token : Sign → Token
sign_token plus = token.Symbol symbol.Plus
sign_token minus = token.Symbol symbol.Minus

abbrev pub pick_token : Pick → Token
pick_token least = token.Word word.Min
pick_token most = token.Word word.Max

abbrev mutual
  pub spell_factor : Factor → List Token → List Token
  spell_factor (number n) rest = token.Number (pos n) ∷ rest
  spell_factor (named n) rest = token.Name n ∷ rest
  spell_factor (group e) rest = token.Symbol symbol.Open ∷ spell_expr e (token.Symbol symbol.Close ∷ rest)
  spell_factor (pick p a b) rest = pick_token p ∷ token.Symbol symbol.Open ∷ spell_expr a (token.Symbol symbol.Comma ∷ spell_expr b (token.Symbol symbol.Close ∷ rest))

  pub spell_expr : Expr → List Token → List Token
  spell_expr (expr f ps ss) rest = spell_factor f (spell_products ps (spell_sums ss rest))

  pub spell_products : Products → List Token → List Token
  spell_products no_product rest = rest
  spell_products (times f ps) rest = token.Symbol symbol.Times ∷ spell_factor f (spell_products ps rest)

  pub spell_sums : Sums → List Token → List Token
  spell_sums no_sum rest = rest
  spell_sums (joined s f ps ss) rest = sign_token s ∷ spell_factor f (spell_products ps (spell_sums ss rest))

-- ---- the tree, and its levels. A leaf is one level. Operators group from the left.

abbrev pub Measured : Type 0
Measured = AstExpr × ℕ

abbrev pub apply : Op → Measured → Measured → Measured
apply o a b = (tree.Apply o a.0 b.0, suc (max a.1 b.1))

abbrev pub sign_op : Sign → Op
sign_op plus = op.Add
sign_op minus = op.Sub

abbrev pub pick_op : Pick → Op
pick_op least = op.Min
pick_op most = op.Max

abbrev mutual
  pub factor_tree : Factor → Measured
  factor_tree (number n) = (tree.Num (pos n), 1)
  factor_tree (named n) = (tree.Name n, 1)
  factor_tree (group e) = expr_tree e
  factor_tree (pick p a b) = apply (pick_op p) (expr_tree a) (expr_tree b)

  pub expr_tree : Expr → Measured
  expr_tree (expr f ps ss) = sums_tree ss (products_tree ps (factor_tree f))

  pub products_tree : Products → Measured → Measured
  products_tree no_product left = left
  products_tree (times f ps) left = products_tree ps (apply op.Mul left (factor_tree f))

  pub sums_tree : Sums → Measured → Measured
  sums_tree no_sum left = left
  sums_tree (joined s f ps ss) left = sums_tree ss (apply (sign_op s) left (products_tree ps (factor_tree f)))

-- ---- brackets nest at most so deep

abbrev mutual
  pub factor_nests : Factor → ℕ → Type 0
  factor_nests (number n) deep = Unit {0}
  factor_nests (named n) deep = Unit {0}
  factor_nests (group e) zero = ⊥
  factor_nests (group e) (suc deep) = expr_nests e deep
  factor_nests (pick p a b) zero = ⊥
  factor_nests (pick p a b) (suc deep) = expr_nests a deep × expr_nests b deep

  pub expr_nests : Expr → ℕ → Type 0
  expr_nests (expr f ps ss) deep = factor_nests f deep × products_nest ps deep × sums_nest ss deep

  pub products_nest : Products → ℕ → Type 0
  products_nest no_product deep = Unit {0}
  products_nest (times f ps) deep = factor_nests f deep × products_nest ps deep

  pub sums_nest : Sums → ℕ → Type 0
  sums_nest no_sum deep = Unit {0}
  sums_nest (joined s f ps ss) deep = factor_nests f deep × products_nest ps deep × sums_nest ss deep

-- ---- the limits: at most so many levels, and brackets at most so deep

pub record Limits : Type 0 where
  pub levels : ℕ
  pub deep : ℕ

abbrev pub Fits : Limits → Expr → Type 0
Fits limits e = ((expr_tree e).1 ≤ limits.levels) × expr_nests e limits.deep

abbrev pub limits : Limits
limits = record { levels = 32; deep = 32 }
