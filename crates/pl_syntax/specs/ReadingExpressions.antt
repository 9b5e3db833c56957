-- Reading an expression from left to right, with so many levels and brackets left.
use Rattle.std.specs.Prelude.{ℕ, zero, suc, pos, ◌-◌, List, ◌∷◌, length, Option, Some, None, Ok, Err, nat_lt, if◌then◌else◌}
use Rattle.pl_syntax.specs.declared.token.Token.{Token}
use Rattle.pl_syntax.specs.declared.token.Token.TheVariants as token
use Rattle.pl_text.specs.declared.word.Word.TheVariants as word
use Rattle.pl_syntax.specs.declared.symbol.Symbol.TheVariants as symbol
use Rattle.pl_syntax.specs.declared.expressions.AstExpr.TheVariants as tree
use Rattle.pl_model.specs.declared.expressions.Op.{Op}
use Rattle.pl_model.specs.declared.expressions.Op.TheVariants as op
use Rattle.pl_syntax.specs.Expressions.{plus, minus, Pick, least, most, pick_op, sign_op, Measured, apply}
use Rattle.pl_syntax.specs.Faults.{too_deep}
use Rattle.pl_syntax.specs.Parsing.{Parser, ◌>>=◌, ◌>>◌, pure, stuck, expect, eats, go_or_stop, natural_of}

-- a factor, given how to read the inside of brackets, if another bracket may be opened
abbrev pub group_by : Parser Measured → Parser Measured
group_by inner = do
  e ← inner
  expect (token.Symbol symbol.Close)
  pure e

abbrev pub pick_by : Pick → Parser Measured → Parser Measured
pick_by p inner = do
  expect (token.Symbol symbol.Open)
  a ← inner
  expect (token.Symbol symbol.Comma)
  b ← group_by inner
  pure (apply (pick_op p) a b)

abbrev pub Inner : Type 0
Inner = Option (ℕ → Parser Measured)

abbrev pub group_with : Inner → ℕ → Token → Parser Measured
group_with None levels t ts = Err (too_deep, suc (length ts))
group_with (Some inner) levels t ts = group_by (inner levels) ts

-- the arguments have one level less
abbrev pub pick_with : Inner → ℕ → Pick → Token → Parser Measured
pick_with None levels p t ts = Err (too_deep, suc (length ts))
pick_with (Some inner) levels p t ts = if nat_lt 1 levels then pick_by p (inner (levels - 1)) ts else Err (too_deep, suc (length ts))

-- a number
abbrev pub leaf_of : Option ℕ → Token → Parser Measured
leaf_of (Some n) t ts = Ok ((tree.Num (pos n), 1), ts)
leaf_of None t ts = stuck (t ∷ ts)

unfoldable pub factor_with : Inner → ℕ → Parser Measured
factor_with inner levels (token.Number z ∷ ts) = leaf_of (natural_of z) (token.Number z) ts
factor_with inner levels (token.Name n ∷ ts) = Ok ((tree.Name n, 1), ts)
factor_with inner levels (token.Symbol symbol.Open ∷ ts) = group_with inner levels (token.Symbol symbol.Open) ts
factor_with inner levels (token.Word word.Min ∷ ts) = pick_with inner levels least (token.Word word.Min) ts
factor_with inner levels (token.Word word.Max ∷ ts) = pick_with inner levels most (token.Word word.Max) ts
factor_with inner levels ts = stuck ts

-- the operand behind the operator t, and the operator applied
unfoldable pub operand : ℕ → Op → Measured → (ℕ → Parser Measured) → Parser Measured
operand levels o left right ts = if nat_lt left.1 levels then (right (levels - 1) >>= λ v. pure (apply o left v)) ts else Err (too_deep, suc (length ts))

-- The count bounds the turns.
unfoldable pub products_by : (ℕ → Parser Measured) → ℕ → ℕ → Measured → Parser Measured
products_by factor zero levels left ts = Ok (left, ts)
products_by factor (suc n) levels left ts =
    go_or_stop (eats (token.Symbol symbol.Times) ts) (operand levels op.Mul left factor >>= λ v. products_by factor n levels v) (Ok (left, ts))

-- the operator of a sign that comes next, and the tokens behind it
abbrev pub eats_sign : List Token → Option Op × List Token
eats_sign (token.Symbol symbol.Plus ∷ ts) = (Some (sign_op plus), ts)
eats_sign (token.Symbol symbol.Minus ∷ ts) = (Some (sign_op minus), ts)
eats_sign ts = (None, ts)

unfoldable pub sums_by : (ℕ → Parser Measured) → ℕ → ℕ → Measured → Parser Measured
sums_by term zero levels left ts = Ok (left, ts)
sums_by term (suc n) levels left ts =
    go_or_stop (eats_sign ts).0 (λ o. (operand levels o left term >>= λ v. sums_by term n levels v) (eats_sign ts).1) (Ok (left, (eats_sign ts).1))

unfoldable pub term_with : Inner → ℕ → Parser Measured
term_with inner levels = factor_with inner levels >>= λ left ts. products_by (factor_with inner) (length ts) levels left ts

unfoldable pub expr_with : Inner → ℕ → Parser Measured
expr_with inner levels = term_with inner levels >>= λ left ts. sums_by (term_with inner) (length ts) levels left ts

-- with so many brackets left to open
unfoldable pub expr_at : ℕ → ℕ → Parser Measured
expr_at zero levels = expr_with None levels
expr_at (suc deep) levels = expr_with (Some (expr_at deep)) levels

abbrev pub inner_at : ℕ → Inner
inner_at zero = None
inner_at (suc deep) = Some (expr_at deep)
