-- A turn of a loop is a step of the recursion on the turns that are left.
use Rattle.std.proofs.Common.{◌≡◌, ℕ, ◌+◌, ◌-◌, ◌≤◌, ◌<◌, List, Some, None, Ok, Err, refl}
use Rattle.pl_syntax.specs.declared.token.Token.{Token}
use Rattle.pl_syntax.specs.declared.token.Token.TheVariants as token
use Rattle.pl_syntax.specs.declared.symbol.Symbol.TheVariants as symbol
use Rattle.pl_model.specs.declared.expressions.Op.{Op}
use Rattle.pl_model.specs.declared.expressions.Op.TheVariants as op
use Rattle.pl_syntax.specs.Expressions.{Measured}
use Rattle.pl_syntax.specs.Faults.{Stop}
use Rattle.pl_syntax.specs.Parsing.{Parser, eats}
use Rattle.pl_syntax.specs.ReadingExpressions.{eats_sign, operand, products_by, sums_by}
use Rattle.pl_syntax.proofs.Turns.{turn, done}

module _ (f : ℕ → Parser Measured) (n at l : ℕ) (v : Measured) (ts us : List Token) where
  pub products_goes : (w : Measured) (ws : List Token) → at < n → eats (token.Symbol symbol.Times) ts ≡ Some us → operand l op.Mul v f us ≡ Ok (w, ws) → products_by f (n - at) l v ts ≡ products_by f (n - (at + 1)) l w ws
  unfolding products_by
  products_goes w ws below eaten e = rw (turn n at below, eaten, e) refl

  pub products_fails : (s : Stop) → at < n → eats (token.Symbol symbol.Times) ts ≡ Some us → operand l op.Mul v f us ≡ Err s → products_by f (n - at) l v ts ≡ Err s
  unfolding products_by
  products_fails s below eaten e = rw (turn n at below, eaten, e) refl

  pub sums_goes : (o : Op) (w : Measured) (ws : List Token) → at < n → (Some o, us) ≡ eats_sign ts → operand l o v f us ≡ Ok (w, ws) → sums_by f (n - at) l v ts ≡ sums_by f (n - (at + 1)) l w ws
  unfolding sums_by
  sums_goes o w ws below eaten e = rw (turn n at below, ← eaten, e) refl

  pub sums_fails : (o : Op) (s : Stop) → at < n → (Some o, us) ≡ eats_sign ts → operand l o v f us ≡ Err s → sums_by f (n - at) l v ts ≡ Err s
  unfolding sums_by
  sums_fails o s below eaten e = rw (turn n at below, ← eaten, e) refl

  pub sums_stops : at < n → (None, us) ≡ eats_sign ts → sums_by f (n - at) l v ts ≡ Ok (v, us)
  unfolding sums_by
  sums_stops below eaten = rw (turn n at below, ← eaten) refl

module _ (f : ℕ → Parser Measured) (n at l : ℕ) (v : Measured) (ts : List Token) where
  pub products_ends : n ≤ at → products_by f (n - at) l v ts ≡ Ok (v, ts)
  unfolding products_by
  products_ends le = rw (done n at le) refl

  pub products_stops : at < n → eats (token.Symbol symbol.Times) ts ≡ None → products_by f (n - at) l v ts ≡ Ok (v, ts)
  unfolding products_by
  products_stops below eaten = rw (turn n at below, eaten) refl

  pub sums_ends : n ≤ at → sums_by f (n - at) l v ts ≡ Ok (v, ts)
  unfolding sums_by
  sums_ends le = rw (done n at le) refl
