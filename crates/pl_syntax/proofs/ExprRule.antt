-- An expression as a rule: whatever follows but an operator.
use Rattle.std.proofs.Common.{◌≡◌, ℕ, ◌≤◌, ◌<◌, ◌^◌, true, false, List, [], ◌∷◌, refl, arith}
use Rattle.pl_syntax.specs.declared.token.Token.{Token}
use Rattle.pl_syntax.specs.declared.token.Token.TheVariants as token
use Rattle.pl_syntax.specs.declared.symbol.Symbol.TheVariants as symbol
use Rattle.pl_syntax.specs.Faults.{Language}
use Rattle.pl_syntax.specs.Parsing.{follow}
use Rattle.pl_syntax.proofs.Judging.{judged_same}
use Rattle.pl_syntax.proofs.Loops.{FormThen, RuleExact, Any}
use Rattle.pl_syntax.proofs.Rules.{Guards, SpellsReal}
use Rattle.pl_syntax.proofs.Sets.{Set, has, nothing, within, within-is, nothing-has}
use Rattle.pl_syntax.proofs.Grammars.{Rule, not_taken}
use Rattle.pl_syntax.specs.Expressions.{Sign, plus, minus, sign_token, Expr, expr, number, no_product, no_sum, spell_expr, Measured, expr_tree}
use Rattle.pl_syntax.specs.ReadingExpressions.{expr_at}
use Rattle.pl_syntax.proofs.ExprLanguages.{ExprThen}
use Rattle.pl_syntax.proofs.ExprExact.{ExprFits, expr_exact}

-- the operators, which must not follow
abbrev pub operators : Set
operators = record { words = []; symbols = 6 ∷ 7 ∷ 8 ∷ []; names = false; numbers = false }

sign_operates : (s : Sign) → has operators (sign_token s) ≡ true
sign_operates plus = refl
sign_operates minus = refl

expr_same_down : {D : Type 0} (ok : Expr → Type 0) (R : Measured → Language D) (ts : List Token) (d : D) → FormThen spell_expr expr_tree ok R ts d → ExprThen ok R ts d
expr_same_down ok R ts d h = record { form = h.form; rest = h.rest; spelled = h.spelled; fits = h.fits; goes = h.goes }

expr_same_up : {D : Type 0} (ok : Expr → Type 0) (R : Measured → Language D) (ts : List Token) (d : D) → ExprThen ok R ts d → FormThen spell_expr expr_tree ok R ts d
expr_same_up ok R ts d h = record { form = h.form; rest = h.rest; spelled = h.spelled; fits = h.fits; goes = h.goes }

pub expr_rule : (D : Type 0) (l b : ℕ) → 1 ≤ l → RuleExact D false (has operators) spell_expr expr_tree (ExprFits l b) (expr_at b l)
expr_rule D l b low n k R F onward ts short =
    judged_same (FormThen spell_expr expr_tree (ExprFits l b) R) (FormThen spell_expr expr_tree Any F) (ExprThen (ExprFits l b) R) (ExprThen Any F)
    (expr_same_down (ExprFits l b) R) (expr_same_up (ExprFits l b) R) (expr_same_down Any F) (expr_same_up Any F) ts (follow (expr_at b l ts) k)
    (expr_exact b l low n k R F
    (record { exact = λ v some fits. onward.exact v; lives = onward.lives })
    (record { times = λ v us d h. onward.refuses v (token.Symbol symbol.Times) us d refl h; sign = λ s v us d h. onward.refuses v (sign_token s) us d (sign_operates s) h })
    (record { times = λ v us d h. onward.refuses_free v (token.Symbol symbol.Times) us d refl h; sign = λ s v us d h. onward.refuses_free v (sign_token s) us d (sign_operates s) h })
    ts short)

abbrev pub zero_expr : Expr
zero_expr = expr (number 0) no_product no_sum

pub zero_real : SpellsReal spell_expr zero_expr
zero_real rest h = (small, h)
  where
    small : 0 < 10 ^ 18
    small = omega arith

-- it stands only where nothing is barred
pub expr_guard : (bars : Set) → within bars nothing ≡ true → (D : Type 0) → Guards D (has bars) (has operators) spell_expr expr_tree
expr_guard bars e D ok R refuses t ts d is h = absurd (nothing-has t (within-is bars nothing e t is))

abbrev pub expression : (l b : ℕ) → 1 ≤ l → Rule Expr Measured
expression l b low = record {
  takes = false;
  firsts = nothing;
  stops = operators;
  lets = λ bars. within bars nothing;
  spell = spell_expr;
  value = expr_tree;
  ok = ExprFits l b;
  parse = expr_at b l;
  some = zero_expr;
  real = zero_real;
  begins = not_taken (has nothing) spell_expr;
  guard = expr_guard;
  exact = λ D. expr_rule D l b low;
}
