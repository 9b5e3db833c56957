-- A test of tokens that holds is an equation.
use Rattle.std.proofs.Common.{◌≡◌, ℕ, true, ◌==◌, refl, sym, ap, ◌∙◌, cond}
use Rattle.std.proofs.lemmas.Bool.{eqb-true, eq-eqb}
use Rattle.pl_syntax.specs.declared.token.Token.{Token}
use Rattle.pl_syntax.specs.declared.token.Token.TheVariants as token
use Rattle.pl_text.specs.declared.word.Word.{Word}
use Rattle.pl_text.specs.declared.word.Word.TheVariants as word
use Rattle.pl_syntax.specs.declared.symbol.Symbol.{Symbol}
use Rattle.pl_syntax.specs.declared.symbol.Symbol.TheVariants as symbol
use Rattle.pl_syntax.specs.Tokens.{word_number, symbol_number, same}

abbrev word_at : ℕ → Word
word_at n = cond (n == 0) word.Horizon (cond (n == 1) word.Lead (cond (n == 2) word.Capacity (cond (n == 3) word.Level (cond (n == 4) word.State (cond (n == 5) word.Start (cond (n == 6) word.End (cond (n == 7) word.Step (cond (n == 8) word.Any (cond (n == 9) word.Kind (cond (n == 10) word.Param (cond (n == 11) word.Default (cond (n == 12) word.Duration (cond (n == 13) word.Use (cond (n == 14) word.Raise (cond (n == 15) word.Lower (cond (n == 16) word.Set (cond (n == 17) word.Must (cond (n == 18) word.At (cond (n == 19) word.Link (cond (n == 20) word.Alternative (cond (n == 21) word.Slot (cond (n == 22) word.Order (cond (n == 23) word.Parent (cond (n == 24) word.Min (cond (n == 25) word.Max (word.Begin))))))))))))))))))))))))))

abbrev symbol_at : ℕ → Symbol
symbol_at n = cond (n == 0) symbol.OpenBrace (cond (n == 1) symbol.CloseBrace (cond (n == 2) symbol.Open (cond (n == 3) symbol.Close (cond (n == 4) symbol.Comma (cond (n == 5) symbol.Equals (cond (n == 6) symbol.Plus (cond (n == 7) symbol.Minus (symbol.Times))))))))

word_back : (w : Word) → word_at (word_number w) ≡ w
word_back word.Horizon = refl
word_back _ = refl

symbol_back : (s : Symbol) → symbol_at (symbol_number s) ≡ s
symbol_back symbol.OpenBrace = refl
symbol_back _ = refl

pub same-is : (t u : Token) → same t u ≡ true → t ≡ u
same-is (token.Word v) (token.Word w) e = ap token.Word (sym (word_back v) ∙ ap word_at (eqb-true (word_number v) (word_number w) e) ∙ word_back w)
same-is (token.Symbol a) (token.Symbol b) e = ap token.Symbol (sym (symbol_back a) ∙ ap symbol_at (eqb-true (symbol_number a) (symbol_number b) e) ∙ symbol_back b)
same-is _ _ e = absurd cc

pub same_word : (w : Word) → same (token.Word w) (token.Word w) ≡ true
same_word w = eq-eqb (word_number w) (word_number w) refl

pub same_symbol : (s : Symbol) → same (token.Symbol s) (token.Symbol s) ≡ true
same_symbol s = eq-eqb (symbol_number s) (symbol_number s) refl
