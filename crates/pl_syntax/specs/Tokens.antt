-- Whether two tokens are one word or one symbol, and which tokens a text can have.
use Rattle.std.specs.Prelude.{◌≡◌, ℕ, ℤ, pos, negsuc, ◌<◌, ◌^◌, Bool, true, false, ◌==◌, List, [], ◌∷◌}
use Rattle.pl_text.specs.Words.{is_name}
use Rattle.pl_syntax.specs.declared.token.Token.{Token}
use Rattle.pl_syntax.specs.declared.token.Token.TheVariants as token
use Rattle.pl_text.specs.declared.word.Word.{Word}
use Rattle.pl_text.specs.declared.word.Word.TheVariants as word
use Rattle.pl_syntax.specs.declared.symbol.Symbol.{Symbol}
use Rattle.pl_syntax.specs.declared.symbol.Symbol.TheVariants as symbol

abbrev pub word_number : Word → ℕ
word_number word.Horizon = 0
word_number word.Lead = 1
word_number word.Capacity = 2
word_number word.Level = 3
word_number word.State = 4
word_number word.Start = 5
word_number word.End = 6
word_number word.Step = 7
word_number word.Any = 8
word_number word.Kind = 9
word_number word.Param = 10
word_number word.Default = 11
word_number word.Duration = 12
word_number word.Use = 13
word_number word.Raise = 14
word_number word.Lower = 15
word_number word.Set = 16
word_number word.Must = 17
word_number word.At = 18
word_number word.Link = 19
word_number word.Alternative = 20
word_number word.Slot = 21
word_number word.Order = 22
word_number word.Parent = 23
word_number word.Min = 24
word_number word.Max = 25
word_number word.Begin = 26

abbrev pub symbol_number : Symbol → ℕ
symbol_number symbol.OpenBrace = 0
symbol_number symbol.CloseBrace = 1
symbol_number symbol.Open = 2
symbol_number symbol.Close = 3
symbol_number symbol.Comma = 4
symbol_number symbol.Equals = 5
symbol_number symbol.Plus = 6
symbol_number symbol.Minus = 7
symbol_number symbol.Times = 8

abbrev pub same : Token → Token → Bool
same (token.Word v) (token.Word w) = word_number v == word_number w
same (token.Symbol a) (token.Symbol b) = symbol_number a == symbol_number b
same _ _ = false

abbrev pub is_word : Word → Token → Bool
is_word w t = same t (token.Word w)

abbrev pub is_symbol : Symbol → Token → Bool
is_symbol s t = same t (token.Symbol s)

-- at most 18 digits
abbrev pub IsNumeral : ℤ → Type 0
IsNumeral (pos n) = n < 10 ^ 18
IsNumeral (negsuc n) = ⊥

-- a token of a text: its numbers have at most 18 digits and no sign, its names are names
abbrev pub IsReal : Token → Type 0
IsReal (token.Number n) = IsNumeral n
IsReal (token.Name n) = is_name n ≡ true
IsReal (token.Word w) = Unit {0}
IsReal (token.Symbol s) = Unit {0}

abbrev pub AreReal : List Token → Type 0
AreReal [] = Unit {0}
AreReal (t ∷ ts) = IsReal t × AreReal ts
