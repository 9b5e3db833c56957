-- The tokens of a text as the grammar sees them, and their places.
use Rattle.std.specs.Prelude.{ℕ, zero, suc, pos, ◌-◌, ◌<◌, ◌≤◌, ◌^◌, List, [], ◌∷◌, map, length, take, drop, Option, Some, None, IsSome}
use Rattle.pl_text.specs.declared.token.Token.{Token as Piece}
use Rattle.pl_text.specs.declared.token.TokenKind.{TokenKind}
use Rattle.pl_text.specs.declared.token.TokenKind.TheVariants as kind
use Rattle.pl_text.specs.declared.word.Word.{Word}
use Rattle.pl_text.specs.Words.{word_of}
use Rattle.pl_syntax.specs.declared.token.Token.{Token}
use Rattle.pl_syntax.specs.declared.token.Token.TheVariants as token
use Rattle.pl_syntax.specs.declared.symbol.Symbol.{Symbol}
use Rattle.pl_syntax.specs.Symbols.{symbol_of}

abbrev pub bytes_of : List ℕ → ℕ → ℕ → List ℕ
bytes_of text from to = take (to - from) (drop from text)

abbrev pub word_or_name : Option Word → List ℕ → Token
word_or_name (Some w) bytes = token.Word w
word_or_name None bytes = token.Name bytes

-- a text has no other symbols
abbrev pub symbol_or_none : Option Symbol → Token
symbol_or_none (Some s) = token.Symbol s
symbol_or_none None = token.Name []

abbrev pub mark_by : TokenKind → List ℕ → Token
mark_by kind.Name bytes = word_or_name (word_of bytes) bytes
mark_by (kind.Number n) bytes = token.Number (pos n)
mark_by (kind.Symbol b) bytes = symbol_or_none (symbol_of b)

unfoldable pub mark_of : List ℕ → Piece → Token
mark_of text t = mark_by t.kind (bytes_of text t.from t.to)

abbrev pub marks_of : List ℕ → List Piece → List Token
marks_of text ts = map (mark_of text) ts

-- where a token begins, or the text ends
abbrev pub place_of : List Piece → ℕ → ℕ → ℕ
place_of [] index end = end
place_of (t ∷ ts) zero end = t.from
place_of (t ∷ ts) (suc index) end = place_of ts index end

-- a token lies in the text, and is one that the grammar has
abbrev pub HasMark : TokenKind → Type 0
HasMark kind.Name = Unit {0}
HasMark (kind.Number n) = n < 2 ^ 63
HasMark (kind.Symbol b) = IsSome (symbol_of b)

pub record IsMarked (text : List ℕ) (t : Piece) : Type 0 where
  pub order : t.from ≤ t.to
  pub within : t.to ≤ length text
  pub known : HasMark t.kind
