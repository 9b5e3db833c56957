-- A text as what it is made of: blanks, comments, words, numbers and symbols, each as long as possible. A piece is spelled with what is behind it.
use Rattle.std.specs.Prelude.{◌≡◌, ℕ, ◌+◌, ◌<◌, ◌≤◌, Bool, true, false, List, [], ◌∷◌, ◌++◌, length, Result, Ok, Err}
use Rattle.std.specs.List.{prefix_len, list_all}
use Rattle.pl_text.specs.declared.class.Class.TheVariants as class
use Rattle.pl_text.specs.declared.token.TokenKind.TheVariants as kind
use Rattle.pl_text.specs.declared.token.Token.{Token}
use Rattle.pl_text.specs.declared.fault.TextFault.{TextFault}
use Rattle.pl_text.specs.declared.fault.TextFault.TheVariants as fault
use Rattle.pl_text.specs.Bytes.{class_of, is_name_byte, is_number_byte, in_line}
use Rattle.pl_text.specs.Tokens.{number_value}

-- a comment by what is behind its `#`; a word and a number by the first byte and the others
pub data Piece : Type 0 where
  blank : ℕ → Piece
  comment : List ℕ → Piece
  word : ℕ → List ℕ → Piece
  number : ℕ → List ℕ → Piece
  symbol : ℕ → Piece

abbrev pub spell_piece : Piece → List ℕ → List ℕ
spell_piece (blank b) rest = b ∷ rest
spell_piece (comment bs) rest = 35 ∷ (bs ++ rest)
spell_piece (word b bs) rest = b ∷ (bs ++ rest)
spell_piece (number d ds) rest = d ∷ (ds ++ rest)
spell_piece (symbol b) rest = b ∷ rest

abbrev pub spell : List Piece → List ℕ → List ℕ
spell [] rest = rest
spell (p ∷ ps) rest = spell_piece p (spell ps rest)

-- a run of such bytes does not go on
abbrev pub Stops : (ℕ → Bool) → List ℕ → Type 0
Stops of [] = Unit {0}
Stops of (b ∷ bs) = of b ≡ false

-- all of these bytes, and the next one not
abbrev pub IsRun : (ℕ → Bool) → List ℕ → List ℕ → Type 0
IsRun of bs rest = (list_all of bs ≡ true) × Stops of rest

-- A piece before a text. A comment goes to the end of its line. A word has at most 32 bytes, a number at most 18.
abbrev pub IsPiece : Piece → List ℕ → Type 0
IsPiece (blank b) rest = class_of b ≡ class.Blank
IsPiece (comment bs) rest = IsRun in_line bs rest
IsPiece (word b bs) rest = (class_of b ≡ class.Letter) × (length bs < 32) × IsRun is_name_byte bs rest
IsPiece (number d ds) rest = (class_of d ≡ class.Digit) × (length ds < 18) × IsRun is_number_byte ds rest
IsPiece (symbol b) rest = class_of b ≡ class.Symbol

abbrev pub ArePieces : List Piece → List ℕ → Type 0
ArePieces [] rest = Unit {0}
ArePieces (p ∷ ps) rest = IsPiece p (spell ps rest) × ArePieces ps rest

abbrev pub size : Piece → ℕ
size (blank b) = 1
size (comment bs) = length bs + 1
size (word b bs) = length bs + 1
size (number d ds) = length ds + 1
size (symbol b) = 1

-- the token that a piece at a place is, before the others
abbrev pub token_of : ℕ → Piece → List Token
token_of at (blank b) = []
token_of at (comment bs) = []
token_of at (word b bs) = record { kind = kind.Name; from = at; to = at + (length bs + 1) } ∷ []
token_of at (number d ds) = record { kind = kind.Number (number_value d ds); from = at; to = at + (length ds + 1) } ∷ []
token_of at (symbol b) = record { kind = kind.Symbol b; from = at; to = at + 1 } ∷ []

abbrev pub tokens_in : ℕ → List Piece → List Token
tokens_in at [] = []
tokens_in at (p ∷ ps) = token_of at p ++ tokens_in (at + size p) ps

-- where the pieces end
abbrev pub end_of : ℕ → List Piece → ℕ
end_of at [] = at
end_of at (p ∷ ps) = end_of (at + size p) ps

-- No piece begins here: a byte of no kind, a longer number, or a longer word.
abbrev pub IsBad : TextFault → ℕ → List ℕ → Type 0
IsBad (fault.BadByte place) at (b ∷ bs) = (place ≡ at) × (class_of b ≡ class.Bad)
IsBad (fault.BadNumber place) at (b ∷ bs) = (place ≡ at) × (class_of b ≡ class.Digit) × (18 ≤ prefix_len is_number_byte bs)
IsBad (fault.BadName place) at (b ∷ bs) = (place ≡ at) × (class_of b ≡ class.Letter) × (32 ≤ prefix_len is_name_byte bs)
IsBad fault.Memory at text = ⊥
IsBad _ at [] = ⊥

-- the text is made of pieces, and these are their tokens
pub record IsMadeOf (at : ℕ) (text : List ℕ) (tokens : List Token) : Type 0 where
  pub pieces : List Piece
  pub spelled : text ≡ spell pieces []
  pub proper : ArePieces pieces []
  pub places : tokens ≡ tokens_in at pieces

-- the text in front of the fault is made of pieces, and none begins at its place
pub record IsMadeUpTo (at : ℕ) (text : List ℕ) (bad : TextFault) : Type 0 where
  pub pieces : List Piece
  pub rest : List ℕ
  pub spelled : text ≡ spell pieces rest
  pub proper : ArePieces pieces rest
  pub faulty : IsBad bad (end_of at pieces) rest

abbrev pub Lexes : ℕ → List ℕ → Result (List Token) TextFault → Type 0
Lexes at text (Ok tokens) = IsMadeOf at text tokens
Lexes at text (Err bad) = IsMadeUpTo at text bad

-- Each token stands behind the one before it, within the text, and takes a byte at least.
abbrev pub AreInOrder : ℕ → ℕ → List Token → Type 0
AreInOrder at end [] = at ≤ end
AreInOrder at end (t ∷ ts) = (at ≤ t.from) × (t.from < t.to) × AreInOrder t.to end ts
