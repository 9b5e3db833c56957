-- The tokens of a text, or its first fault.
use Rattle.std.specs.Prelude.{◌≡◌, ℕ, zero, suc, ◌+◌, ◌-◌, ◌*◌, ◌&&◌, nat_lt, nat_le, if◌then◌else◌, Bool, true, false, List, [], ◌∷◌, length, ◌<◌, take, drop, Option, Some, None, Result, Ok, Err}
use Rattle.std.specs.List.{prefix_len}
use Rattle.std.specs.declared.vec.Vec.{Vec}
use Rattle.std.specs.declared.alloc.Global.{Global}
use Rattle.pl_lists.specs.Judgements.{◌>>=◌, behind, Fails}
use Rattle.pl_text.specs.declared.class.Class.{Class}
use Rattle.pl_text.specs.declared.class.Class.TheVariants as class
use Rattle.pl_text.specs.declared.token.TokenKind.{TokenKind}
use Rattle.pl_text.specs.declared.token.TokenKind.TheVariants as kind
use Rattle.pl_text.specs.declared.token.Token.{Token}
use Rattle.pl_text.specs.declared.lexeme.Lexeme.{Lexeme}
use Rattle.pl_text.specs.declared.fault.TextFault.{TextFault}
use Rattle.pl_text.specs.declared.fault.TextFault.TheVariants as fault
use Rattle.pl_text.specs.Bytes.{class_of, is_name_byte, is_number_byte, in_line}

-- the bytes of a token, and none where it isn't within the text
abbrev pub token_text : List ℕ → Token → List ℕ
token_text text t =
    if nat_le t.from t.to && nat_le t.to (length text) then take (t.to - t.from) (drop t.from text) else []

-- the value of digits behind a number
abbrev pub read_on : ℕ → List ℕ → ℕ
read_on n [] = n
read_on n (d ∷ ds) = read_on (n * 10 + (d - 48)) ds

-- by the first digit and the others
abbrev pub number_value : ℕ → List ℕ → ℕ
number_value d ds = read_on (d - 48) ds

abbrev pub gap : ℕ → Lexeme
gap n = record { kind = None; len = n }

abbrev pub lexed : TokenKind → ℕ → Lexeme
lexed k n = record { kind = Some k; len = n }

abbrev pub named : ℕ → ℕ → Result Lexeme TextFault
named at n = if nat_lt 32 n then Err (fault.BadName at) else Ok (lexed kind.Name n)

abbrev pub numbered : ℕ → ℕ → ℕ → List ℕ → Result Lexeme TextFault
numbered at n d ds = if nat_lt 18 n then Err (fault.BadNumber at) else Ok (lexed (kind.Number (number_value d (take (n - 1) ds))) n)

-- what begins at the place `at` with the byte b, before the bytes bs
abbrev pub lexeme_at : Class → ℕ → ℕ → List ℕ → Result Lexeme TextFault
lexeme_at class.Blank at b bs = Ok (gap 1)
lexeme_at class.Comment at b bs = Ok (gap (prefix_len in_line bs + 1))
lexeme_at class.Letter at b bs = named at (prefix_len is_name_byte bs + 1)
lexeme_at class.Digit at b bs = numbered at (prefix_len is_number_byte bs + 1) b bs
lexeme_at class.Symbol at b bs = Ok (lexed (kind.Symbol b) 1)
lexeme_at class.Bad at b bs = Err (fault.BadByte at)

unfoldable pub lexeme_of : ℕ → ℕ → List ℕ → Result Lexeme TextFault
lexeme_of at b bs = lexeme_at (class_of b) at b bs

-- the token that a lexeme at a place is
abbrev pub kept_kind : Option TokenKind → ℕ → ℕ → List Token
kept_kind None at n = []
kept_kind (Some k) at n = record { kind = k; from = at; to = at + n } ∷ []

abbrev pub kept : ℕ → Lexeme → List Token
kept at l = kept_kind l.kind at l.len

-- From the place `at` on. The first `skip` bytes belong to what was read already.
unfoldable pub tokens_at : ℕ → ℕ → List ℕ → Result (List Token) TextFault
tokens_at skip at [] = Ok []
tokens_at zero at (b ∷ bs) = lexeme_of at b bs >>= λ l. behind (kept at l) (tokens_at (l.len - 1) (at + 1) bs)
tokens_at (suc skip) at (b ∷ bs) = tokens_at skip (at + 1) bs

abbrev pub tokens_of : List ℕ → Result (List Token) TextFault
tokens_of text = tokens_at 0 0 text

-- the one fault that is not the text's
abbrev pub is_memory : TextFault → Bool
is_memory fault.Memory = true
is_memory e = false

-- the tokens that a call gave
abbrev pub items_of : Vec Token Global → List Token
items_of v = v.items

-- What a step of the scanner leaves gives what was there before: or the fault is the one that was to come.
abbrev pub Steps : Result (Unit {0}) TextFault → List Token → ℕ → List ℕ → List Token → ℕ → List ℕ → Type 0
Steps (Ok u) found at text more place rest = (behind found (tokens_at 0 at text) ≡ behind more (tokens_at 0 place rest)) × (length rest < length text) × (place + length rest ≡ at + length text)
Steps (Err e) found at text more place rest = Fails is_memory e (behind found (tokens_at 0 at text))
