-- What the tokens of a line say: a word, a number or a name.
use Rattle.std.specs.Prelude.{ℕ, List, Bool, if◌then◌else◌, bytes_eq, Result, Ok, Err}
use Rattle.pl_text.specs.declared.token.Token.{Token}
use Rattle.pl_text.specs.declared.token.TokenKind.{TokenKind}
use Rattle.pl_text.specs.declared.token.TokenKind.TheVariants as kind
use Rattle.pl_text.specs.declared.fault.TextFault.{TextFault}
use Rattle.pl_text.specs.Tokens.{token_text, tokens_of}
use Rattle.pl_text.specs.Words.{is_name}
use Rattle.pl_msg.specs.declared.fault.ParseFault.TheVariants as fault
use Rattle.pl_msg.specs.Reads.{Read}

-- whether the token is written so
abbrev pub says : List ℕ → Token → List ℕ → Bool
says line t text = bytes_eq (token_text line t) text

abbrev pub number_in : TokenKind → Read ℕ
number_in kind.Name = Err fault.BadLine
number_in (kind.Number n) = Ok n
number_in (kind.Symbol b) = Err fault.BadLine

-- the token, where it is a name: a reserved word is none
unfoldable pub name_in : List ℕ → Token → Read Token
name_in line t = if is_name (token_text line t) then Ok t else Err fault.BadLine

abbrev pub without_fault : Result (List Token) TextFault → Read (List Token)
without_fault (Ok tokens) = Ok tokens
without_fault (Err e) = Err fault.BadLine

-- a line with a fault in its tokens is a bad line
abbrev pub tokens_in : List ℕ → Read (List Token)
tokens_in line = without_fault (tokens_of line)
