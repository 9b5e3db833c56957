-- Reading from left to right, token by token, by parts.
use Rattle.std.specs.Prelude.{ℕ, zero, suc, ℤ, pos, negsuc, Bool, false, List, [], ◌∷◌, ◌++◌, length, Option, Some, None, Result, Ok, Err, if◌then◌else◌}
use Rattle.pl_syntax.specs.declared.token.Token.{Token}
use Rattle.pl_syntax.specs.declared.token.Token.TheVariants as token
use Rattle.pl_syntax.specs.Faults.{Stop, unexpected}
use Rattle.pl_syntax.specs.Tokens.{same}

abbrev pub Parser : Type 0 → Type 0
Parser A = List Token → Result (A × List Token) Stop

-- what follows a value and the tokens behind it
abbrev pub follow : {A B : Type 0} → Result (A × List Token) Stop → (A → List Token → Result B Stop) → Result B Stop
follow (Ok p) k = k p.0 p.1
follow (Err s) k = Err s

infixl 10 ◌>>=◌
abbrev pub ◌>>=◌ : {A B : Type 0} → Parser A → (A → Parser B) → Parser B
p >>= f = λ ts. follow (p ts) f

infixl 10 ◌>>◌
abbrev pub ◌>>◌ : {A B : Type 0} → Parser A → Parser B → Parser B
p >> q = p >>= (λ _. q)

abbrev pub pure : {A : Type 0} → A → Parser A
pure a = λ ts. Ok (a, ts)

-- two parsers in a row, and what is made of their values
abbrev pub both : {A B C : Type 0} → (A → B → C) → Parser A → Parser B → Parser C
both made p q = p >>= λ x. q >>= λ y. pure (made x y)

abbrev pub made : {A B : Type 0} → (A → B) → Parser A → Parser B
made g p = p >>= λ x. pure (g x)

abbrev pub after : {A B : Type 0} → Parser A → Parser B → Parser B
after p q = both (λ _ y. y) p q

abbrev pub before : {A B : Type 0} → Parser A → Parser B → Parser A
before p q = both (λ x _. x) p q

-- ---- single tokens

abbrev pub stuck : {A : Type 0} → List Token → Result A Stop
stuck ts = Err (unexpected, length ts)

abbrev pub expect : Token → Parser (Unit {0})
expect wanted [] = stuck []
expect wanted (t ∷ ts) = if same t wanted then Ok (tt, ts) else stuck (t ∷ ts)

-- the tokens behind the token, where it comes next
abbrev pub eats : Token → List Token → Option (List Token)
eats wanted [] = None
eats wanted (t ∷ ts) = if same t wanted then Some ts else None

-- whether the next token is one of these
abbrev pub next_is : (Token → Bool) → List Token → Bool
next_is these [] = false
next_is these (t ∷ ts) = these t

-- { x }: items while the next token begins one. The count bounds the turns.
unfoldable pub many_by : {A : Type 0} → (Token → Bool) → Parser A → ℕ → List A → Parser (List A)
many_by these item zero found ts = Ok (found, ts)
many_by these item (suc n) found ts = if next_is these ts then (item >>= λ x. many_by these item n (found ++ x ∷ [])) ts else Ok (found, ts)

-- the one rule where the next token begins it, else the other
abbrev pub either : {A : Type 0} → (Token → Bool) → Parser A → Parser A → Parser A
either these p q = λ ts. if next_is these ts then p ts else q ts

-- [ x ]
abbrev pub option : {A : Type 0} → (Token → Bool) → Parser A → Parser (Option A)
option these p = λ ts. if next_is these ts then (p >>= λ x. pure (Some x)) ts else Ok (None, ts)

-- what is done where something was there, and where nothing was
abbrev pub go_or_stop : {A B : Type 0} → Option A → (A → B) → B → B
go_or_stop None go stop = stop
go_or_stop (Some x) go stop = go x

-- a token that stands for a value
abbrev pub decoded : {X : Type 0} → Option X → Token → Parser X
decoded (Some x) t ts = Ok (x, ts)
decoded None t ts = stuck (t ∷ ts)

abbrev pub class_at : {X : Type 0} → (Token → Option X) → Parser X
class_at decode [] = stuck []
class_at decode (t ∷ ts) = decoded (decode t) t ts

abbrev pub name_of : Token → Option (List ℕ)
name_of (token.Name n) = Some n
name_of t = None

-- a number of a text has no sign
abbrev pub natural_of : ℤ → Option ℕ
natural_of (pos n) = Some n
natural_of (negsuc n) = None

abbrev pub number_of : Token → Option ℕ
number_of (token.Number z) = natural_of z
number_of t = None

-- the end of the text
abbrev pub ended : {A : Type 0} → A → List Token → Result A Stop
ended a [] = Ok a
ended a (t ∷ ts) = stuck (t ∷ ts)
