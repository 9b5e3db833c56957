-- Numbers of the command line: 1 to 18 decimal digits.
use Rattle.std.specs.Prelude.{ℕ, ◌+◌, ◌-◌, ◌*◌, List, [], ◌∷◌, length, ◌&&◌, nat_lt, nat_le, if◌then◌else◌, Option, Some, None}
use Rattle.pl_text.specs.Bytes.{is_digit}

-- the number whose digits so far have this value
abbrev pub digits_on : ℕ → List ℕ → Option ℕ
digits_on value [] = Some value
digits_on value (d ∷ ds) = if is_digit d then digits_on (value * 10 + (d - 48)) ds else None

-- the value of a text that is 1 to 18 digits
unfoldable pub number_in : List ℕ → Option ℕ
number_in text = if nat_lt 0 (length text) && nat_le (length text) 18 then digits_on 0 text else None
