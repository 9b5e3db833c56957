-- What a byte is, outside of a comment.
use Rattle.std.specs.Prelude.{ℕ, Bool, true, false, not, ◌==◌, ◌&&◌, ◌||◌, nat_le}
use Rattle.pl_text.specs.declared.class.Class.{Class}
use Rattle.pl_text.specs.declared.class.Class.TheVariants as class

-- a space, a tab, a carriage return or a newline
abbrev pub is_blank : ℕ → Bool
is_blank b = (b == 32) || ((b == 9) || ((b == 13) || (b == 10)))

abbrev pub is_letter : ℕ → Bool
is_letter b = (nat_le 97 b && nat_le b 122) || (nat_le 65 b && nat_le b 90)

abbrev pub is_digit : ℕ → Bool
is_digit b = nat_le 48 b && nat_le b 57

-- one of { } ( ) , = + - *
abbrev pub is_symbol : ℕ → Bool
is_symbol b = (b == 123) || ((b == 125) || ((b == 40) || ((b == 41) || ((b == 44) || ((b == 61) || ((b == 43) || ((b == 45) || (b == 42))))))))

-- by what holds of the byte: blank, `#`, letter, digit, symbol. Only one of these does.
abbrev pub class_by : Bool → Bool → Bool → Bool → Bool → Class
class_by true hash letter digit symbol = class.Blank
class_by false true letter digit symbol = class.Comment
class_by false false true digit symbol = class.Letter
class_by false false false true symbol = class.Digit
class_by false false false false true = class.Symbol
class_by false false false false false = class.Bad

unfoldable pub class_of : ℕ → Class
class_of b = class_by (is_blank b) (b == 35) (is_letter b) (is_digit b) (is_symbol b)

abbrev pub is_word_class : Class → Bool
is_word_class class.Letter = true
is_word_class class.Digit = true
is_word_class _ = false

abbrev pub is_digit_class : Class → Bool
is_digit_class class.Digit = true
is_digit_class _ = false

-- a letter, a digit or `_`
abbrev pub is_name_byte : ℕ → Bool
is_name_byte b = (b == 95) || is_word_class (class_of b)

abbrev pub is_number_byte : ℕ → Bool
is_number_byte b = is_digit_class (class_of b)

-- within a comment
abbrev pub in_line : ℕ → Bool
in_line b = not (b == 10)
