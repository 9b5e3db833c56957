-- Of which bytes a name, and a number, can be made.
use Rattle.std.proofs.Common.{◌≡◌, ℕ, Bool, true, false, refl, sym, ap, ◌∙◌, ⊎_elim, arith}
use Rattle.std.specs.Prelude.{◌||◌, ◌==◌}
use Rattle.std.proofs.lemmas.Bool.{eqb-true, or_cases}
use Rattle.std.proofs.lemmas.Bool.Decides.{nat_tests}
use Rattle.pl_text.specs.Bytes.{is_blank, is_letter, is_digit, is_symbol, class_by, class_of, is_word_class, is_digit_class, is_name_byte, is_number_byte}

word_by : (blank hash letter digit symbol : Bool) → (blank ≡ true → (letter || digit) ≡ false) → (hash ≡ true → (letter || digit) ≡ false) → is_word_class (class_by blank hash letter digit symbol) ≡ (letter || digit)
word_by true hash letter digit symbol b h = sym (b refl)
word_by false true letter digit symbol b h = sym (h refl)
word_by false false true digit symbol b h = refl
word_by false false false true symbol b h = refl
word_by false false false false true b h = refl
word_by false false false false false b h = refl

digit_by : (blank hash letter digit symbol : Bool) → (blank ≡ true → digit ≡ false) → (hash ≡ true → digit ≡ false) → (letter ≡ true → digit ≡ false) → is_digit_class (class_by blank hash letter digit symbol) ≡ digit
digit_by true hash letter digit symbol b h l = sym (b refl)
digit_by false true letter digit symbol b h l = sym (h refl)
digit_by false false true digit symbol b h l = sym (l refl)
digit_by false false false true symbol b h l = refl
digit_by false false false false true b h l = refl
digit_by false false false false false b h l = refl

-- what is not so of a number is not so of a byte that is this number
at_byte : (P : ℕ → Bool) (b n : ℕ) → (b == n) ≡ true → P n ≡ false → P b ≡ false
at_byte P b n e none = ap P (eqb-true b n e) ∙ none

at_blank : (P : ℕ → Bool) → P 32 ≡ false → P 9 ≡ false → P 13 ≡ false → P 10 ≡ false → (b : ℕ) → is_blank b ≡ true → P b ≡ false
at_blank P space tab back feed b e =
    ⊎_elim (λ h. at_byte P b 32 h space)
    (λ h. ⊎_elim (λ t. at_byte P b 9 t tab) (λ t. ⊎_elim (λ r. at_byte P b 13 r back) (λ r. at_byte P b 10 r feed) (or_cases (b == 13) (b == 10) t)) (or_cases (b == 9) ((b == 13) || (b == 10)) h))
    (or_cases (b == 32) ((b == 9) || ((b == 13) || (b == 10))) e)

-- no letter is a digit
letter_no_digit : (b : ℕ) → is_letter b ≡ true → is_digit b ≡ false
letter_no_digit b e = grind (arith, nat_tests)

pub name_is : (b : ℕ) → is_name_byte b ≡ ((b == 95) || (is_letter b || is_digit b))
unfolding class_of
name_is b =
    ap (λ (w : Bool). (b == 95) || w)
    (word_by (is_blank b) (b == 35) (is_letter b) (is_digit b) (is_symbol b)
    (at_blank (λ (n : ℕ). is_letter n || is_digit n) refl refl refl refl b)
    (λ h. at_byte (λ (n : ℕ). is_letter n || is_digit n) b 35 h refl))

pub number_is : (b : ℕ) → is_number_byte b ≡ is_digit b
unfolding class_of
number_is b =
    digit_by (is_blank b) (b == 35) (is_letter b) (is_digit b) (is_symbol b)
    (at_blank is_digit refl refl refl refl b)
    (λ h. at_byte is_digit b 35 h refl)
    (letter_no_digit b)
