-- Words read from the front of a text, and texts told apart.
use Rattle.std.proofs.Common.{◌≡◌, ◌≢◌, ℕ, ℤ, pos, negsuc, ◌≤◌, ◌≤ℤ◌, ◌^◌, ◌<◌, true, false, ◌==◌, List, [], ◌∷◌, Ok, decimal, refl, arith}
use Rattle.std.specs.Prelude.{bytes_eq}
use Rattle.std.specs.Fmt.{signed_decimal}
use Rattle.std.proofs.lemmas.Bool.{and_parts, eq-eqb, eqb-true, false_from_ne_true, le-leb}
use Rattle.std.proofs.lemmas.Int.{ints}
use Rattle.pl_journal.specs.Rendering.Words.{spaced}
use Rattle.pl_journal.proofs.AboutRendering.Plain.{plain, lacks_plain, plain-decimal, plain-signed}
use Rattle.pl_journal.specs.Parsing.Words.{word_in, said_in, count_in, labelled_in, amount_of, amount_in}
use Rattle.pl_journal.proofs.AboutParsing.Before.{before_word, rest_from_word}
use Rattle.pl_journal.proofs.AboutParsing.Digits.{count_back}

-- ---- texts told apart

pub text_itself : (xs : List ℕ) → bytes_eq xs xs ≡ true
text_itself [] = refl
text_itself (x ∷ xs) = rw (eq-eqb x x refl, text_itself xs) refl

pub text_true : (xs ys : List ℕ) → bytes_eq xs ys ≡ true → xs ≡ ys
text_true [] [] h = refl
text_true [] (y ∷ ys) h = absurd cc
text_true (x ∷ xs) [] h = absurd cc
text_true (x ∷ xs) (y ∷ ys) h =
    let p = and_parts (x == y) (bytes_eq xs ys) h in
    let first = eqb-true x y p.0 in
    let rest = text_true xs ys p.1 in
    cc

pub text_not : (xs ys : List ℕ) → xs ≢ ys → bytes_eq xs ys ≡ false
text_not xs ys h = false_from_ne_true (bytes_eq xs ys) (λ e. h (text_true xs ys e))

-- ---- words

pub word_back : (w : List ℕ) (ws : List (List ℕ)) → plain w ≡ true → word_in (spaced (w ∷ ws)) ≡ Ok (w, spaced ws)
unfolding spaced
word_back w ws h =
    let lacking = lacks_plain 32 w (omega arith) h in
    rw (before_word w ws lacking, rest_from_word w ws lacking) refl

pub said_back : (w : List ℕ) (ws : List (List ℕ)) → plain w ≡ true → said_in w (spaced (w ∷ ws)) ≡ Ok (spaced ws)
said_back w ws h = rw (word_back w ws h, text_itself w) refl

pub count_read : (n : ℕ) (ws : List (List ℕ)) → n < 2 ^ 32 → count_in (spaced (decimal n ∷ ws)) ≡ Ok (n, spaced ws)
count_read n ws h = rw (word_back (decimal n) ws (plain-decimal n), count_back n h) refl

pub labelled_back : (w : List ℕ) (n : ℕ) (ws : List (List ℕ)) → plain w ≡ true → n < 2 ^ 32 → labelled_in w (spaced (w ∷ decimal n ∷ ws)) ≡ Ok (n, spaced ws)
labelled_back w n ws p h = rw (said_back w (decimal n ∷ ws) p) (count_read n ws h)

pub amount_back : (z : ℤ) → (pos 0 ≤ℤ z) × (z ≤ℤ pos 1000000000) → amount_of (signed_decimal z) ≡ Ok z
amount_back (pos n) h =
    let low : n ≤ 1000000000 = omega (arith, ints) in
    rw (count_back n (omega arith), le-leb n 1000000000 low) refl
amount_back (negsuc n) h = absurd (omega (arith, ints))

pub amount_read : (z : ℤ) (ws : List (List ℕ)) → (pos 0 ≤ℤ z) × (z ≤ℤ pos 1000000000) → amount_in (spaced (signed_decimal z ∷ ws)) ≡ Ok (z, spaced ws)
amount_read z ws h = rw (word_back (signed_decimal z) ws (plain-signed z), amount_back z h) refl
