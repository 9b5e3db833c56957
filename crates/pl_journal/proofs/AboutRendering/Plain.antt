-- Words without blanks and newlines.
use Rattle.std.proofs.Common.{◌≡◌, ℕ, zero, suc, ◌+◌, ◌<◌, ◌≤◌, ◌/◌, ◌%◌, Bool, true, false, ◌==◌, ltb, ℤ, pos, negsuc, List, [], ◌∷◌, ◌++◌, refl, arith}
use Rattle.std.specs.List.{list_all}
use Rattle.std.proofs.lemmas.Bool.{cond_both, ne_eqb, and_parts, lt-ltb, ltb-true}
use Rattle.std.specs.Fmt.{digit_glyph, digits_onto, digits, decimal, signed_decimal}
use Rattle.pl_journal.specs.Rendering.Words.{spaced}
use Rattle.pl_journal.proofs.AboutRendering.Cutting.{lacks, all_lack, lacks-append}

-- each byte is past the blank, and so past the newline
abbrev pub plain : List ℕ → Bool
plain w = list_all (λ b. ltb 32 b) w

abbrev pub all_plain : List (List ℕ) → Bool
all_plain ws = list_all plain ws

pub plain-append : (xs ys : List ℕ) → plain xs ≡ true → plain ys ≡ true → plain (xs ++ ys) ≡ true
plain-append [] ys h k = k
plain-append (x ∷ xs) ys h k =
    let p = and_parts (ltb 32 x) (plain xs) h in
    rw (p.0, plain-append xs ys p.1 k) refl

pub all_plain-append : (xs ys : List (List ℕ)) → all_plain xs ≡ true → all_plain ys ≡ true → all_plain (xs ++ ys) ≡ true
all_plain-append [] ys h k = k
all_plain-append (x ∷ xs) ys h k =
    let p = and_parts (plain x) (all_plain xs) h in
    rw (p.0, all_plain-append xs ys p.1 k) refl

pub lacks_plain : (c : ℕ) (w : List ℕ) → c ≤ 32 → plain w ≡ true → lacks c w ≡ true
lacks_plain c [] h k = refl
lacks_plain c (b ∷ w) h k =
    let p = and_parts (ltb 32 b) (plain w) k in
    let past : 32 < b = ltb-true 32 b p.0 in
    rw (ne_eqb b c (λ e. omega (arith, past)), lacks_plain c w h p.1) refl

pub all_lack_plain : (c : ℕ) (ws : List (List ℕ)) → c ≤ 32 → all_plain ws ≡ true → all_lack c ws ≡ true
all_lack_plain c [] h k = refl
all_lack_plain c (w ∷ ws) h k =
    let p = and_parts (plain w) (all_plain ws) k in
    rw (lacks_plain c w h p.0, all_lack_plain c ws h p.1) refl

-- behind blanks they have no newline
pub one_line : (ws : List (List ℕ)) → all_lack 10 ws ≡ true → lacks 10 (spaced ws) ≡ true
unfolding spaced
one_line [] h = refl
one_line (w ∷ ws) h =
    let p = and_parts (lacks 10 w) (all_lack 10 ws) h in
    lacks-append 10 w (spaced ws) p.0 (one_line ws p.1)

-- ---- numbers

glyph_from : (d : ℕ) → 48 ≤ digit_glyph false d
glyph_from d = cond_both (ltb d 10) (48 + d) (87 + d) (λ (x : ℕ). 48 ≤ x) (λ e. omega arith) (λ e. omega arith)

plain_glyph : (d : ℕ) (acc : List ℕ) → plain acc ≡ true → plain (digit_glyph false d ∷ acc) ≡ true
plain_glyph d acc k = rw (lt-ltb 32 (digit_glyph false d) (omega (arith, glyph_from d)), k) refl

plain_onto : (k n : ℕ) (acc : List ℕ) → plain acc ≡ true → plain (digits_onto k 10 false n acc) ≡ true
plain_onto zero n acc l = l
plain_onto (suc k) n acc l =
    cond_both (n / 10 == 0) (digit_glyph false (n % 10) ∷ acc) (digits_onto k 10 false (n / 10) (digit_glyph false (n % 10) ∷ acc)) (λ (x : List ℕ). plain x ≡ true)
    (λ e. plain_glyph (n % 10) acc l) (λ e. plain_onto k (n / 10) (digit_glyph false (n % 10) ∷ acc) (plain_glyph (n % 10) acc l))

pub plain-decimal : (n : ℕ) → plain (decimal n) ≡ true
unfolding digits
plain-decimal n = plain_onto 64 n [] refl

pub plain-signed : (z : ℤ) → plain (signed_decimal z) ≡ true
plain-signed (pos n) = plain-decimal n
plain-signed (negsuc n) = plain-decimal (suc n)
