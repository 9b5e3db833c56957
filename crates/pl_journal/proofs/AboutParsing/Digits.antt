-- A number read back from its digits.
use Rattle.std.proofs.Common.{◌≡◌, ℕ, ◌+◌, ◌-◌, ◌*◌, ◌/◌, ◌%◌, ◌^◌, ◌<◌, ◌≤◌, leb, ltb, true, List, [], ◌∷◌, ◌++◌, Ok, Err, decimal, refl, ap, ◌∙◌, arith}
use Rattle.std.proofs.lemmas.Bool.{le-leb, lt-ltb, cond-true, and_from}
use Rattle.std.proofs.lemmas.Fmt.{decimal_by_steps}
use Rattle.pl_lists.specs.Judgements.{◌>>=◌}
use Rattle.pl_text.specs.Bytes.{is_digit}
use Rattle.pl_journal.specs.declared.parsing.fault.EntryFault.TheVariants as fault
use Rattle.pl_journal.specs.Parsing.Reads.{Read}
use Rattle.pl_journal.specs.Parsing.Words.{word_or_none, with_digit, count_from, count_of}

digit_append : (r : Read ℕ) (xs ys : List ℕ) → ((n : ℕ) → count_from n (xs ++ ys) ≡ (count_from n xs >>= λ m. count_from m ys)) → (r >>= λ n. count_from n (xs ++ ys)) ≡ ((r >>= λ n. count_from n xs) >>= λ n. count_from n ys)
digit_append (Ok n) xs ys more = more n
digit_append (Err e) xs ys more = refl

count_append : (a : ℕ) (xs ys : List ℕ) → count_from a (xs ++ ys) ≡ (count_from a xs >>= λ n. count_from n ys)
count_append a [] ys = refl
count_append a (x ∷ xs) ys = digit_append (with_digit a x) xs ys (λ n. count_append n xs ys)

word_read : (n : ℕ) → n < 2 ^ 32 → word_or_none n ≡ Ok n
word_read n fits =
    let read : Read ℕ = Ok n in
    let none : Read ℕ = Err fault.NotALine in
    cond-true (ltb n 4294967296) read none (lt-ltb n 4294967296 (omega arith))

digit_read : (a d : ℕ) → d < 10 → a * 10 + d < 2 ^ 32 → with_digit a (48 + d) ≡ Ok (a * 10 + d)
digit_read a d small fits =
    let value : a * 10 + (48 + d - 48) ≡ a * 10 + d = omega arith in
    let low : leb 48 (48 + d) ≡ true = le-leb 48 (48 + d) (omega arith) in
    let high : leb (48 + d) 57 ≡ true = le-leb (48 + d) 57 (omega arith) in
    let none : Read ℕ = Err fault.NotALine in
    cond-true (is_digit (48 + d)) (word_or_none (a * 10 + (48 + d - 48))) none (and_from (leb 48 (48 + d)) (leb (48 + d) 57) low high)
    ∙ ap (λ (x : ℕ). word_or_none x) value ∙ word_read (a * 10 + d) fits

abbrev IsReadBack : ℕ → List ℕ → Type 0
IsReadBack n ds = n < 2 ^ 32 → count_from 0 ds ≡ Ok n

one_digit : (n : ℕ) → n < 10 → IsReadBack n ((48 + n) ∷ [])
one_digit n small fits =
    let value : 0 * 10 + n ≡ n = omega arith in
    ap (λ (r : Read ℕ). r >>= λ m. count_from m []) (digit_read 0 n small (omega arith)) ∙ ap (λ (x : ℕ). let r : Read ℕ = Ok x in r) value

more_digits : (n : ℕ) (ds : List ℕ) → 10 ≤ n → IsReadBack (n / 10) ds → IsReadBack n (ds ++ (48 + n % 10) ∷ [])
more_digits n ds large front fits =
    let value : n / 10 * 10 + n % 10 ≡ n = omega arith in
    count_append 0 ds ((48 + n % 10) ∷ [])
    ∙ ap (λ (r : Read ℕ). r >>= λ m. count_from m ((48 + n % 10) ∷ [])) (front (omega arith))
    ∙ ap (λ (r : Read ℕ). r >>= λ m. count_from m []) (digit_read (n / 10) (n % 10) (omega arith) (omega arith))
    ∙ ap (λ (x : ℕ). let r : Read ℕ = Ok x in r) value

pub count_back : (n : ℕ) → n < 2 ^ 32 → count_of (decimal n) ≡ Ok n
unfolding count_of
count_back n fits = decimal_by_steps IsReadBack one_digit more_digits n (omega arith) fits
