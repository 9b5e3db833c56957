-- The first line of bytes, and what bytes at the front of an input show of it.
use Rattle.std.proofs.Common.{◌≡◌, ℕ, zero, suc, ◌+◌, ◌<◌, ◌≤◌, true, false, cond, ◌==◌, List, [], ◌∷◌, ◌++◌, length, take, drop, refl, ap, arith, add-one}
use Rattle.std.specs.List.{position_or_len}
use Rattle.std.proofs.lemmas.Grind.{common_steps}
use Rattle.pl_io.specs.Lines.{has_newline, first_line, after_line, judged, next_of, given, line_too_long, input_too_long}

-- as many bytes stand before the first newline
pub line_len : (bytes : List ℕ) → position_or_len (λ byte. byte == 10) bytes ≡ length (first_line bytes)
line_len [] = refl
line_len (byte ∷ bytes) = grind (arith, common_steps, line_len bytes)

-- a newline in the front is the first of the whole
pub first_line-append : (front rest : List ℕ) → has_newline front ≡ true → first_line (front ++ rest) ≡ first_line front
first_line-append [] rest found = grind arith
first_line-append (byte ∷ front) rest found = grind (arith, common_steps, first_line-append front rest)

pub after_line-append : (front rest : List ℕ) → has_newline front ≡ true → after_line (front ++ rest) ≡ after_line front ++ rest
after_line-append [] rest found = grind arith
after_line-append (byte ∷ front) rest found = grind (arith, common_steps, after_line-append front rest)

pub has_newline-append : (front rest : List ℕ) → has_newline front ≡ true → has_newline (front ++ rest) ≡ true
has_newline-append [] rest found = grind arith
has_newline-append (byte ∷ front) rest found = grind (arith, common_steps, has_newline-append front rest)

-- more bytes make the first line no shorter
pub first_line-grows : (front rest : List ℕ) → length (first_line front) ≤ length (first_line (front ++ rest))
first_line-grows [] rest = grind arith
first_line-grows (byte ∷ front) rest = grind (arith, common_steps, first_line-grows front rest)

pub first_line-whole : (bytes : List ℕ) → has_newline bytes ≡ false → first_line bytes ≡ bytes
first_line-whole [] none = refl
first_line-whole (byte ∷ bytes) none = grind (arith, common_steps, first_line-whole bytes)

pub after_line-whole : (bytes : List ℕ) → has_newline bytes ≡ false → after_line bytes ≡ []
after_line-whole [] none = refl
after_line-whole (byte ∷ bytes) none = grind (arith, common_steps, after_line-whole bytes)

pub first_line-take : (bytes : List ℕ) → take (length (first_line bytes)) bytes ≡ first_line bytes
first_line-take [] = refl
first_line-take (byte ∷ bytes) = grind (arith, common_steps, first_line-take bytes)

pub after_line-drop : (bytes : List ℕ) → drop (length (first_line bytes) + 1) bytes ≡ after_line bytes
after_line-drop [] = grind (arith, common_steps)
after_line-drop (byte ∷ bytes) =
    let shorter = after_line-drop bytes in
    elim (byte == 10) as (λ b. drop (length (cond b [] (byte ∷ first_line bytes)) + 1) (byte ∷ bytes) ≡ cond b bytes (after_line bytes)) [
      | true ↦ grind (arith, common_steps)
      | false ↦ rw add-one (rw add-one at shorter)
    ]

pub first_line-no_newline : (bytes : List ℕ) → has_newline (first_line bytes) ≡ false
first_line-no_newline [] = refl
first_line-no_newline (byte ∷ bytes) = grind (arith, common_steps, first_line-no_newline bytes)

-- the first line is shorter than the bytes exactly where they have a newline
pub newline-from_length : (bytes : List ℕ) → length (first_line bytes) < length bytes → has_newline bytes ≡ true
newline-from_length [] less = grind arith
newline-from_length (byte ∷ bytes) less = grind (arith, common_steps, newline-from_length bytes)

pub no_newline-from_length : (bytes : List ℕ) → length bytes ≤ length (first_line bytes) → has_newline bytes ≡ false
no_newline-from_length [] more = refl
no_newline-from_length (byte ∷ bytes) more = grind (arith, common_steps, no_newline-from_length bytes)

pub first_line-le : (bytes : List ℕ) → length (first_line bytes) ≤ length bytes
first_line-le [] = grind arith
first_line-le (byte ∷ bytes) = grind (arith, common_steps, first_line-le bytes)

-- the front of a longer list begins with the front of the list
pub take-more : (room : ℕ) (held more : List ℕ) → (rest : List ℕ) × (take room (held ++ more) ≡ take room held ++ rest)
take-more room [] more = (take room more, grind (arith, common_steps))
take-more zero (byte ∷ held) more = ([], refl)
take-more (suc room) (byte ∷ held) more = let shorter = take-more room held more in (shorter.0, ap (λ xs. byte ∷ xs) shorter.1)

pub next_of-judged : (limit room : ℕ) (bytes : List ℕ) → 0 < length bytes → next_of limit room bytes ≡ judged limit room bytes (take room bytes)
unfolding next_of
next_of-judged limit room [] some = grind arith
next_of-judged limit room (byte ∷ bytes) some = refl

pub judged-line_too_long : (limit room : ℕ) (bytes seen : List ℕ) → limit < length (first_line seen) → judged limit room bytes seen ≡ line_too_long
judged-line_too_long limit room bytes seen long = grind arith

pub judged-input_too_long : (limit room : ℕ) (bytes seen : List ℕ) → length (first_line seen) ≤ limit → room < length bytes → has_newline seen ≡ false
    → judged limit room bytes seen ≡ input_too_long
judged-input_too_long limit room bytes seen fits past none = grind arith

pub judged-given : (limit room : ℕ) (bytes seen : List ℕ) → length (first_line seen) ≤ limit → has_newline seen ≡ true
    → judged limit room bytes seen ≡ given (first_line bytes) (after_line bytes)
judged-given limit room bytes seen fits found = grind arith

pub judged-last : (limit room : ℕ) (bytes seen : List ℕ) → length (first_line seen) ≤ limit → length bytes ≤ room
    → judged limit room bytes seen ≡ given (first_line bytes) (after_line bytes)
judged-last limit room bytes seen fits within = grind arith
