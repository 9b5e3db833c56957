-- The laws of lines.
use Rattle.std.proofs.Common.{◌≡◌, ◌≢◌, ℕ, zero, suc, false, ◌==◌, List, [], ◌∷◌, ◌++◌, flat_map, All, refl, sym, ap, ◌∙◌, subst, eqb-true, arith}
use Rattle.std.specs.List.{onto_first}
use Rattle.std.proofs.lemmas.Bool.{cond_both}
use Rattle.std.proofs.lemmas.Grind.{common_steps}
use Rattle.pl_io.specs.Lines.{has_newline, first_line, after_line, lines_of, with_newline, missing_newline, next_of, given, ended}

pub lines_of-front : (bytes : List ℕ) → bytes ≢ [] → lines_of bytes ≡ first_line bytes ∷ lines_of (after_line bytes)
lines_of-front [] some = absurd (some refl)
lines_of-front (byte ∷ []) some = grind (arith, common_steps)
lines_of-front (byte ∷ next ∷ bytes) some =
    let rest : lines_of (next ∷ bytes) ≡ first_line (next ∷ bytes) ∷ lines_of (after_line (next ∷ bytes)) = lines_of-front (next ∷ bytes) (λ e. cc) in
    cond_both (byte == 10) _ _ (λ xs. xs ≡ first_line (byte ∷ next ∷ bytes) ∷ lines_of (after_line (byte ∷ next ∷ bytes)))
    (λ is. grind (arith, common_steps)) (λ isnt. grind (arith, common_steps, rest))

abbrev HasNone : List ℕ → Type 0
HasNone line = has_newline line ≡ false

none_in_cons : (line : List ℕ) (lines : List (List ℕ)) → HasNone line → All HasNone lines → All HasNone (line ∷ lines)
none_in_cons line lines none all zero d less = none
none_in_cons line lines none all (suc k) d less = all k d (omega (arith, less))

none_in_onto : (byte : ℕ) (lines : List (List ℕ)) → (byte == 10) ≡ false → All HasNone lines → All HasNone (onto_first byte lines)
none_in_onto byte [] isnt all zero d less = grind (arith, common_steps)
none_in_onto byte [] isnt all (suc k) d less = grind arith
none_in_onto byte (line ∷ lines) isnt all zero d less = let none : HasNone line = all 0 d less in grind (arith, common_steps)
none_in_onto byte (line ∷ lines) isnt all (suc k) d less = all (suc k) d less

pub lines_of-no_newline : (bytes : List ℕ) → All (λ line. has_newline line ≡ false) (lines_of bytes)
lines_of-no_newline [] = grind (arith, common_steps)
lines_of-no_newline (byte ∷ bytes) =
    let rest = lines_of-no_newline bytes in
    cond_both (byte == 10) _ _ (λ lines. All HasNone lines) (λ is. none_in_cons [] (lines_of bytes) refl rest) (λ isnt. none_in_onto byte (lines_of bytes) isnt rest)

pub lines_of-whole : (bytes : List ℕ) → flat_map with_newline (lines_of bytes) ≡ bytes ++ missing_newline bytes
lines_of-whole [] = refl
lines_of-whole (byte ∷ []) = grind (arith, common_steps)
lines_of-whole (byte ∷ next ∷ bytes) =
    let rest = lines_of-whole (next ∷ bytes) in
    let front = lines_of-front (next ∷ bytes) (λ e. cc) in
    let Joins : List (List ℕ) → Type 0 = λ lines. flat_map with_newline lines ≡ byte ∷ (next ∷ bytes) ++ missing_newline (next ∷ bytes) in
    let Onto : List (List ℕ) → Type 0 = λ lines. flat_map with_newline (onto_first byte lines) ≡ byte ∷ flat_map with_newline lines in
    cond_both (byte == 10) _ _ Joins
    (λ is. ap (λ xs. 10 ∷ xs) rest ∙ ap (λ b. b ∷ (next ∷ bytes) ++ missing_newline (next ∷ bytes)) (sym (eqb-true byte 10 is)))
    (λ isnt. subst Onto (sym front) refl ∙ ap (λ xs. byte ∷ xs) rest)

pub lines_of_next : (limit room : ℕ) (bytes line rest : List ℕ) → next_of limit room bytes ≡ given line rest → lines_of bytes ≡ line ∷ lines_of rest
unfolding next_of
lines_of_next limit room [] line rest is = cc
lines_of_next limit room (byte ∷ bytes) line rest is =
    let front = lines_of-front (byte ∷ bytes) (λ e. cc) in
    grind (arith, front)

pub lines_of-end : (limit room : ℕ) (bytes : List ℕ) → next_of limit room bytes ≡ ended → lines_of bytes ≡ []
unfolding next_of
lines_of-end limit room [] is = refl
lines_of-end limit room (byte ∷ bytes) is = grind arith
