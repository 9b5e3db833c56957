-- What stands before the first of a byte.
use Rattle.std.proofs.Common.{◌≡◌, ℕ, ◌≤◌, true, not, ◌==◌, List, [], ◌∷◌, ◌++◌, length, refl, sym, ap, ◌∙◌, arith}
use Rattle.std.proofs.lemmas.Bool.{and_parts, eq-eqb}
use Rattle.std.proofs.lemmas.List.{append-nil, take_at, drop_at}
use Rattle.std.proofs.lemmas.List.Sums.{prefix_len-le-length}
use Rattle.pl_journal.specs.Rendering.Words.{spaced}
use Rattle.pl_journal.proofs.AboutRendering.Cutting.{lacks}
use Rattle.pl_journal.specs.Parsing.Words.{len_before, before, rest_from}

pub before_within : (stop : ℕ) (text : List ℕ) → len_before stop text ≤ length text
before_within stop text = prefix_len-le-length (λ byte. not (byte == stop)) text

pub len_whole : (stop : ℕ) (w : List ℕ) → lacks stop w ≡ true → len_before stop w ≡ length w
len_whole stop [] h = refl
len_whole stop (b ∷ w) h =
    let p = and_parts (not (b == stop)) (lacks stop w) h in
    let more = len_whole stop w p.1 in
    rw p.0 (omega arith)

pub len_at : (stop : ℕ) (w rest : List ℕ) → lacks stop w ≡ true → len_before stop (w ++ stop ∷ rest) ≡ length w
len_at stop [] rest h = rw (eq-eqb stop stop refl) refl
len_at stop (b ∷ w) rest h =
    let p = and_parts (not (b == stop)) (lacks stop w) h in
    let more = len_at stop w rest p.1 in
    rw p.0 (omega arith)

pub len_word : (w : List ℕ) (ws : List (List ℕ)) → lacks 32 w ≡ true → len_before 32 (w ++ spaced ws) ≡ length w
unfolding spaced
len_word w [] h = ap (λ (x : List ℕ). len_before 32 x) (append-nil w) ∙ len_whole 32 w h
len_word w (v ∷ ws) h = len_at 32 w (v ++ spaced ws) h

-- ---- up to that byte, and from it on

pub before_word : (w : List ℕ) (ws : List (List ℕ)) → lacks 32 w ≡ true → before 32 (w ++ spaced ws) ≡ w
before_word w ws h = take_at w (spaced ws) (len_before 32 (w ++ spaced ws)) (sym (len_word w ws h))

pub rest_from_word : (w : List ℕ) (ws : List (List ℕ)) → lacks 32 w ≡ true → rest_from 32 (w ++ spaced ws) ≡ spaced ws
rest_from_word w ws h = drop_at w (spaced ws) (len_before 32 (w ++ spaced ws)) (sym (len_word w ws h))

pub before_at : (stop : ℕ) (w rest : List ℕ) → lacks stop w ≡ true → before stop (w ++ stop ∷ rest) ≡ w
before_at stop w rest h = take_at w (stop ∷ rest) (len_before stop (w ++ stop ∷ rest)) (sym (len_at stop w rest h))

pub rest_from_at : (stop : ℕ) (w rest : List ℕ) → lacks stop w ≡ true → rest_from stop (w ++ stop ∷ rest) ≡ stop ∷ rest
rest_from_at stop w rest h = drop_at w (stop ∷ rest) (len_before stop (w ++ stop ∷ rest)) (sym (len_at stop w rest h))
