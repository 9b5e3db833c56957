-- Texts one behind another.
use Rattle.std.proofs.Common.{◌≡◌, ℕ, List, [], ◌∷◌, ◌++◌, append_assoc, ap, ◌∙◌}
use Rattle.pl_journal.specs.Rendering.Words.{spaced}
use Rattle.pl_journal.proofs.AboutRendering.Texts.{words_joined}
use Rattle.pl_report.specs.Lines.{line_with}

pub texts_joined : (xs ys zs : List ℕ) → xs ++ ys ++ zs ≡ xs ++ (ys ++ zs)
texts_joined xs ys zs = append_assoc xs ys zs

-- a label, words and a newline behind what was there
pub line_joined : (out label : List ℕ) (words : List (List ℕ)) → out ++ label ++ spaced words ++ 10 ∷ [] ≡ out ++ line_with label words
unfolding line_with
line_joined out label words = simp append_assoc

-- the same at the front
pub line_begun : (label : List ℕ) (words : List (List ℕ)) → label ++ spaced words ++ 10 ∷ [] ≡ line_with label words
unfolding line_with
line_begun label words = append_assoc label (spaced words) (10 ∷ [])

-- five groups of words behind what was there
pub five_joined : (out : List ℕ) (a b c d e : List (List ℕ)) → out ++ spaced a ++ spaced b ++ spaced c ++ spaced d ++ spaced e ≡ out ++ spaced (a ++ b ++ c ++ d ++ e)
five_joined out a b c d e =
    ap (λ (t : List ℕ). t ++ spaced c ++ spaced d ++ spaced e) (words_joined out a b)
    ∙ ap (λ (t : List ℕ). t ++ spaced d ++ spaced e) (words_joined out (a ++ b) c)
    ∙ ap (λ (t : List ℕ). t ++ spaced e) (words_joined out (a ++ b ++ c) d)
    ∙ words_joined out (a ++ b ++ c ++ d) e

pub four_texts : (a b c d : List ℕ) → a ++ b ++ c ++ d ≡ a ++ (b ++ (c ++ d))
four_texts a b c d = simp append_assoc
