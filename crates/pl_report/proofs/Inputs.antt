-- The messages of one more goal, and the end behind them.
use Rattle.std.proofs.Common.{◌≡◌, ℕ, zero, suc, ◌+◌, List, [], ◌∷◌, ◌++◌, flat_map, sym, ap, ◌∙◌, append_assoc, add-one, arith}
use Rattle.std.specs.List.{range_with_len}
use Rattle.std.specs.Prelude.{codes}
use Rattle.std.proofs.lemmas.List.Concat.{flat_map-append}
use Rattle.std.proofs.lemmas.List.{append-nil}
use Rattle.pl_io.specs.Lines.{with_newline}
use Rattle.pl_report.specs.Demonstration.{model_lines, messages_for, demo_text}

range_more : (a n j : ℕ) → a + n ≡ j → range_with_len a (suc n) ≡ range_with_len a n ++ j ∷ []
range_more a zero j is = let same : a ≡ j = omega (arith, is) in ap (λ (x : ℕ). x ∷ []) same
range_more a (suc n) j is = ap (λ (xs : List ℕ). a ∷ xs) (range_more (a + 1) n j (omega (arith, is)))

-- these lines and the messages of so many goals
abbrev pub lines_for : List (List ℕ) → ℕ → List (List ℕ)
lines_for front goals = front ++ flat_map messages_for (range_with_len 1 goals)

lines_more : (front : List (List ℕ)) (goals : ℕ) → lines_for front (goals + 1) ≡ lines_for front goals ++ messages_for (goals + 1)
lines_more front goals =
    rw add-one
    (ap (λ (xs : List ℕ). front ++ flat_map messages_for xs) (range_more 1 goals (suc goals) (omega arith))
    ∙ ap (λ (ls : List (List ℕ)). front ++ ls) (flat_map-append messages_for (range_with_len 1 goals) (suc goals ∷ []) ∙ ap (λ (ls : List (List ℕ)). flat_map messages_for (range_with_len 1 goals) ++ ls) (append-nil (messages_for (suc goals))))
    ∙ sym (append_assoc front (flat_map messages_for (range_with_len 1 goals)) (messages_for (suc goals))))

pub text_more : (front : List (List ℕ)) (goals : ℕ) → flat_map with_newline (lines_for front goals) ++ flat_map with_newline (messages_for (goals + 1)) ≡ flat_map with_newline (lines_for front (goals + 1))
text_more front goals = sym (ap (λ (ls : List (List ℕ)). flat_map with_newline ls) (lines_more front goals) ∙ flat_map-append with_newline (lines_for front goals) (messages_for (goals + 1)))

text_end : (front ls : List (List ℕ)) → flat_map with_newline (front ++ ls) ++ with_newline (codes "end") ≡ flat_map with_newline (front ++ (ls ++ codes "end" ∷ []))
text_end front ls =
    ap (λ (t : List ℕ). flat_map with_newline (front ++ ls) ++ t) (sym (append-nil (with_newline (codes "end"))))
    ∙ sym (flat_map-append with_newline (front ++ ls) (codes "end" ∷ []))
    ∙ ap (λ (x : List (List ℕ)). flat_map with_newline x) (append_assoc front ls (codes "end" ∷ []))

pub demo_ends : (goals : ℕ) → flat_map with_newline (lines_for model_lines goals) ++ with_newline (codes "end") ≡ demo_text goals
unfolding demo_text
demo_ends goals = text_end model_lines (flat_map messages_for (range_with_len 1 goals))
