-- A line of words behind a label.
use Rattle.std.specs.Prelude.{ℕ, List, [], ◌∷◌, ◌++◌}
use Rattle.pl_journal.specs.Rendering.Words.{spaced}

-- the label, each word behind a blank, and a newline
unfoldable pub line_with : List ℕ → List (List ℕ) → List ℕ
line_with label words = label ++ (spaced words ++ 10 ∷ [])
