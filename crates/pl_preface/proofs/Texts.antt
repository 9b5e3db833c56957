-- Texts one behind another.
use Rattle.std.proofs.Common.{◌≡◌, ℕ, List, [], ◌∷◌, ◌++◌, append_assoc}
use Rattle.std.specs.Prelude.{codes}

pub words_joined : (out number words : List ℕ) → out ++ codes "line " ++ number ++ codes ": " ++ words ≡ out ++ (codes "line " ++ (number ++ (codes ": " ++ words)))
words_joined out number words = simp append_assoc

pub line_joined : (label words : List ℕ) → label ++ codes ": " ++ words ++ 10 ∷ [] ≡ label ++ (codes ": " ++ (words ++ 10 ∷ []))
line_joined label words = simp append_assoc
