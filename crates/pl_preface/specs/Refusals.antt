-- The line that tells why what stands before a journal is refused.
use Rattle.std.specs.Prelude.{ℕ, List, [], ◌∷◌, ◌++◌, codes, decimal}
use Rattle.pl_preface.specs.declared.problem.Problem.{Problem}
use Rattle.pl_preface.specs.declared.problem.Problem.TheVariants as problem
use Rattle.pl_preface.specs.declared.refusal.Refusal.{Refusal}
use Rattle.pl_preface.specs.declared.refusal.Refusal.TheVariants as refusal

abbrev pub problem_words : Problem → List ℕ
problem_words problem.BadLine = codes "bad line"
problem_words problem.UnknownName = codes "unknown name"
problem_words problem.OutOfRange = codes "out of range"

-- line NUMBER: WORDS
abbrev pub line_words : ℕ → List ℕ → List ℕ
line_words number words = codes "line " ++ (decimal number ++ (codes ": " ++ words))

abbrev pub refusal_words : Refusal → List ℕ
refusal_words (refusal.Faulty n p) = line_words n (problem_words p)
refusal_words (refusal.TooMany n) = line_words n (codes "too many")
refusal_words refusal.NoJournal = codes "no journal"

-- LABEL: WORDS, by what was asked for
unfoldable pub refusal_line : List ℕ → Refusal → List ℕ
refusal_line label why = label ++ (codes ": " ++ (refusal_words why ++ 10 ∷ []))
