-- Who makes entries, and how many.
use Rattle.std.specs.Prelude.{ℕ, ◌+◌, ◌≤◌, ◌==◌, Bool, true, false, List, ⊤}
use Rattle.std.specs.List.{count_by}
use Rattle.pl_marks.specs.declared.author.Author.{Author}
use Rattle.pl_marks.specs.declared.author.Author.TheVariants.{Feeder, Executive, Planner}

-- planners are numbered from 1 to 8
abbrev pub IsAuthor : Author → Type 0
IsAuthor Feeder = ⊤
IsAuthor Executive = ⊤
IsAuthor (Planner k) = (1 ≤ k) × (k ≤ 8)

-- the feeder first, then the executive, then the planners
abbrev pub slot_of : Author → ℕ
slot_of Feeder = 0
slot_of Executive = 1
slot_of (Planner k) = k + 1

-- a planner's number, and 0 for all others
abbrev pub number_of : Author → ℕ
number_of Feeder = 0
number_of Executive = 0
number_of (Planner k) = k

abbrev pub is_same : Author → Author → Bool
is_same Feeder Feeder = true
is_same Executive Executive = true
is_same (Planner j) (Planner k) = j == k
is_same _ _ = false

-- how many of these entries are the author's
abbrev pub times : Author → List Author → ℕ
times a authors = count_by (is_same a) authors
