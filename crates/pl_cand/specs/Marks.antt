-- Marks of moves, each at a place that the move determines.
use Rattle.std.specs.Prelude.{◌≡◌, ℕ, ◌+◌, ◌*◌, ◌%◌, Bool, true, false, List, ◌∷◌, [], ◌++◌, All, slice_index_or}
use Rattle.pl_plan.specs.declared.repair.RepairMove.{RepairMove}
use Rattle.pl_plan.specs.declared.repair.RepairMove.TheVariants.{Add, Delete, Shift}

abbrev pub place_by : ℕ → ℕ → ℕ
place_by number start = (start + number * 89) % 1024

-- the place of a move's mark
abbrev pub place_of : RepairMove → ℕ
place_of (Add kind start goal) = place_by kind start
place_of (Shift id start) = place_by id start
place_of (Delete id) = place_by id 0
place_of _ = 0

abbrev pub is_marked : List Bool → RepairMove → Bool
is_marked marks m = slice_index_or marks (place_of m) false

-- each of these moves is marked
abbrev pub AreMarked : List Bool → List RepairMove → Type 0
AreMarked marks kept = All (λ m. is_marked marks m ≡ true) kept

-- moves that were marked still are, and one more is
abbrev pub KeepsMarked : List Bool → List Bool → RepairMove → Type 0
KeepsMarked marks marks' m = (kept : List RepairMove) → AreMarked marks kept → AreMarked marks' (kept ++ m ∷ [])
