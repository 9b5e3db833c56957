-- Which moves are kept of some, each once, after those that are kept already; and which two moves make sense for the same reason.
use Rattle.std.specs.Prelude.{◌-◌, ◌==◌, ◌&&◌, Bool, false, List, [], ◌∷◌, ◌++◌, filter, take, length, if◌then◌else◌}
use Rattle.std.specs.List.{list_any}
use Rattle.pl_plan.specs.declared.repair.RepairMove.{RepairMove}
use Rattle.pl_plan.specs.declared.repair.RepairMove.TheVariants.{Add}
use Rattle.pl_semantics.specs.Candidates.{same_move, same_number}

abbrev pub once_after : List RepairMove → List RepairMove → List RepairMove
once_after kept [] = []
once_after kept (m ∷ more) = if list_any (same_move m) kept then once_after kept more else m ∷ once_after (kept ++ m ∷ []) more

-- what is kept, and what will be kept of the other moves
abbrev pub standing : (RepairMove → Bool) → List RepairMove → List RepairMove → List RepairMove
standing worth kept rest = kept ++ take (256 - length kept) (once_after kept (filter worth rest))

-- whether both add an activity of the same kind for the same goal
abbrev pub are_alike : RepairMove → RepairMove → Bool
are_alike (Add kind start goal) (Add k t g) = (kind == k) && same_number goal g
are_alike _ _ = false
