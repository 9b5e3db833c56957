-- Ranges of ids for the activities that are not settled.
use Rattle.std.specs.Prelude.{ℕ, ◌+◌, nat_lt, Bool, List, [], ◌∷◌, ◌++◌, if◌then◌else◌}
use Rattle.pl_plan.specs.declared.activity.Activity.{Activity}
use Rattle.pl_machine.specs.declared.id_range.IdRange.{IdRange}
use Rattle.pl_machine.specs.Calm.{is_settled}

-- the range alone, or no range if no id is in it
abbrev pub as_list : IdRange → List IdRange
as_list r = if nat_lt r.from r.to then r ∷ [] else []

-- whether an id comes into the last range
abbrev pub is_near : IdRange → ℕ → Bool
is_near last id = nat_lt id (last.to + 8)

-- the last range once an id that is not below it is added: the same range up to this id, or one of its own for it
abbrev pub grown : IdRange → ℕ → IdRange
grown last id = if is_near last id then record { from = last.from; to = id + 1 } else record { from = id; to = id + 1 }

-- what stands before that range now
abbrev pub kept_apart : IdRange → ℕ → List IdRange
kept_apart last id = if is_near last id then [] else as_list last

-- the last range behind an activity
abbrev pub last_after : ℕ → ℕ → IdRange → Activity → IdRange
last_after moment c last a = if is_settled moment c a then last else grown last a.id

-- what stands before that range then
abbrev pub ended_by : ℕ → ℕ → IdRange → Activity → List IdRange
ended_by moment c last a = if is_settled moment c a then [] else kept_apart last a.id

-- the last range, and those that are made for the activities that are not settled
abbrev pub ranges_from : ℕ → ℕ → IdRange → List Activity → List IdRange
ranges_from moment c last [] = as_list last
ranges_from moment c last (a ∷ more) = ended_by moment c last a ++ ranges_from moment c (last_after moment c last a) more
