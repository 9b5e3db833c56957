-- How late activities start at most, noted by groups of ids.
use Rattle.std.specs.Prelude.{ℕ, ◌/◌, ◌<◌, ◌≤◌, List, length, slice_index_or, All}
use Rattle.pl_plan.specs.declared.activity.Activity.{Activity}

pub record Notes : Type 0 where
  -- for each group a start, by its number
  pub starts : List ℕ
  -- groups of smaller numbers are noted
  pub limit : ℕ

-- the group of an id
abbrev pub group_of : ℕ → ℕ
group_of id = id / 32

-- the latest start that is noted for a group
abbrev pub latest_in : ℕ → Notes → ℕ
latest_in group notes = slice_index_or notes.starts group 0

-- the group has a note, if it is one of those that are noted
abbrev pub HasNote : ℕ → Notes → Type 0
HasNote group notes = group < notes.limit → group < length notes.starts

-- the activity starts no later than its group's note says
pub record IsNoted (notes : Notes) (a : Activity) : Type 0 where
  pub there : HasNote (group_of a.id) notes
  pub by : group_of a.id < notes.limit → a.start ≤ latest_in (group_of a.id) notes

abbrev pub AreNoted : List Activity → Notes → Type 0
AreNoted activities notes = All (IsNoted notes) activities
