-- How many steps changes of block points take.
use Rattle.std.specs.Prelude.{ℕ, ◌+◌, ◌*◌, ◌/◌, ◌≤◌, List, length, ℤ}
use Rattle.pl_points.specs.declared.limit.Limit.{Limit}
use Rattle.pl_points.specs.Points.{Point, merged}
use Rattle.pl_points.specs.Counting.{walk_steps, shift_steps, outside_count}

-- two changes and a walk: a quarter of the points, and a few for each that is outside before or after
abbrev pub ShiftsAreCheap : (ℕ → ℕ) → ℕ → ℕ → ℕ → Type 0
ShiftsAreCheap parts change look search =
    (limit : Limit) (from to : ℕ) (delta back : ℤ) (ps : List Point)
    → shift_steps parts change look search limit from to delta back ps ≤ length ps / 4 + 256 * ((outside_count limit ps + outside_count limit (merged to back (merged from delta ps))) + 4)

-- one change and two walks: the same, where `low` and `high` of the points are outside after it
abbrev pub DoubleWalksAreCheap : (ℕ → ℕ) → ℕ → ℕ → ℕ → Type 0
DoubleWalksAreCheap parts change look search =
    (at : ℕ) (delta : ℤ) (ps : List Point) (low high before : ℕ)
    → (parts (length ps) + change) + (walk_steps parts look search (length (merged at delta ps)) low + walk_steps parts look search (length (merged at delta ps)) high) ≤ length ps / 4 + 256 * ((before + (low + high)) + 4)
