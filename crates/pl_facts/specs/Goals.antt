-- Goals, each with a number of its own.
use Rattle.std.specs.Prelude.{◌≢◌, ℕ, Bool, true, Option, List, ◌==◌, find, map, AllPairs, if◌then◌else◌}
use Rattle.pl_facts.specs.declared.goal.Goal.{Goal}

abbrev pub is_numbered : ℕ → Goal → Bool
is_numbered number goal = goal.number == number

-- the goal that has the number
abbrev pub goal_of : ℕ → List Goal → Option Goal
goal_of number goals = find (is_numbered number) goals

-- the goals, with the one of this number dropped
abbrev pub with_dropped : ℕ → List Goal → List Goal
with_dropped number goals = map (λ goal. if is_numbered number goal then record goal { dropped = true } else goal) goals

-- no number stands twice
abbrev pub AreDistinct : List Goal → Type 0
AreDistinct goals = AllPairs (λ one other. one.number ≢ other.number) goals
