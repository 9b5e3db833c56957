-- How many roots serve each goal, kept by the goal's number in a table of the smaller numbers.
use Rattle.std.specs.Prelude.{◌≡◌, ℕ, ◌+◌, ◌<◌, ◌≤◌, ◌^◌, List, length, slice_index_or, count_by, Option, IfSome, if◌then◌else◌}
use Rattle.pl_plan.specs.declared.activity.Activity.{Activity}
use Rattle.pl_plan.specs.Index.{is_number}
use Rattle.pl_plan.specs.Serving.{serves}

-- goals of smaller numbers are counted
abbrev pub few_goals : ℕ
few_goals = 65536

-- the count under the number; past the end of the table it is 0
abbrev pub count_at : ℕ → List ℕ → ℕ
count_at n counts = slice_index_or counts n 0

-- under each smaller number stands how many roots serve the goal
abbrev pub AreCounted : List Activity → List ℕ → Type 0
AreCounted activities counts = (n : ℕ) → n < few_goals → count_at n counts ≡ count_by (serves n) activities

-- one more serves the goal, if there is one, and all other counts stay
abbrev pub Raises : Option ℕ → List ℕ → List ℕ → Type 0
Raises goal before after = (n : ℕ) → n < few_goals → count_at n after ≡ count_at n before + (if is_number n goal then 1 else 0)

-- the table has a place for the goal, if the goal is counted
abbrev pub HasPlace : Option ℕ → List ℕ → Type 0
HasPlace goal counts = IfSome goal (λ g. g < few_goals → g < length counts)

-- the goal's count may rise
abbrev pub MayRise : Option ℕ → List ℕ → Type 0
MayRise goal counts = IfSome goal (λ g. g < few_goals → count_at g counts + 1 < 2 ^ 32)

-- the goal's count may fall
abbrev pub MayFall : Option ℕ → List ℕ → Type 0
MayFall goal counts = IfSome goal (λ g. g < few_goals → 1 ≤ count_at g counts)
