-- Ids under numbers, as pairs of a number and an id, and how they stand for activities.
use Rattle.std.specs.Prelude.{◌≡◌, ℕ, ◌==◌, ◌&&◌, ◌||◌, not, Bool, false, List, map, filter, Option, Some, None, option_and_then}
use Rattle.std.specs.List.{list_any}
use Rattle.pl_plan.specs.declared.activity.Activity.{Activity}
use Rattle.pl_plan.specs.Activities.{activity_of}

-- it is there, and it is this number
abbrev pub is_number : ℕ → Option ℕ → Bool
is_number n None = false
is_number n (Some m) = m == n

-- whether the id stands under the number
abbrev pub has_pair : ℕ → ℕ → List (ℕ × ℕ) → Bool
has_pair n id pairs = list_any (λ p. (n == p.0) && (id == p.1)) pairs

-- the ids under the number
abbrev pub ids_under : ℕ → List (ℕ × ℕ) → List ℕ
ids_under n pairs = map (λ p. p.1) (filter (λ p. n == p.0) pairs)

-- the id has come under the number, if there is one
abbrev pub Enters : Option ℕ → ℕ → List (ℕ × ℕ) → List (ℕ × ℕ) → Type 0
Enters number id before after = (n q : ℕ) → has_pair n q after ≡ ((is_number n number && (id == q)) || has_pair n q before)

-- the id has gone from under the number, if there is one
abbrev pub Leaves : Option ℕ → ℕ → List (ℕ × ℕ) → List (ℕ × ℕ) → Type 0
Leaves number id before after = (n q : ℕ) → has_pair n q after ≡ (not (is_number n number && (id == q)) && has_pair n q before)

-- each activity stands under its owner's number, and nothing else stands there
abbrev pub IsIndexOf : (Activity → Option ℕ) → List Activity → List (ℕ × ℕ) → Type 0
IsIndexOf owner activities pairs = (n id : ℕ) → has_pair n id pairs ≡ is_number n (option_and_then owner (activity_of id activities))
