-- How many points lie outside a limit, and how many steps a walk past them takes.
use Rattle.std.specs.Prelude.{ℕ, ◌+◌, ◌*◌, Bool, ◌&&◌, nat_lt, List, [], ◌∷◌, ℤ, length, if◌then◌else◌}
use Rattle.pl_points.specs.declared.limit.Limit.{Limit}
use Rattle.pl_points.specs.Limits.{is_outside}
use Rattle.pl_points.specs.Points.{Point, sum_to, merged}

-- at how many points the property holds
abbrev pub points_with : (ℕ → Bool) → List Point → ℕ
points_with out [] = 0
points_with out (p ∷ ps) = (if out p.0 then 1 else 0) + points_with out ps

-- and at how many after a moment
abbrev pub points_after : (ℕ → Bool) → ℕ → List Point → ℕ
points_after out at [] = 0
points_after out at (p ∷ ps) = (if nat_lt at p.0 && out p.0 then 1 else 0) + points_after out at ps

abbrev pub goes_outside : Limit → List Point → ℕ → Bool
goes_outside limit ps t = is_outside limit (sum_to ps t)

-- after how many points the sum is outside
abbrev pub outside_count : Limit → List Point → ℕ
outside_count limit ps = points_with (goes_outside limit ps) ps

-- what a walk over so many points takes, of which so many are outside
abbrev pub walk_steps : (ℕ → ℕ) → ℕ → ℕ → ℕ → ℕ → ℕ
walk_steps parts look search count outside = parts count + search + (look + search) * (1 + outside)

-- what it takes yet from a moment on
abbrev pub walk_left : (ℕ → ℕ) → ℕ → ℕ → (ℕ → Bool) → List Point → ℕ → ℕ
walk_left ahead look search out ps at = ahead at + (if out at then look else 0) + search + (look + search) * points_after out at ps

-- and up to another moment, where nothing is left
abbrev pub walk_until : (ℕ → ℕ) → ℕ → ℕ → (ℕ → Bool) → List Point → ℕ → ℕ → ℕ
walk_until ahead look search out ps at to = if nat_lt at to then walk_left ahead look search out ps at else 0

-- what two changes take, and a walk over what they leave
abbrev pub shift_steps : (ℕ → ℕ) → ℕ → ℕ → ℕ → Limit → ℕ → ℕ → ℤ → ℤ → List Point → ℕ
shift_steps parts change look search limit from to delta back ps =
    (parts (length ps) + change) + ((parts (length (merged from delta ps)) + change) + walk_steps parts look search (length (merged to back (merged from delta ps))) (outside_count limit (merged to back (merged from delta ps))))
