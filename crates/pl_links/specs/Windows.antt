-- From which moment to which a point may lie.
use Rattle.std.specs.Prelude.{ℕ, ◌&&◌, nat_le, Bool, false, Option, Some, None}

-- the moment lies in the window
abbrev pub in_window : Option (ℕ × ℕ) → ℕ → Bool
in_window None m = false
in_window (Some w) m = nat_le w.0 m && nat_le m w.1
