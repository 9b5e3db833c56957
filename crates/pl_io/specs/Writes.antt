-- What a write that was cut short did to the bytes that a sink holds.
use Rattle.std.specs.Prelude.{◌≡◌, ℕ, ◌<◌, List, ◌++◌, length, take, Option, IfSome, Some}

-- The known bytes grew by a front of these bytes that isn't all of them.
abbrev pub AppendsFront : Option (List ℕ) → Option (List ℕ) → List ℕ → Type 0
AppendsFront old new bytes =
    IfSome old (λ before. (count : ℕ) × (count < length bytes) × (new ≡ Some (before ++ take count bytes)))
