-- What the demands of an activity add to a level.
use Rattle.std.specs.Prelude.{ℕ, ◌==◌, ℤ, pos, if◌then◌else◌}
use Rattle.pl_level.specs.Effects.{counted}
use Rattle.pl_semantics.specs.declared.demand.Demand.{Demand}
use Rattle.pl_semantics.specs.declared.demand.Asked.{Asked}
use Rattle.pl_semantics.specs.declared.demand.Asked.TheVariants as asked

-- An effect adds after the moment of the base and up to another one. All else adds nothing.
abbrev pub added_if : ℕ → ℕ → Asked → ℤ
added_if base until (asked.Use u) = pos 0
added_if base until (asked.Effect e) = counted base until e
added_if base until (asked.Set x) = pos 0
added_if base until (asked.Must m) = pos 0

-- to the level of this number
abbrev pub added_by : ℕ → ℕ → ℕ → Demand → ℤ
added_by base until line d = if d.line == line then added_if base until d.asked else pos 0
