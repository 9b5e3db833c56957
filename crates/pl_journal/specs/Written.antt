-- What was written.
use Rattle.std.specs.Prelude.{◌≡◌, ℕ, List, ◌++◌, Option, Some, IfSome, ⊤}
use Rattle.pl_io.specs.Faults.{Rose}
use Rattle.pl_input.specs.declared.halt.Halt.{Halt}
use Rattle.pl_input.specs.declared.halt.Halt.TheVariants as halt

-- where the sink tells its bytes, these came behind them
abbrev pub Adds : Option (List ℕ) → Option (List ℕ) → List ℕ → Type 0
Adds old new text = IfSome old (λ before. new ≡ Some (before ++ text))

-- a write failed only where the count rose, and nothing else but memory stops a write
abbrev pub WriteStops : ℕ → ℕ → Halt → Type 0
WriteStops before now halt.Write = Rose before now
WriteStops before now halt.Memory = ⊤
WriteStops before now halt.Read = ⊥
WriteStops before now halt.Limit = ⊥
WriteStops before now halt.Full = ⊥
