-- The form of the second program's command line: `run N WORLDS`.
use Rattle.std.specs.Prelude.{ℕ, List, [], ◌∷◌, ◌++◌, ◌&&◌, nat_le, if◌then◌else◌, Option, Some, None, codes, map}
use Rattle.std.specs.Str.{bytes_eq}
use Rattle.std.specs.String.{string_bytes}
use Rattle.std.specs.declared.string.String.{String}
use Rattle.std.specs.declared.alloc.Global.{Global}
use Rattle.pl_main.specs.declared.command.Ahead.{Ahead}
use Rattle.pl_main.specs.Numbers.{number_in}

-- the turns of a round, from 1 to 1,000, and how many plans may be looked at, up to 1,000,000
abbrev pub ahead_by : Option ℕ → Option ℕ → Option Ahead
ahead_by None worlds = None
ahead_by (Some turns) None = None
ahead_by (Some turns) (Some worlds) = if nat_le 1 turns && (nat_le turns 1000 && nat_le worlds 1000000) then Some (record { turns = turns; worlds = worlds }) else None

abbrev pub ahead_in : List (List ℕ) → Option Ahead
ahead_in (run ∷ turns ∷ worlds ∷ []) = if bytes_eq run (codes "run") then ahead_by (number_in turns) (number_in worlds) else None
ahead_in _ = None

-- what the words ask for, where they are of the form
unfoldable pub ahead_of : List (String Global) → Option Ahead
ahead_of words = ahead_in (map string_bytes words)

abbrev pub ahead_usage : List ℕ
ahead_usage = codes "usage: run N WORLDS" ++ 10 ∷ []
