-- The forms of the command line: `run solo N`, `run pair N SEED`, `run crew N P SEED`, `check`, `replay`, `report`, `demo N`, `flex ID`, `forecast` and `improve N`.
use Rattle.std.specs.Prelude.{ℕ, List, [], ◌∷◌, ◌&&◌, nat_le, if◌then◌else◌, Option, Some, None, codes, map}
use Rattle.std.specs.Str.{bytes_eq}
use Rattle.std.specs.String.{string_bytes}
use Rattle.std.specs.declared.string.String.{String}
use Rattle.std.specs.declared.alloc.Global.{Global}
use Rattle.pl_main.specs.declared.command.Command.{Command}
use Rattle.pl_main.specs.declared.command.Command.TheVariants as command
use Rattle.pl_main.specs.declared.command.Task.TheVariants as task
use Rattle.pl_main.specs.Numbers.{number_in}

-- the turns of a round, from 1 to 1,000
abbrev pub turns_by : Option ℕ → Option Command
turns_by None = None
turns_by (Some n) = if nat_le 1 n && nat_le n 1000 then Some (command.Alone (task.Solo n)) else None

-- the turns of a round, from 1 to 1,000, and the seed of a pair
abbrev pub pair_by : Option ℕ → Option ℕ → Option Command
pair_by None seed = None
pair_by (Some turns) None = None
pair_by (Some turns) (Some seed) = if nat_le 1 turns && nat_le turns 1000 then Some (command.Pair turns seed) else None

-- the turns of a round, the planners of a crew, from 2 to 8, and its seed
abbrev pub crew_by : Option ℕ → Option ℕ → Option ℕ → Option Command
crew_by None planners seed = None
crew_by (Some turns) None seed = None
crew_by (Some turns) (Some planners) None = None
crew_by (Some turns) (Some planners) (Some seed) =
    if nat_le 1 turns && nat_le turns 1000 && (nat_le 2 planners && nat_le planners 8) then Some (command.Crew turns planners seed) else None

-- the goals of the demonstration, from 1 to 4,000
abbrev pub goals_by : Option ℕ → Option Command
goals_by None = None
goals_by (Some n) = if nat_le 1 n && nat_le n 4000 then Some (command.Alone (task.Demo n)) else None

-- the id of an activity
abbrev pub flex_by : Option ℕ → Option Command
flex_by None = None
flex_by (Some id) = Some (command.Alone (task.Flex id))

-- the steps that better a plan, from 1 to 1,000
abbrev pub improve_by : Option ℕ → Option Command
improve_by None = None
improve_by (Some n) = if nat_le 1 n && nat_le n 1000 then Some (command.Alone (task.Improve n)) else None

-- a task that is one word
abbrev pub single_word : List ℕ → Option Command
single_word word =
    if bytes_eq word (codes "check") then Some (command.Alone task.Check)
    else if bytes_eq word (codes "replay") then Some (command.Alone task.Replay)
    else if bytes_eq word (codes "report") then Some (command.Alone task.Report)
    else if bytes_eq word (codes "forecast") then Some (command.Alone task.Forecast)
    else None

abbrev pub command_in : List (List ℕ) → Option Command
command_in (word ∷ []) = single_word word
command_in (word ∷ number ∷ []) =
    if bytes_eq word (codes "demo") then goals_by (number_in number)
    else if bytes_eq word (codes "flex") then flex_by (number_in number)
    else if bytes_eq word (codes "improve") then improve_by (number_in number)
    else None
command_in (run ∷ solo ∷ turns ∷ []) = if bytes_eq run (codes "run") && bytes_eq solo (codes "solo") then turns_by (number_in turns) else None
command_in (run ∷ pair ∷ turns ∷ seed ∷ []) = if bytes_eq run (codes "run") && bytes_eq pair (codes "pair") then pair_by (number_in turns) (number_in seed) else None
command_in (run ∷ crew ∷ turns ∷ planners ∷ seed ∷ []) =
    if bytes_eq run (codes "run") && bytes_eq crew (codes "crew") then crew_by (number_in turns) (number_in planners) (number_in seed) else None
command_in _ = None

-- what the words ask for, where they are one of the forms
unfoldable pub command_of : List (String Global) → Option Command
command_of words = command_in (map string_bytes words)
