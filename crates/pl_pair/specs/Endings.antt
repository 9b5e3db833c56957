-- How the run ends, by what the feeder and the workers met.
use Rattle.std.specs.Prelude.{Bool, true, false, ◌||◌, if◌then◌else◌, List, Option, Some, None, Result, Ok, Err}
use Rattle.std.specs.List.{list_any}
use Rattle.pl_machine.specs.declared.stop.Stop.{Stop}
use Rattle.pl_machine.specs.declared.stop.Stop.TheVariants as stop
use Rattle.pl_pair.specs.declared.cut.Cut.{Cut}
use Rattle.pl_pair.specs.declared.cut.Cut.TheVariants as cut
use Rattle.pl_pair.specs.declared.endings.Met.{Met}
use Rattle.pl_input.specs.declared.halt.Halt.{Halt}
use Rattle.pl_input.specs.declared.halt.Halt.TheVariants as halt

-- whether a worker's refusal was a full log
abbrev pub is_full : Option Stop → Bool
is_full None = false
is_full (Some stop.LogFull) = true
is_full (Some stop.Spoiled) = false
is_full (Some stop.NotNow) = false
is_full (Some stop.Memory) = false

-- whether it was another
abbrev pub is_other : Option Stop → Bool
is_other None = false
is_other (Some stop.LogFull) = false
is_other (Some stop.Spoiled) = true
is_other (Some stop.NotNow) = true
is_other (Some stop.Memory) = true

-- what workers met, all together
abbrev pub met_by : List (Option Stop) → Met
met_by mets = record { full = list_any is_full mets; other = list_any is_other mets }

-- what stopped the plan: a full log only where nobody met another refusal
abbrev pub refusal_of : Bool → Met → Halt
refusal_of full met =
    if met.other then halt.Memory
    else if full || met.full then halt.Full
    else halt.Memory

-- A fault or a limit that the feeder met comes first, then what stopped the plan.
abbrev pub ended_of : Result (Unit {0}) Cut → Met → Result (Unit {0}) Halt
ended_of (Ok u) met = Ok u
ended_of (Err cut.Read) met = Err halt.Read
ended_of (Err cut.Write) met = Err halt.Write
ended_of (Err cut.Limit) met = Err halt.Limit
ended_of (Err cut.Memory) met = Err halt.Memory
ended_of (Err cut.Full) met = Err (refusal_of true met)
ended_of (Err cut.Stopped) met = Err (refusal_of false met)
