-- What timelines are but for what they hold.
use Rattle.std.specs.Prelude.{◌≡◌, ℕ, false, List, [], map, All}
use Rattle.pl_model.specs.declared.timelines.Timeline.{Timeline}
use Rattle.pl_model.specs.declared.timelines.Timeline.TheVariants as timeline
use Rattle.pl_state.specs.Keys.{AreSorted}
use Rattle.pl_state.specs.Sets.{set_key}
use Rattle.pl_state.specs.Musts.{must_key}
use Rattle.pl_semantics.specs.declared.plan_state.PlanState.{PlanState}
use Rattle.pl_semantics.specs.PlanStates.{natural}
use Rattle.pl_semantics.specs.Demands.{demands_of, since, told}
use Rattle.pl_semantics.specs.Timelines.{lines_of}
use Rattle.pl_update.specs.declared.timelines.line.Line.{Line}
use Rattle.pl_update.specs.declared.timelines.line.Line.TheVariants.{Capacity, Level, States}
use Rattle.pl_update.specs.Timelines.Held.{Hold}

-- a timeline without what it holds
abbrev pub bare : Line → Line
bare (Capacity c) = Capacity (record c { uses = [] })
bare (Level l) = Level (record l { effects = [] })
bare (States x) = States (record x { sets = []; musts = [] })

-- a timeline of the model that holds nothing, with its base, at the present
abbrev pub idle : PlanState → ℕ × Timeline → Line
idle s (line, timeline.Capacity name most) = Capacity (record { spoiled = false; horizon = s.model.horizon; most = most; moment = s.moment; uses = [] })
idle s (line, timeline.Level name least most start) = Level (record { spoiled = false; horizon = s.model.horizon; least = least; most = most; moment = s.moment; base = since s line; value = told s line; effects = [] })
idle s (line, timeline.States name states start any steps) = States (record { spoiled = false; horizon = s.model.horizon; any = any; steps = steps; moment = s.moment; base = since s line; value = natural (told s line); sets = []; musts = [] })

-- they are the timelines of the model, with the bases that were told, at the present
abbrev pub AreFramed : PlanState → List Line → Type 0
AreFramed s lines = map bare lines ≡ map (idle s) (lines_of s)

-- sets stand by moment, id and index, and musts by id and index
abbrev pub IsOrdered : Line → Type 0
IsOrdered (Capacity c) = Unit {0}
IsOrdered (Level l) = Unit {0}
IsOrdered (States x) = AreSorted set_key x.sets × AreSorted must_key x.musts

abbrev pub AreOrdered : List Line → Type 0
AreOrdered lines = All IsOrdered lines

-- the timelines of a plan state hold what its activities ask for
pub record AreLinesOf (s : PlanState) (lines : List Line) : Type 0 where
  pub framed : AreFramed s lines
  pub ordered : AreOrdered lines
  pub hold : Hold lines (demands_of s)
