-- What holds of every message that is read, with the model at hand.
use Rattle.std.specs.Prelude.{◌≡◌, ℕ, ℤ, pos, ◌^◌, ◌<◌, ◌≤◌, ◌≤ℤ◌, true, false, List, [], ◌∷◌, length, Option, Some, None, IfSome, slice_get, All}
use Rattle.pl_model.specs.declared.parameters.Param.{Param}
use Rattle.pl_model.specs.declared.timelines.Timeline.{Timeline}
use Rattle.pl_model.specs.declared.timelines.Timeline.TheVariants as timeline
use Rattle.pl_model.specs.declared.whole.Model.{Model}
use Rattle.pl_facts.specs.declared.goal.Goal.{Goal}
use Rattle.pl_msg.specs.declared.message.Message.{Message}
use Rattle.pl_msg.specs.declared.message.Message.TheVariants as message
use Rattle.pl_msg.specs.Names.{is_free}

abbrev pub HasFewStates : Timeline → Type 0
HasFewStates (timeline.Capacity name most) = Unit {0}
HasFewStates (timeline.Level name least most start) = Unit {0}
HasFewStates (timeline.States name states start any steps) = length states ≤ 2 ^ 32

-- Kinds, timelines and states can be numbered, as those of each checked model.
pub record IsNumbered (model : Model) : Type 0 where
  pub kinds : length model.kinds ≤ 2 ^ 32
  pub timelines : length model.timelines ≤ 2 ^ 32
  pub states : All HasFewStates model.timelines

-- none, or a value from low to high for a parameter that is declared without `=`
abbrev pub FitsParam : Param → Option ℤ → Type 0
FitsParam param None = Unit {0}
FitsParam param (Some value) = (is_free param.origin ≡ true) × (param.low ≤ℤ value) × (value ≤ℤ param.high)

-- one place for each parameter
abbrev pub FitParams : List Param → List (Option ℤ) → Type 0
FitParams [] [] = Unit {0}
FitParams (param ∷ params) (value ∷ values) = FitsParam param value × FitParams params values
FitParams _ _ = ⊥

pub record IsGoalFor (model : Model) (goal : Goal) : Type 0 where
  pub least : 1 ≤ goal.number
  pub most : goal.number ≤ 1000000000
  pub window : goal.earliest ≤ goal.latest
  pub horizon : goal.latest < model.horizon
  pub kind : goal.kind < length model.kinds
  pub presets : IfSome (slice_get model.kinds goal.kind) (λ kind. FitParams kind.params goal.presets)
  pub kept : goal.dropped ≡ false

-- a level timeline of the model
abbrev pub IsLevel : Timeline → Type 0
IsLevel (timeline.Capacity name most) = ⊥
IsLevel (timeline.Level name least most start) = Unit {0}
IsLevel (timeline.States name states start any steps) = ⊥

-- a state timeline with this state
abbrev pub HasState : ℕ → Timeline → Type 0
HasState state (timeline.Capacity name most) = ⊥
HasState state (timeline.Level name least most start) = ⊥
HasState state (timeline.States name states start any steps) = state < length states

-- Each number of the message is within its limits. The moment of a tick may be past the horizon, and the id of an activity may be any number.
abbrev pub IsWithin : Model → Message → Type 0
IsWithin model (message.Goal goal) = IsGoalFor model goal
IsWithin model (message.TeleLevel line value) = (line < length model.timelines) × IfSome (slice_get model.timelines line) IsLevel × (pos 0 ≤ℤ value) × (value ≤ℤ pos 1000000000000)
IsWithin model (message.TeleState line state) = (line < length model.timelines) × IfSome (slice_get model.timelines line) (HasState state)
IsWithin model (message.Tick moment) = Unit {0}
IsWithin model (message.Until id moment) = moment ≤ model.horizon
IsWithin model message.Halt = Unit {0}
IsWithin model message.End = Unit {0}
