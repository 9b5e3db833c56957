-- Passes of a plan, and what they have seen.
use Rattle.std.specs.Prelude.{◌≡◌, ◌+◌, ◌<◌, ◌≤◌, length, false, Some}
use Rattle.std.specs.List.{All}
use mathlib.Core.List.{IsPrefix}
use Rattle.pl_turn.specs.declared.pass.Pass.{Pass}
use Rattle.pl_turn.specs.History.{IsEachOnce, StandsIn, times_in}
use Rattle.pl_turn.specs.Passes.{IsPassOf, seen_of, counted_of, in_turn, opening_of, lists_of}
use Rattle.pl_marks.specs.Marks.{Signed}
use Rattle.pl_machine.specs.Legal.{Legal}
use Rattle.pl_machine.specs.Sound.{State}
use Rattle.pl_acts.specs.declared.noted.Noted.{Noted}
use Rattle.pl_acts.specs.declared.held.Held.{Held}
use Rattle.pl_acts.specs.Items.{Signs, items_of, model_in, opening_in}
use Rattle.pl_acts.specs.Seen.{IsPlan}
use Rattle.pl_locked.specs.declared.plan.SharedPlan.{SharedPlan}

-- a pass of the lock of a plan
abbrev pub PlanPass : Type 0
PlanPass = Pass Held Noted

-- The pass is one of the plan, out of its turn, and what it has seen is a plan.
pub record BelongsTo (plan : SharedPlan) (pass : PlanPass) : Type 0 where
  pub lock : IsPassOf plan.lock pass
  pub outside : in_turn pass ≡ false
  pub seen : IsPlan (seen_of pass)

-- The machine has the whole history, which begins with what the pass has seen. Each entry behind those that were handed in has one of these authors. Each place past the opening stands in one own list, the pass's or that of one that was joined.
pub record Closes (pass : PlanPass) (machine : State) (by : Signed) : Type 0 where
  pub signs : Signs
  pub signed : signs.by ≡ by
  pub some : 0 < by.opening
  pub each : by.opening + length by.authors ≡ length machine.log
  pub handed : opening_in (seen_of pass) ≡ Some by.opening
  pub legal : Legal machine.model machine.log
  pub model : model_in (seen_of pass) ≡ Some machine.model
  pub history : IsPrefix (seen_of pass) (items_of machine.model machine.log signs)
  pub counted : counted_of pass ≤ length (items_of machine.model machine.log signs)
  pub stands : All (StandsIn (items_of machine.model machine.log signs)) (lists_of pass)
  pub owners : IsEachOnce (opening_of pass) (length (items_of machine.model machine.log signs)) (λ place. times_in place (lists_of pass))
