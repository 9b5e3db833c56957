-- Level and state timelines have a base.
use Rattle.std.proofs.Common.{◌≡◌, ℕ, Option, Some, None, refl}
use Rattle.std.specs.Prelude.{ℤ, IsSome, slice_get}
use Rattle.pl_model.specs.declared.timelines.Timeline.{Timeline}
use Rattle.pl_model.specs.Checked.{IsLevelLine}
use Rattle.pl_facts.specs.Bases.{base_of}
use Rattle.pl_semantics.specs.declared.plan_state.PlanState.{PlanState}
use Rattle.pl_semantics.specs.Whole.{IsWhole}
use Rattle.pl_detect.specs.Based.{IsToldBy, IsStateLine}
use Rattle.pl_detect.proofs.Grounds.{level_limits, states_limits}

some_told : (moment most : ℕ) (o : Option (ℤ × ℤ)) → IsToldBy moment most o → IsSome o
some_told moment most None told = absurd told
some_told moment most (Some x) told = refl

pub level_told : (s : PlanState) → IsWhole s → (line : ℕ) (t : Timeline) → slice_get s.model.timelines line ≡ Some t → IsLevelLine (Some t) → IsSome (base_of line s.bases)
level_told s whole line t is level = some_told s.moment 1000000000000 (base_of line s.bases) (level_limits s whole line t is level)

pub state_told : (s : PlanState) → IsWhole s → (line : ℕ) (t : Timeline) → slice_get s.model.timelines line ≡ Some t → IsStateLine (Some t) → IsSome (base_of line s.bases)
state_told s whole line t is states = some_told s.moment 32 (base_of line s.bases) (states_limits s whole line t is states)
