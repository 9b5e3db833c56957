-- What is due as the present moves on.
use Rattle.std.proofs.Common.{◌≡◌, ◌≤◌, true, refl, arith}
use Rattle.pl_semantics.specs.declared.plan_state.PlanState.{PlanState}
use Rattle.pl_machine.specs.World.{due_at, due_in}
use Rattle.pl_machine.specs.declared.change.Change.{Change}
use Rattle.pl_machine.specs.declared.change.Change.TheVariants.{Accept, Tell, Tick, Commit, Repair, Measure, Withdraw}
use Rattle.pl_machine.specs.Changes.{changed, is_tick, CanChange}

-- a tick leads on
pub ticks_on : (s : PlanState) (change : Change) → is_tick change ≡ true → CanChange s change → s.moment ≤ (changed change s).moment
ticks_on s (Accept goal) ticks can = absurd (cc)
ticks_on s (Tell line value) ticks can = absurd (cc)
ticks_on s (Tick moment) ticks can = let later = can.0 in omega (arith, later)
ticks_on s (Commit h) ticks can = absurd (cc)
ticks_on s (Repair m) ticks can = absurd (cc)
ticks_on s (Measure id moment) ticks can = absurd (cc)
ticks_on s Withdraw ticks can = absurd (cc)

-- and what was due before it is what was due at the earlier moment
pub ticks_from : (s : PlanState) (change : Change) → is_tick change ≡ true → due_in s ≡ due_at s.moment (changed change s)
ticks_from s (Accept goal) ticks = absurd (cc)
ticks_from s (Tell line value) ticks = absurd (cc)
ticks_from s (Tick moment) ticks = refl
ticks_from s (Commit h) ticks = absurd (cc)
ticks_from s (Repair m) ticks = absurd (cc)
ticks_from s (Measure id moment) ticks = absurd (cc)
ticks_from s Withdraw ticks = absurd (cc)
