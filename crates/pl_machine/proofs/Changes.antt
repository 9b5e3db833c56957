-- What each change of the plan state keeps.
use Rattle.std.proofs.Common.{◌≡◌, ℕ, ◌<◌, ℤ, [], true, false, refl, sym, ap, ◌∙◌, subst, arith, append-nil}
use Rattle.std.specs.Prelude.{Result, OnOk}
use Rattle.std.proofs.lemmas.Result.{on_ok_weaker}
use Rattle.pl_facts.specs.declared.goal.Goal.{Goal}
use Rattle.pl_plan.specs.Activities.{AreRising}
use Rattle.pl_entry.proofs.Growth.{due_grows}
use Rattle.pl_semantics.specs.declared.plan_state.PlanState.{PlanState}
use Rattle.pl_board.specs.Boards.{Standing, after}
use Rattle.pl_update.specs.Changes.Changes.{with_goal, told_now, moved_on}
use Rattle.pl_machine.specs.World.{due_in}
use Rattle.pl_machine.specs.declared.change.Change.{Change}
use Rattle.pl_machine.specs.declared.change.Change.TheVariants.{Tick}
use Rattle.pl_machine.specs.Changes.{is_tick, KeepsDue}
use Rattle.pl_machine.specs.Keeping.{KeepsStanding}

pub keeps_accept : (s : PlanState) (g : Goal) → KeepsStanding s (with_goal g s)
keeps_accept s g = record {
  model = refl;
  next_id = omega arith;
  due = ([], sym (append-nil (due_in s)));
  sendable = λ sendable. sendable;
}

pub keeps_tell : (s : PlanState) (line : ℕ) (value : ℤ) → KeepsStanding s (told_now line value s)
keeps_tell s line value = record {
  model = refl;
  next_id = omega arith;
  due = ([], sym (append-nil (due_in s)));
  sendable = λ sendable. sendable;
}

pub keeps_tick : (s : PlanState) (moment : ℕ) → AreRising s.plan.activities → s.moment < moment → KeepsStanding s (moved_on moment s)
keeps_tick s moment rising later = record {
  model = refl;
  next_id = omega arith;
  due = due_grows s.model s.plan.activities rising s.moment s.committed moment s.committed (omega arith) (omega arith);
  sendable = λ sendable. sendable;
}

-- of a board on which the change was made
pub keeps_on : {X E : Type 0} (r : Result X E) (s s2 : PlanState) (b : Standing) → KeepsStanding s s2 → OnOk r (b ≡ after s2) → OnOk r (KeepsStanding s b.state)
keeps_on r s s2 b keeps made = on_ok_weaker r (λ (e : b ≡ after s2). subst (λ (x : Standing). KeepsStanding s x.state) (sym e) keeps) made

pub due_on : {X E : Type 0} (r : Result X E) (change : Change) (s s2 : PlanState) (b : Standing) → KeepsDue change s s2 → OnOk r (b ≡ after s2) → OnOk r (KeepsDue change s b.state)
due_on r change s s2 b keeps made = on_ok_weaker r (λ (e : b ≡ after s2). subst (λ (x : Standing). KeepsDue change s x.state) (sym e) keeps) made

-- a tick may bring something
pub due_tick : (change : Change) (moment : ℕ) (s s2 : PlanState) → change ≡ Tick moment → KeepsDue change s s2
due_tick change moment s s2 is stays = absurd (let bad : true ≡ false = sym (ap is_tick is) ∙ stays in cc)
