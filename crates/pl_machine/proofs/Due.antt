-- What comes to be due: the ids of the starts that a look finds, in their order.
use Rattle.std.proofs.Common.{◌≡◌, ℕ, ◌≤◌, List, [], ◌++◌, map, ◌∙◌, ap, sym}
use Rattle.pl_entry.specs.Due.{with_starts, due_since}
use Rattle.pl_entry.proofs.DueOn.{due_goes_on}
use Rattle.pl_plan.specs.Activities.{AreRising}
use Rattle.pl_semantics.specs.declared.plan_state.PlanState.{PlanState}
use Rattle.pl_machine.specs.declared.period.Period.{Period}
use Rattle.pl_machine.specs.World.{due_in, due_at}
use Rattle.pl_machine.specs.Looking.{starts_in}

pub due_on : (s : PlanState) (p : Period) (old new : List ℕ) (starts : List (ℕ × ℕ)) → AreRising s.plan.activities → p.before ≤ s.moment → p.moment ≡ s.moment → p.committed ≡ s.committed
    → old ≡ due_at p.before s → starts ≡ with_starts [] (starts_in s.model p s.plan.activities) → new ≡ old ++ map (λ x. x.1) starts → new ≡ due_in s
unfolding due_since
due_on s p old new starts rising le moment committed listed found pushed =
    pushed ∙ ap (λ l. l ++ map (λ (x : ℕ × ℕ). x.1) starts) listed
    ∙ ap (λ (l : List (ℕ × ℕ)). due_at p.before s ++ map (λ (x : ℕ × ℕ). x.1) l) (found ∙ ap (λ (m : ℕ). with_starts [] (starts_in s.model (record { before = p.before; moment = m; committed = p.committed }) s.plan.activities)) moment ∙ ap (λ (d : ℕ). with_starts [] (starts_in s.model (record { before = p.before; moment = s.moment; committed = d }) s.plan.activities)) committed)
    ∙ sym (due_goes_on s.model s.plan.activities rising p.before s.moment s.committed le)
