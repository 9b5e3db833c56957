use Rattle.std.proofs.Common.{◌≡◌, ℕ, take, map}
use Rattle.std.specs.Prelude.{if◌then◌else◌}
use Rattle.pl_plan.specs.Trees.{id_of}
use Rattle.pl_semantics.specs.PlanStates.{among}
use Rattle.pl_update.specs.Evaluations.Kept.{kept_at, come_to}
use Rattle.pl_update.proofs.evaluations.evaluations.Evaluations.evaluate_all.Given as goal

abbrev pub invariant-loop-a : goal.invariant-loop-a
invariant-loop-a l = (q : ℕ) → kept_at q l.self ≡ (if among q (map id_of (take l.a-index l.placed)) then come_to l.s.model l.s.plan.activities q else kept_at q l.initial.self)
