use Rattle.std.proofs.Common.{◌≡◌, ℕ, take}
use Rattle.std.specs.Prelude.{None, if◌then◌else◌}
use Rattle.pl_semantics.specs.PlanStates.{among}
use Rattle.pl_update.specs.Evaluations.Kept.{kept_at}
use Rattle.pl_update.proofs.evaluations.evaluations.Evaluations.forget_all.Given as goal

abbrev pub invariant-loop-id : goal.invariant-loop-id
invariant-loop-id l = (q : ℕ) → kept_at q l.self ≡ (if among q (take l.id-index l.gone) then None else kept_at q l.initial.self)
