use Rattle.std.proofs.Common.{◌≡◌, ℕ, take}
use Rattle.pl_update.specs.Evaluations.Kept.{kept_at}
use Rattle.pl_update.proofs.AboutEvaluations.Moving.{shifted_at}
use Rattle.pl_update.proofs.evaluations.evaluations.Evaluations.shift.Given as goal

abbrev pub invariant-loop-a : goal.invariant-loop-a
invariant-loop-a l = (q : ℕ) → kept_at q l.self ≡ shifted_at l.s.plan.activities q (kept_at q l.initial.self) (take l.a-index l.placed)
