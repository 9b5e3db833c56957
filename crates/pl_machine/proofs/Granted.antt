-- A granted commit changes no conflict.
use Rattle.std.proofs.Common.{◌≡◌, ℕ, ◌≤◌, arith}
use Rattle.pl_semantics.specs.declared.plan_state.PlanState.{PlanState}
use Rattle.pl_semantics.specs.Conflicts.{conflicts_of}
use Rattle.pl_semantics.specs.Grants.{IsGrantable}
use Rattle.pl_update.specs.Changes.Changes.{committed_to}
use Rattle.pl_update.proofs.AboutGoalsAndActivities.Granted.{committed_same}

pub granted_same : (s : PlanState) (h : ℕ) → IsGrantable s h → conflicts_of (committed_to h s) ≡ conflicts_of s
granted_same s h free =
    let later = free.later in
    let least : s.committed ≤ h = omega (arith, later) in
    committed_same s h least free.untouched
