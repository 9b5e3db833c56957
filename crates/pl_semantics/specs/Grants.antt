-- How far a plan may be committed.
use Rattle.std.specs.Prelude.{◌≡◌, ℕ, ◌<◌, ◌≤◌, nat_lt, max, Bool, false, All}
use Rattle.pl_conflict.specs.declared.conflict.Conflict.{Conflict}
use Rattle.pl_semantics.specs.declared.plan_state.PlanState.{PlanState}
use Rattle.pl_semantics.specs.Conflicts.{conflicts_of}

-- a conflict touches what comes before a moment where it begins before it
abbrev pub touches_before : ℕ → Conflict → Bool
touches_before h k = nat_lt k.from h

-- A commit up to a moment is granted where it goes further than the present and than what is committed, and not past the horizon, and
-- no conflict touches what comes before it.
pub record IsGrantable (s : PlanState) (h : ℕ) : Type 0 where
  pub later : max s.committed s.moment < h
  pub within : h ≤ s.model.horizon
  pub untouched : All (λ k. touches_before h k ≡ false) (conflicts_of s)
