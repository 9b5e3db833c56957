-- How far a commit is to go.
use Rattle.std.specs.Prelude.{ℕ, ◌+◌, ◌≤◌, min, Bool, true, false, List, All, Option, Some, None}
use Rattle.pl_conflict.specs.declared.conflict.Conflict.{Conflict}
use Rattle.pl_model.specs.declared.whole.Model.{Model}

-- how far ahead of the present a commit goes when nothing holds it: the lead, or one moment from a halt to the next tick
abbrev pub lead_of : Model → Bool → ℕ
lead_of model true = 1
lead_of model false = model.lead

-- that far from the present, and not past the horizon
abbrev pub target_of : Model → ℕ → Bool → ℕ
target_of model now halted = min (now + lead_of model halted) model.horizon

-- the furthest commit up to the target before which no conflict stands, by the first conflict
abbrev pub best_of : Model → ℕ → Bool → Option Conflict → ℕ
best_of model now halted None = target_of model now halted
best_of model now halted (Some first) = min (target_of model now halted) first.from

-- the furthest moment up to the target such that no conflict stands before it
pub record IsBest (model : Model) (now : ℕ) (halted : Bool) (conflicts : List Conflict) (h : ℕ) : Type 0 where
  pub within : h ≤ target_of model now halted
  pub untouched : All (λ k. h ≤ k.from) conflicts
  pub furthest : (other : ℕ) → other ≤ target_of model now halted → All (λ k. other ≤ k.from) conflicts → other ≤ h
