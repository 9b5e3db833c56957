-- Conflicts of states that stand, each known by its sort, its activity and the place of its reservation.
use Rattle.std.specs.Prelude.{◌≡◌, ℕ, Bool, true, false, List, [], ◌∷◌, filter, length}
use Rattle.pl_conflict.specs.declared.conflict.Conflict.{Conflict}
use Rattle.pl_conflict.specs.declared.conflict.Code.{Code}
use Rattle.pl_conflict.specs.declared.conflict.Code.TheVariants as code
use Rattle.pl_conflict.specs.Order.{has}
use Rattle.pl_state.specs.Keys.{Has}
use Rattle.pl_semantics.specs.declared.plan_state.PlanState.{PlanState}
use Rattle.pl_semantics.specs.Conflicts.{conflicts_of}
use Rattle.pl_bounds.specs.declared.marks.Mark.{Mark}

-- a state that is needed and does not hold, or a step that is not allowed
abbrev pub is_of_states : Code → Bool
is_of_states code.Must = true
is_of_states code.BadStep = true
is_of_states _ = false

abbrev pub is_state_one : Conflict → Bool
is_state_one q = is_of_states q.code

-- how many of them stand
abbrev pub count_of_states : PlanState → ℕ
count_of_states s = length (filter is_state_one (conflicts_of s))

abbrev pub is_step : Code → Bool
is_step code.BadStep = true
is_step _ = false

abbrev pub mark_of : Code → ℕ → ℕ → Mark
mark_of why subject detail = record { is_step = is_step why; subject = subject; detail = detail }

-- a conflict stands that the mark tells of
pub record Stands (s : PlanState) (k : Mark) : Type 0 where
  pub q : Conflict
  pub there : has q (conflicts_of s) ≡ true
  pub states : is_of_states q.code ≡ true
  pub is : mark_of q.code q.subject q.detail ≡ k

-- none of these marks is there twice
abbrev pub AreOther : List Mark → Type 0
AreOther [] = Unit {0}
AreOther (k ∷ ks) = (Has k ks → ⊥) × AreOther ks

-- each tells of a conflict of its own
pub record AreMarks (s : PlanState) (ks : List Mark) : Type 0 where
  pub stand : (k : Mark) → Has k ks → Stands s k
  pub other : AreOther ks
