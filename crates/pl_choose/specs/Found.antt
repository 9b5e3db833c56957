-- What is found on the way to a proposal.
use Rattle.std.specs.Prelude.{◌≡◌, ℕ, nat_lt, cond, true, false, find, List, [], ◌∷◌, Option, Some, None}
use Rattle.pl_conflict.specs.declared.conflict.Conflict.{Conflict}
use Rattle.pl_plan.specs.declared.repair.RepairMove.{RepairMove}
use Rattle.pl_semantics.specs.declared.plan_state.PlanState.{PlanState}
use Rattle.pl_semantics.specs.Conflicts.{conflicts_of}
use Rattle.pl_semantics.specs.Moves.{is_proper}
use Rattle.pl_semantics.specs.Legal.{has_repair, legal_for}
use Rattle.pl_moves.specs.Runs.{CanBeMade}
use Rattle.pl_choose.specs.declared.repairs.Repairs.{Repairs}

-- the conflict with its legal candidates, or none if it has none
abbrev pub AreFor : PlanState → Conflict → Option Repairs → Type 0
AreFor s k None = has_repair s k ≡ false
AreFor s k (Some r) = (has_repair s k ≡ true) × (r.conflict ≡ k) × (r.moves.items ≡ legal_for s k)

-- the first conflict that has a legal candidate, with its legal candidates, or none if no conflict has one
abbrev pub AreFirst : PlanState → Option Repairs → Type 0
AreFirst s None = find (has_repair s) (conflicts_of s) ≡ None
AreFirst s (Some r) = (find (has_repair s) (conflicts_of s) ≡ Some r.conflict) × (r.moves.items ≡ legal_for s r.conflict)

abbrev pub IsProper : PlanState → RepairMove → Type 0
IsProper s m = is_proper s m ≡ true

-- it makes sense, and nothing refuses it
abbrev pub IsAllowed : PlanState → RepairMove → Type 0
IsAllowed = CanBeMade

-- ---- the lowest of some

-- the lower of two by this number, the first if both have the same
abbrev pub lower : {X : Type 0} → (X → ℕ) → X → X → X
lower f x y = cond (nat_lt (f y) (f x)) y x

-- the lowest of one and some others, the first among equals
abbrev pub lowest : {X : Type 0} → (X → ℕ) → X → List X → X
lowest f x [] = x
lowest f x (y ∷ more) = lowest f (lower f x y) more
