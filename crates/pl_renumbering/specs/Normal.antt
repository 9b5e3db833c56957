-- The normal form of a plan state, in which ids are ranks, and states that are the same but for ids.
use Rattle.std.specs.Prelude.{◌≡◌, ℕ, zero, suc, ◌+◌, nat_lt, List, [], ◌∷◌, length}
use Rattle.pl_lists.specs.Lists.{front}
use Rattle.pl_plan.specs.declared.activity.Activity.{Activity}
use Rattle.pl_plan.specs.declared.repair.RepairMove.{RepairMove}
use Rattle.pl_semantics.specs.declared.plan_state.PlanState.{PlanState}
use Rattle.pl_renumbering.specs.Renumbered.{renumbered_state, renumbered_move}

-- how many activities, by rising id, stand before this id
abbrev pub rank : List Activity → ℕ → ℕ
rank activities id = length (front (λ (a : Activity). nat_lt a.id id) activities)

-- the state with ranks in the place of ids
abbrev pub normal_of : PlanState → PlanState
normal_of s = renumbered_state (rank s.plan.activities) (length s.plan.activities) s

-- the move with ranks in the place of ids
abbrev pub normal_move : PlanState → RepairMove → RepairMove
normal_move s m = renumbered_move (rank s.plan.activities) m

-- the same states but for ids, which stand in the same order
abbrev pub AreAlike : PlanState → PlanState → Type 0
AreAlike s t = normal_of s ≡ normal_of t

-- ---- back from ranks

-- the id of this rank; behind the live ones come those that are given from now on
abbrev pub id_from : ℕ → List Activity → ℕ → ℕ
id_from next [] n = next + n
id_from next (a ∷ more) zero = a.id
id_from next (a ∷ more) (suc n) = id_from next more n

abbrev pub id_at : PlanState → ℕ → ℕ
id_at s n = id_from s.next_id s.plan.activities n
