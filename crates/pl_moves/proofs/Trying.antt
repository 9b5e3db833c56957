-- A board on which a move is made, and undone.
use Rattle.std.proofs.Common.{◌≡◌, ℕ, false, List, length, sym, ap, ◌∙◌, subst}
use Rattle.std.specs.Prelude.{min}
use Rattle.pl_conflict.specs.declared.conflict.Conflict.{Conflict}
use Rattle.pl_plan.specs.declared.activity.Activity.{Activity}
use Rattle.pl_plan.specs.declared.repair.RepairMove.{RepairMove}
use Rattle.pl_semantics.specs.declared.plan_state.PlanState.{PlanState}
use Rattle.pl_semantics.specs.Conflicts.{conflicts_of}
use Rattle.pl_semantics.specs.Legal.{left_after}
use Rattle.pl_semantics.specs.Moves.{applied}
use Rattle.pl_update.specs.Changes.Changes.{with_next}
use Rattle.pl_update.specs.Changes.Replaced.{CanReplace, with_plan}
use Rattle.pl_board.specs.Boards.{Standing, after}
use Rattle.pl_moves.specs.Undone.{IsUndoneBy}

module _ (before : Standing) (m : RepairMove) (gone : List ℕ) (placed : List Activity) (leaving : List ℕ) (returning : List Activity) (by : IsUndoneBy before.state m gone placed leaving returning) (then_ : Standing) (made : then_ ≡ after (with_plan gone placed before.state)) where
  -- the move is made
  pub made_then : then_ ≡ after (applied before.state m)
  made_then = made ∙ ap after by.made

  pub state_then : then_.state ≡ applied before.state m
  state_then = ap (λ (b : Standing). b.state) made_then

  pub counted_then : (n : ℕ) (ks : List Conflict) → ks ≡ conflicts_of then_.state → n ≡ min (length ks) 4294967295 → n ≡ min (left_after before.state m) 4294967295
  unfolding left_after
  counted_then n ks are is = is ∙ ap (λ (l : List Conflict). min (length l) 4294967295) (are ∙ ap conflicts_of state_then)

  pub can_undo_then : CanReplace then_.state leaving returning
  can_undo_then = subst (λ (s : PlanState). CanReplace s leaving returning) (sym state_then) by.can_undo

  module _ (last : Standing) (undone : last ≡ after (with_plan leaving returning then_.state)) where
    last_is : last ≡ after (with_plan leaving returning (applied before.state m))
    last_is = undone ∙ ap (λ (s : PlanState). after (with_plan leaving returning s)) state_then

    pub last_state : last.state ≡ with_plan leaving returning (applied before.state m)
    last_state = ap (λ (b : Standing). b.state) last_is

    pub home : before.spoiled ≡ false → (next : ℕ) → next ≡ before.state.next_id → (new : Standing) → new ≡ after (with_next next last.state) → new ≡ before
    home unspoiled next is new reset =
        reset
        ∙ (ap (λ (s : PlanState). after (with_next next s)) last_state
        ∙ (ap (λ (k : ℕ). after (with_next k (with_plan leaving returning (applied before.state m)))) is
        ∙ (ap after by.undone
        ∙ ap (λ b. record { spoiled = b; state = before.state }) (sym unspoiled))))
