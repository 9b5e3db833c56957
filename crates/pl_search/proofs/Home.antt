-- A board on which a move was made and taken back is as it was.
use Rattle.std.proofs.Common.{◌≡◌, ℕ, false, List, sym, ap, ◌∙◌, subst}
use Rattle.pl_plan.specs.declared.activity.Activity.{Activity}
use Rattle.pl_plan.specs.declared.repair.RepairMove.{RepairMove}
use Rattle.pl_semantics.specs.Moves.{applied}
use Rattle.pl_update.specs.Changes.Replaced.{with_plan}
use Rattle.pl_board.specs.Boards.{Standing, after}
use Rattle.pl_moves.specs.Undone.{IsUndoneBy}
use Rattle.pl_moves.proofs.Trying.{state_then}
use Rattle.pl_search.specs.declared.undo.Undo.{Undo}
use Rattle.pl_search.specs.Undos.{CanTakeBack, IsMadeForNow, taken_back}

module _ (before made middle : Standing) (u : Undo) (is : IsMadeForNow before.state u made) (same : middle ≡ made) where
  pub still_unspoiled : middle.spoiled ≡ false
  still_unspoiled = ap (λ (b : Standing). b.spoiled) same ∙ is.unspoiled

  pub can_still : CanTakeBack u middle.state
  can_still = subst (λ (b : Standing). CanTakeBack u b.state) (sym same) is.can

  pub home : before.spoiled ≡ false → (last : Standing) → last ≡ after (taken_back u middle.state) → last ≡ before
  home unspoiled last back =
      back
      ∙ (ap (λ (b : Standing). after (taken_back u b.state)) same
      ∙ (ap after is.back
      ∙ ap (λ b. record { spoiled = b; state = before.state }) (sym unspoiled)))

-- a move that was made can be taken back
pub made_for_now : (before : Standing) (m : RepairMove) (gone : List ℕ) (placed : List Activity) (leaving : List ℕ) (returning : List Activity) → IsUndoneBy before.state m gone placed leaving returning
    → (made : Standing) → made ≡ after (with_plan gone placed before.state) → (u : Undo) → u.change.gone.items ≡ leaving → u.change.placed.items ≡ returning → u.next ≡ before.state.next_id → IsMadeForNow before.state u made
made_for_now before m gone placed leaving returning by made is u leaves returns_ next =
    let now : made.state ≡ applied before.state m = state_then before m gone placed leaving returning by made is in
    record {
      unspoiled = ap (λ (b : Standing). b.spoiled) is;
      can = record {
        can = rw (now, leaves, returns_) by.can_undo;
        ids = rw (next, now, leaves, returns_) by.ids;
        next = rw (next, now, returns_) by.next;
      };
      back = rw (next, now, leaves, returns_) by.undone;
    }
