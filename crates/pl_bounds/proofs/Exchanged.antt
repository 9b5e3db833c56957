-- What is exchanged is what is asked for, where it stands.
use Rattle.std.proofs.Common.{◌≡◌, ℕ, ◌+◌, ◌≤◌, List, [], map, ap, ◌∙◌, subst, arith}
use Rattle.std.specs.Prelude.{All}
use Rattle.std.proofs.lemmas.List.Elements.{All-nil}
use Rattle.pl_plan.specs.declared.repair.RepairMove.{RepairMove}
use Rattle.pl_semantics.specs.declared.plan_state.PlanState.{PlanState}
use Rattle.pl_update.specs.Changes.Replaced.{with_plan}
use Rattle.pl_moves.specs.Changes.{gone_by, placed_by, IsOfActivities}
use Rattle.pl_moves.specs.Runs.{CanBeMade}
use Rattle.pl_semantics.specs.Legal.{left_after}
use Rattle.pl_semantics.specs.Moves.{applied}
use Rattle.pl_semantics.specs.Whole.{IsWhole}
use Rattle.pl_bounds.specs.Afterwards.{coming_at}
use Rattle.pl_bounds.specs.Asked.{IsAskedBy}
use Rattle.pl_bounds.specs.Exchanges.{IsExchange}
use Rattle.pl_bounds.specs.Marks.{count_of_states}
use Rattle.pl_bounds.specs.Moved.{demand_moved}
use Rattle.pl_bounds.specs.Plain.{count_of_plain}
use Rattle.pl_bounds.specs.Sides.{AreDifferent, IsOutsideOf, times_past}
use Rattle.pl_bounds.specs.Ties.{count_of_links}
use Rattle.pl_bounds.specs.declared.outside.Outside.{Outside}
use Rattle.pl_bounds.specs.declared.asking.Asking.{Asking}
use Rattle.pl_bounds.proofs.Pulled.{all_still}
use Rattle.pl_bounds.proofs.Summing.{can_place, leaves_all, once_gone, placed_is}

pub asked_so : (s : PlanState) (m : RepairMove) (a : Asking) → IsExchange s (gone_by s m) (placed_by s m) a.going.items a.coming.items → a.start ≡ 0 → IsAskedBy s (gone_by s m) (placed_by s m) a 0
asked_so s m a x start = record {
  going = x.goes;
  coming = ap (λ (n : ℕ). map (demand_moved n 0) a.coming.items) start ∙ (all_still a.coming.items ∙ x.comes);
}

-- ---- beside goals, activities and links

module _ (s : PlanState) (whole : IsWhole s) (next : s.next_id ≤ 3999999000) (m : RepairMove) (of : IsOfActivities m) (can : CanBeMade s m) where
  abbrev t : PlanState
  t = with_plan (gone_by s m) (placed_by s m) s

  pub with_times : (os : List Outside) → All (IsOutsideOf s) os → AreDifferent os → (k n l : ℕ) → k ≤ count_of_states t → n ≤ times_past t os → l ≤ k + n → count_of_plain (applied s m) + count_of_links (applied s m) + l ≤ left_after s m
  with_times os of_plan different k n l some few le =
      let all = leaves_all s m whole next can of os different (λ i d lt. (of_plan i d lt).limit) k n some few in
      omega (arith, all, le)

  -- what is asked for once it stands at a start is what is exchanged
  pub exchange_at : (a : Asking) (start : ℕ) → IsAskedBy s (gone_by s m) (placed_by s m) a start → IsExchange s (gone_by s m) (placed_by s m) a.going.items (coming_at a start)
  exchange_at a start asked = record { can = can_place s m whole next can of; once = once_gone s whole m; goes = asked.going; comes = asked.coming }

  -- conflicts of states that stand once it is exchanged stand once the move is made
  pub states_then : (n : ℕ) → n ≤ count_of_states t → n ≤ count_of_states (applied s m)
  states_then n few = subst (λ (u : PlanState). n ≤ count_of_states u) (placed_is s m whole next can of) few

  pub without_times : (k : ℕ) → k ≤ count_of_states t → count_of_plain (applied s m) + count_of_links (applied s m) + k ≤ left_after s m
  without_times k some = with_times [] (All-nil (IsOutsideOf s)) (λ i j d lt within. absurd (omega (arith, within))) k 0 k some (omega arith) (omega arith)
