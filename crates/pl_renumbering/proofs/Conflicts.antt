-- All conflicts of a plan, under new ids.
use Rattle.std.proofs.Common.{◌≡◌, ℕ, length, refl, ap, ◌∙◌}
use Rattle.std.specs.Prelude.{map}
use Rattle.pl_conflict.specs.Sorting.{sorted}
use Rattle.pl_plan.specs.Trees.{IsRooted}
use Rattle.pl_semantics.specs.declared.plan_state.PlanState.{PlanState}
use Rattle.pl_semantics.specs.Conflicts.{conflicts_of}
use Rattle.pl_renumbering.specs.Renumbered.{KeepsOrder, renumbered_state, renumbered_conflict, IsRenumbered}
use Rattle.pl_renumbering.proofs.Lists.{both_mapped, length-mapped}
use Rattle.pl_renumbering.proofs.Sorted.{sorted_renumbered}
use Rattle.pl_renumbering.proofs.Goals.{goals_renumbered}
use Rattle.pl_renumbering.proofs.Wrong.{wrong_renumbered}
use Rattle.pl_renumbering.proofs.Links.{links_renumbered}
use Rattle.pl_renumbering.proofs.Timelines.{timelines_renumbered}

module _ (f : ℕ → ℕ) (next : ℕ) (s : PlanState) (keeps : KeepsOrder f) (rooted : IsRooted s.plan.activities) where
  pub conflicts_renumbered : conflicts_of (renumbered_state f next s) ≡ map (renumbered_conflict f) (conflicts_of s)
  unfolding conflicts_of
  conflicts_renumbered =
      ap sorted (both_mapped (renumbered_conflict f) _ _ _ _ (both_mapped (renumbered_conflict f) _ _ _ _ (both_mapped (renumbered_conflict f) _ _ _ _
      (goals_renumbered f next s)
      (wrong_renumbered f next s keeps rooted))
      (links_renumbered f next s keeps rooted))
      (timelines_renumbered f next s keeps rooted))
      ∙ sorted_renumbered f keeps _

  pub as_many_conflicts : length (conflicts_of (renumbered_state f next s)) ≡ length (conflicts_of s)
  as_many_conflicts = ap length conflicts_renumbered ∙ length-mapped (renumbered_conflict f) (conflicts_of s)

-- a state that is another under new ids is that one's image
pub is_image : (f : ℕ → ℕ) (s t : PlanState) → IsRenumbered f s t → t ≡ renumbered_state f t.next_id s
is_image f s t e = rw (← e.model, ← e.activities, ← e.goals, ← e.bases, ← e.moment, ← e.committed, ← e.limit) refl
