-- Legal candidates, and which conflicts have some, under new ids.
use Rattle.std.proofs.Common.{◌≡◌, ℕ, ap, ◌∙◌}
use Rattle.std.specs.Prelude.{not, map, filter}
use Rattle.std.specs.List.{list_any}
use Rattle.pl_conflict.specs.declared.conflict.Conflict.{Conflict}
use Rattle.pl_plan.specs.Trees.{IsRooted}
use Rattle.pl_semantics.specs.declared.plan_state.PlanState.{PlanState}
use Rattle.pl_semantics.specs.Conflicts.{conflicts_of}
use Rattle.pl_semantics.specs.Candidates.{candidates_of}
use Rattle.pl_semantics.specs.Legal.{is_legal, legal_for, has_repair, repairable, is_stuck}
use Rattle.pl_renumbering.specs.Renumbered.{KeepsOrder, AgreesAhead, renumbered_state, renumbered_conflict, renumbered_move}
use Rattle.pl_renumbering.proofs.Lists.{any_mapped, filter_mapped}
use Rattle.pl_renumbering.proofs.Conflicts.{conflicts_renumbered}
use Rattle.pl_renumbering.proofs.Proper.{legal_same}
use Rattle.pl_renumbering.proofs.Candidates.{candidates_along}

module _ (f : ℕ → ℕ) (next : ℕ) (s : PlanState) (keeps : KeepsOrder f) (rooted : IsRooted s.plan.activities) (ahead : AgreesAhead f s (renumbered_state f next s)) where
  pub legal_along : (q : Conflict) → legal_for (renumbered_state f next s) (renumbered_conflict f q) ≡ map (renumbered_move f) (legal_for s q)
  unfolding legal_for
  legal_along q =
      ap (filter (is_legal (renumbered_state f next s))) (candidates_along f next s keeps rooted q)
      ∙ filter_mapped (renumbered_move f) (is_legal (renumbered_state f next s)) (is_legal s) (legal_same f next s keeps rooted ahead) (candidates_of s q)

  pub repair_same : (q : Conflict) → has_repair (renumbered_state f next s) (renumbered_conflict f q) ≡ has_repair s q
  repair_same q =
      ap (list_any (is_legal (renumbered_state f next s))) (candidates_along f next s keeps rooted q)
      ∙ any_mapped (renumbered_move f) (is_legal (renumbered_state f next s)) (is_legal s) (legal_same f next s keeps rooted ahead) (candidates_of s q)

  pub repairable_along : repairable (renumbered_state f next s) ≡ map (renumbered_conflict f) (repairable s)
  unfolding repairable
  repairable_along =
      ap (filter (has_repair (renumbered_state f next s))) (conflicts_renumbered f next s keeps rooted)
      ∙ filter_mapped (renumbered_conflict f) (has_repair (renumbered_state f next s)) (has_repair s) repair_same (conflicts_of s)

  pub stuck_same : is_stuck (renumbered_state f next s) ≡ is_stuck s
  unfolding is_stuck
  stuck_same =
      ap (λ ks. not (list_any (has_repair (renumbered_state f next s)) ks)) (conflicts_renumbered f next s keeps rooted)
      ∙ ap not (any_mapped (renumbered_conflict f) (has_repair (renumbered_state f next s)) (has_repair s) repair_same (conflicts_of s))
