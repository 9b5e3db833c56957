-- Moves on two states of which one is the other under new ids.
use Rattle.std.proofs.Common.{◌≡◌, ℕ, sym, ap, ◌∙◌, subst}
use Rattle.std.specs.Option.{option_map}
use Rattle.std.specs.Prelude.{map}
use Rattle.pl_conflict.specs.declared.conflict.Conflict.{Conflict}
use Rattle.pl_plan.specs.declared.repair.RepairMove.{RepairMove}
use Rattle.pl_plan.specs.Trees.{IsRooted}
use Rattle.pl_semantics.specs.declared.plan_state.PlanState.{PlanState}
use Rattle.pl_semantics.specs.Moves.{is_proper, refusal_of, applied}
use Rattle.pl_semantics.specs.Candidates.{candidates_of}
use Rattle.pl_semantics.specs.Legal.{legal_for, has_repair, repairable, is_stuck, left_after}
use Rattle.pl_renumbering.specs.Renumbered.{KeepsOrder, AgreesAhead, IsRenumbered, renumbered_state, renumbered_conflict, renumbered_move, renumbered_refusal}
use Rattle.pl_renumbering.proofs.Conflicts.{is_image}
use Rattle.pl_renumbering.proofs.Proper.{proper_same, refusal_along}
use Rattle.pl_renumbering.proofs.Candidates.{candidates_along}
use Rattle.pl_renumbering.proofs.Legal.{legal_along, repair_same, repairable_along, stuck_same}
use Rattle.pl_renumbering.proofs.Applied.{applied_along, ahead_after, left_same}

-- an image is the state under new ids
pub of_image : (f : ℕ → ℕ) (next : ℕ) (s t : PlanState) → KeepsOrder f → t ≡ renumbered_state f next s → IsRenumbered f s t
of_image f next s t keeps e = record {
  order = keeps;
  model = ap (λ (u : PlanState). u.model) e;
  activities = ap (λ (u : PlanState). u.plan.activities) e;
  goals = ap (λ (u : PlanState). u.goals) e;
  bases = ap (λ (u : PlanState). u.bases) e;
  moment = ap (λ (u : PlanState). u.moment) e;
  committed = ap (λ (u : PlanState). u.committed) e;
  limit = ap (λ (u : PlanState). u.live_limit) e;
}

module _ (f : ℕ → ℕ) (s t : PlanState) (is : IsRenumbered f s t) where
  image : t ≡ renumbered_state f t.next_id s
  image = is_image f s t is

  pub candidates_too : (q : Conflict) → IsRooted s.plan.activities → candidates_of t (renumbered_conflict f q) ≡ map (renumbered_move f) (candidates_of s q)
  candidates_too q rooted = ap (λ u. candidates_of u (renumbered_conflict f q)) image ∙ candidates_along f t.next_id s is.order rooted q

  module _ (ahead : AgreesAhead f s t) (rooted : IsRooted s.plan.activities) where
    pub legal_too : (q : Conflict) → legal_for t (renumbered_conflict f q) ≡ map (renumbered_move f) (legal_for s q)
    legal_too q = ap (λ u. legal_for u (renumbered_conflict f q)) image ∙ legal_along f t.next_id s is.order rooted ahead q

    pub repair_too : (q : Conflict) → has_repair t (renumbered_conflict f q) ≡ has_repair s q
    repair_too q = ap (λ u. has_repair u (renumbered_conflict f q)) image ∙ repair_same f t.next_id s is.order rooted ahead q

    pub repairable_too : repairable t ≡ map (renumbered_conflict f) (repairable s)
    repairable_too = ap repairable image ∙ repairable_along f t.next_id s is.order rooted ahead

    pub stuck_too : is_stuck t ≡ is_stuck s
    stuck_too = ap is_stuck image ∙ stuck_same f t.next_id s is.order rooted ahead

module _ (f : ℕ → ℕ) (s t : PlanState) (m : RepairMove) (is : IsRenumbered f s t) where
  image_too : t ≡ renumbered_state f t.next_id s
  image_too = is_image f s t is

  pub proper_too : is_proper t (renumbered_move f m) ≡ is_proper s m
  proper_too = ap (λ u. is_proper u (renumbered_move f m)) image_too ∙ proper_same f t.next_id s is.order m

  module _ (ahead : AgreesAhead f s t) (rooted : IsRooted s.plan.activities) where
    pub refusal_too : refusal_of t (renumbered_move f m) ≡ option_map (renumbered_refusal f) (refusal_of s m)
    refusal_too = ap (λ u. refusal_of u (renumbered_move f m)) image_too ∙ refusal_along f t.next_id s is.order rooted ahead m

    after : applied t (renumbered_move f m) ≡ renumbered_state f (applied (renumbered_state f t.next_id s) (renumbered_move f m)).next_id (applied s m)
    after = ap (λ u. applied u (renumbered_move f m)) image_too ∙ applied_along f t.next_id s is.order rooted ahead m

    pub applied_too : IsRenumbered f (applied s m) (applied t (renumbered_move f m))
    applied_too = of_image f _ (applied s m) (applied t (renumbered_move f m)) is.order after

    pub ahead_too : AgreesAhead f (applied s m) (applied t (renumbered_move f m))
    ahead_too = subst (λ u. AgreesAhead f (applied s m) (applied u (renumbered_move f m))) (sym image_too) (ahead_after f t.next_id s is.order rooted ahead m)

    pub left_too : IsRooted (applied s m).plan.activities → left_after t (renumbered_move f m) ≡ left_after s m
    left_too rooted_then = ap (λ u. left_after u (renumbered_move f m)) image_too ∙ left_same f t.next_id s is.order rooted ahead m rooted_then
