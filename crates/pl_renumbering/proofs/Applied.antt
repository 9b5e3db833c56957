-- What a move makes of a plan, under new ids.
use Rattle.std.proofs.Common.{◌≡◌, ℕ, suc, ◌+◌, eqb, Bool, true, false, cond, List, [], ◌∷◌, ◌++◌, length, Option, Some, None, refl, sym, ap, ◌∙◌, arith}
use Rattle.std.specs.Prelude.{map}
use Rattle.std.specs.Option.{option_map}
use Rattle.std.proofs.lemmas.List.{map-append}
use Rattle.pl_plan.specs.declared.activity.Activity.{Activity}
use Rattle.pl_plan.specs.declared.repair.RepairMove.{RepairMove}
use Rattle.pl_plan.specs.declared.repair.RepairMove.TheVariants.{Add, Delete, Shift, Detail, Abstract, Assign, Drop}
use Rattle.pl_plan.specs.Trees.{IsRooted}
use Rattle.pl_plan.specs.Moves.{without_below, abstracted}
use Rattle.pl_semantics.specs.declared.plan_state.PlanState.{PlanState}
use Rattle.pl_semantics.specs.PlanStates.{found}
use Rattle.pl_semantics.specs.Conflicts.{conflicts_of}
use Rattle.pl_semantics.specs.Moves.{is_under, root_for, moved, changed_where, detailed, with_value, shifted, has_id, count_of_new, applied}
use Rattle.pl_semantics.specs.Legal.{left_after}
use Rattle.pl_renumbering.specs.Renumbered.{KeepsOrder, AgreesAhead, renumbered, renumbered_all, renumbered_state, renumbered_move}
use Rattle.pl_renumbering.proofs.Lists.{map_mapped, both_mapped}
use Rattle.pl_renumbering.proofs.Numbers.{same_ids}
use Rattle.pl_renumbering.proofs.Activities.{without_subtree_renumbered, without_below_renumbered}
use Rattle.pl_renumbering.proofs.Comings.{found_same}
use Rattle.pl_renumbering.proofs.Changes.{under_same, root_along, children_along, count_same}
use Rattle.pl_renumbering.proofs.Conflicts.{as_many_conflicts}

module _ (f : ℕ → ℕ) (next : ℕ) (s : PlanState) (keeps : KeepsOrder f) (rooted : IsRooted s.plan.activities) where
  abbrev t : PlanState
  t = renumbered_state f next s

  changed_along : (p q : Activity → Bool) (change : Activity → Activity) → ((a : Activity) → p (renumbered f a) ≡ q a) → ((a : Activity) → change (renumbered f a) ≡ renumbered f (change a)) → (xs : List Activity)
      → changed_where p change (renumbered_all f xs) ≡ renumbered_all f (changed_where q change xs)
  changed_along p q change same alike xs = map_mapped (renumbered f) (renumbered f) (λ a. cond (p a) (change a) a) (λ a. cond (q a) (change a) a) one xs
    where
      one : (a : Activity) → cond (p (renumbered f a)) (change (renumbered f a)) (renumbered f a) ≡ renumbered f (cond (q a) (change a) a)
      one a = rw (same a) (by (q a))
        where
          by : (b : Bool) → cond b (change (renumbered f a)) (renumbered f a) ≡ renumbered f (cond b (change a) a)
          by true = alike a
          by false = refl

  shifted_along : (to : ℕ) (o : Option Activity) → shifted t to (option_map (renumbered f) o) ≡ renumbered_all f (shifted s to o)
  shifted_along to None = refl
  shifted_along to (Some a) = changed_along (is_under t (f a.id)) (is_under s a.id) (moved a.start to) (under_same f next s keeps rooted a.id) (λ x. refl) s.plan.activities

  abstracted_along : (id : ℕ) (a : Activity) → abstracted (f id) (renumbered f a) ≡ renumbered f (abstracted id a)
  abstracted_along id a = rw (same_ids f keeps a.id id) (by (eqb a.id id))
    where
      by : (b : Bool) → cond b (record (renumbered f a) { detail = None }) (renumbered f a) ≡ renumbered f (cond b (record a { detail = None }) a)
      by true = refl
      by false = refl

  -- the activities that a state gets
  abbrev with_all : ℕ → List Activity → PlanState
  with_all id xs = record s { plan = record { activities = xs }; next_id = id }

  module _ (ahead : AgreesAhead f s t) where
    pub applied_along : (m : RepairMove) → applied t (renumbered_move f m) ≡ renumbered_state f (applied t (renumbered_move f m)).next_id (applied s m)
    unfolding applied
    applied_along (Add kind start goal) =
        ap (with_all (suc next)) (ap (λ a. renumbered_all f s.plan.activities ++ a ∷ []) (root_along f next s keeps rooted ahead kind start goal) ∙ sym (map-append (renumbered f) s.plan.activities (root_for s kind start goal ∷ [])))
    applied_along (Delete id) = ap (with_all next) (without_subtree_renumbered f keeps s.plan.activities rooted id)
    applied_along (Shift id start) = ap (with_all next) (ap (shifted t start) (found_same f next s keeps id) ∙ shifted_along start (found s id))
    applied_along (Detail id alternative) =
        ap (with_all (next + count_of_new t (Detail (f id) alternative)))
        (both_mapped (renumbered f) _ _ _ _ (changed_along (has_id (f id)) (has_id id) (detailed alternative) (λ a. same_ids f keeps a.id id) (λ a. refl) s.plan.activities) (children_along f next s keeps rooted ahead id alternative))
    applied_along (Abstract id) =
        ap (with_all next) (ap (map (abstracted (f id))) (without_below_renumbered f keeps s.plan.activities rooted id)
        ∙ map_mapped (renumbered f) (renumbered f) (abstracted (f id)) (abstracted id) (abstracted_along id) (without_below id s.plan.activities))
    applied_along (Assign id param value) = ap (with_all next) (changed_along (has_id (f id)) (has_id id) (with_value param value) (λ a. same_ids f keeps a.id id) (λ a. refl) s.plan.activities)
    applied_along (Drop number) = refl

    -- the ids given after the move are each other's again
    pub ahead_after : (m : RepairMove) → AgreesAhead f (applied s m) (applied t (renumbered_move f m))
    unfolding applied
    ahead_after (Add kind start goal) n =
        let here : suc s.next_id + n ≡ s.next_id + suc n = omega arith in
        let there : next + suc n ≡ suc next + n = omega arith in
        ap f here ∙ (ahead (suc n) ∙ there)
    ahead_after (Detail id alternative) n =
        let new : ℕ = count_of_new s (Detail id alternative) in
        let here : (s.next_id + new) + n ≡ s.next_id + (new + n) = omega arith in
        let there : next + (new + n) ≡ (next + new) + n = omega arith in
        ap f here ∙ (ahead (new + n) ∙ (there ∙ ap (λ c. (next + c) + n) (sym (count_same f next s keeps rooted ahead (Detail id alternative)))))
    ahead_after (Delete id) n = ahead n
    ahead_after (Shift id start) n = ahead n
    ahead_after (Abstract id) n = ahead n
    ahead_after (Assign id param value) n = ahead n
    ahead_after (Drop number) n = ahead n

    pub left_same : (m : RepairMove) → IsRooted (applied s m).plan.activities → left_after t (renumbered_move f m) ≡ left_after s m
    unfolding left_after
    left_same m rooted_then = ap (λ u. length (conflicts_of u)) (applied_along m) ∙ as_many_conflicts f (applied t (renumbered_move f m)).next_id (applied s m) keeps rooted_then
