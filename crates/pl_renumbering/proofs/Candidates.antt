-- The candidates of a conflict, under new ids.
use Rattle.std.proofs.Common.{◌≡◌, ℕ, eqb, Bool, true, false, cond, List, [], ◌∷◌, Option, Some, None, refl, ap, ◌∙◌}
use Rattle.std.specs.Prelude.{◌&&◌, not, ℤ, map, filter, take}
use Rattle.std.specs.Ordering.{int_eq}
use Rattle.std.specs.Option.{option_map}
use Rattle.std.specs.List.{list_any}
use Rattle.pl_conflict.specs.declared.conflict.Conflict.{Conflict}
use Rattle.pl_conflict.specs.declared.conflict.Code.{Code}
use Rattle.pl_conflict.specs.declared.conflict.Code.TheVariants as code
use Rattle.pl_plan.specs.declared.activity.Activity.{Activity}
use Rattle.pl_plan.specs.declared.repair.RepairMove.{RepairMove}
use Rattle.pl_plan.specs.declared.repair.RepairMove.TheVariants.{Add, Delete, Shift, Detail, Abstract, Assign, Drop}
use Rattle.pl_plan.specs.Trees.{IsRooted}
use Rattle.pl_semantics.specs.declared.plan_state.PlanState.{PlanState}
use Rattle.pl_semantics.specs.PlanStates.{found, goal_at, of_found}
use Rattle.pl_semantics.specs.Starts.{moves_of}
use Rattle.pl_semantics.specs.Repairs.{for_goal, for_unset, for_bad_value, for_undetailed, for_overrun, for_temporal, for_linked}
use Rattle.pl_semantics.specs.LineRepairs.{for_must, for_bad_step}
use Rattle.std.specs.Prelude.{slice_index_or}
use Rattle.pl_semantics.specs.Moves.{is_proper}
use Rattle.pl_semantics.specs.Candidates.{tried_for, has_start, is_value, has_value, changes_nothing, is_worth, same_move, once_from, candidates_of}
use Rattle.pl_renumbering.specs.Renumbered.{KeepsOrder, names_activity, renumbered, renumbered_state, renumbered_conflict, renumbered_move}
use Rattle.pl_renumbering.proofs.Lists.{any_mapped, filter_mapped, take_mapped}
use Rattle.pl_renumbering.proofs.Numbers.{same_ids}
use Rattle.pl_renumbering.proofs.Pieces.{of_found_mapped, of_found_along}
use Rattle.pl_renumbering.proofs.Comings.{found_same, row_same}
use Rattle.pl_renumbering.proofs.Proper.{proper_same}
use Rattle.pl_renumbering.proofs.Starts.{moves_along}
use Rattle.pl_renumbering.proofs.Repairs.{goal_along, unset_along, bad_value_along, undetailed_along, overrun_along, temporal_along, linked_along}
use Rattle.pl_renumbering.proofs.LineRepairs.{over_along, low_along, high_along, must_along, bad_step_along}

module _ (f : ℕ → ℕ) (keeps : KeepsOrder f) where
  -- ---- repeats

  same_move_too : (m n : RepairMove) → same_move (renumbered_move f m) (renumbered_move f n) ≡ same_move m n
  same_move_too (Add kind start goal) (Add k t g) = refl
  same_move_too (Delete id) (Delete i) = same_ids f keeps id i
  same_move_too (Shift id start) (Shift i t) = ap (λ b. b && eqb start t) (same_ids f keeps id i)
  same_move_too (Detail id alternative) (Detail i a) = ap (λ b. b && eqb alternative a) (same_ids f keeps id i)
  same_move_too (Abstract id) (Abstract i) = same_ids f keeps id i
  same_move_too (Assign id param value) (Assign i p v) = ap (λ b. b && (eqb param p && int_eq value v)) (same_ids f keeps id i)
  same_move_too (Drop number) (Drop n) = refl
  same_move_too _ _ = refl

  once_along : (seen xs : List RepairMove) → once_from (map (renumbered_move f) seen) (map (renumbered_move f) xs) ≡ map (renumbered_move f) (once_from seen xs)
  once_along seen [] = refl
  once_along seen (m ∷ more) =
      rw (any_mapped (renumbered_move f) (same_move (renumbered_move f m)) (same_move m) (same_move_too m) seen)
      (by (list_any (same_move m) seen) (once_along seen more) (once_along (m ∷ seen) more))
    where
      by : (b : Bool) → once_from (map (renumbered_move f) seen) (map (renumbered_move f) more) ≡ map (renumbered_move f) (once_from seen more)
          → once_from (renumbered_move f m ∷ map (renumbered_move f) seen) (map (renumbered_move f) more) ≡ map (renumbered_move f) (once_from (m ∷ seen) more)
          → cond b (once_from (map (renumbered_move f) seen) (map (renumbered_move f) more)) (renumbered_move f m ∷ once_from (renumbered_move f m ∷ map (renumbered_move f) seen) (map (renumbered_move f) more))
          ≡ map (renumbered_move f) (cond b (once_from seen more) (m ∷ once_from (m ∷ seen) more))
      by true again first = again
      by false again first = ap (λ l. renumbered_move f m ∷ l) first

module _ (f : ℕ → ℕ) (next : ℕ) (s : PlanState) (keeps : KeepsOrder f) (rooted : IsRooted s.plan.activities) where
  abbrev t : PlanState
  t = renumbered_state f next s

  abbrev new : RepairMove → RepairMove
  new = renumbered_move f

  -- ---- all that are tried

  of_activity : (h k : Activity → List RepairMove) → ((a : Activity) → h (renumbered f a) ≡ map new (k a)) → (id : ℕ) → of_found h (found t (f id)) ≡ map new (of_found k (found s id))
  of_activity h k same id = ap (of_found h) (found_same f next s keeps id) ∙ of_found_mapped new (renumbered f) h k same (found s id)

  tried_by_code : (q : Conflict) (c : Code) → tried_for t (record q { subject = cond (names_activity c) (f q.subject) q.subject }) c ≡ map new (tried_for s q c)
  tried_by_code q code.OpenGoal = of_found_along new (for_goal t) (for_goal s) (goal_along f next s) (goal_at s q.subject)
  tried_by_code q code.OffGoal = of_activity (moves_of t) (moves_of s) (moves_along f next s keeps rooted) q.subject
  tried_by_code q code.Late = of_activity (moves_of t) (moves_of s) (moves_along f next s keeps rooted) q.subject
  tried_by_code q code.Unset = of_activity (λ a. for_unset t a q.detail) (λ a. for_unset s a q.detail) (λ a. unset_along f next s keeps rooted a q.detail) q.subject
  tried_by_code q code.BadValue = of_activity (for_bad_value t) (for_bad_value s) (bad_value_along f next s keeps rooted) q.subject
  tried_by_code q code.Undetailed = of_activity (for_undetailed t) (for_undetailed s) (undetailed_along f next s keeps rooted) q.subject
  tried_by_code q code.Overrun = of_activity (for_overrun t) (for_overrun s) (overrun_along f next s keeps rooted) q.subject
  tried_by_code q code.Temporal = of_activity (λ a. for_temporal t a q.detail) (λ a. for_temporal s a q.detail) (λ a. temporal_along f next s keeps rooted a q.detail) q.subject
  tried_by_code q code.Linked = of_activity (λ a. for_linked t a q.detail) (λ a. for_linked s a q.detail) (λ a. linked_along f next s keeps rooted a q.detail) q.subject
  tried_by_code q code.Over = over_along f next s keeps rooted q.subject q.a q.b
  tried_by_code q code.Low = low_along f next s keeps rooted q.subject q.a q.b
  tried_by_code q code.High = high_along f next s keeps rooted q.subject q.a q.b
  tried_by_code q code.Must = of_activity (λ a. for_must t a q.detail q.a) (λ a. for_must s a q.detail q.a) (λ a. must_along f next s keeps rooted a q.detail q.a) q.subject
  tried_by_code q code.BadStep = of_activity (λ a. for_bad_step t a q.detail q.a) (λ a. for_bad_step s a q.detail q.a) (λ a. bad_step_along f next s keeps rooted a q.detail q.a) q.subject

  -- ---- what is left out

  start_same : (start : ℕ) (o : Option Activity) → has_start start (option_map (renumbered f) o) ≡ has_start start o
  start_same start None = refl
  start_same start (Some a) = refl

  value_same : (n : ℕ) (v : ℤ) (o : Option Activity) → has_value t n v (option_map (renumbered f) o) ≡ has_value s n v o
  value_same n v None = refl
  value_same n v (Some a) = ap (λ row. is_value v (slice_index_or row n None)) (row_same f next s keeps rooted a)

  nothing_same : (m : RepairMove) → changes_nothing t (renumbered_move f m) ≡ changes_nothing s m
  nothing_same (Shift id start) = ap (has_start start) (found_same f next s keeps id) ∙ start_same start (found s id)
  nothing_same (Assign id param value) = ap (has_value t param value) (found_same f next s keeps id) ∙ value_same param value (found s id)
  nothing_same (Add kind start goal) = refl
  nothing_same (Delete id) = refl
  nothing_same (Detail id alternative) = refl
  nothing_same (Abstract id) = refl
  nothing_same (Drop number) = refl

  worth_same : (m : RepairMove) → is_worth t (renumbered_move f m) ≡ is_worth s m
  worth_same m = ap (λ b. b && not (changes_nothing t (renumbered_move f m))) (proper_same f next s keeps m) ∙ ap (λ b. is_proper s m && not b) (nothing_same m)

  pub candidates_along : (q : Conflict) → candidates_of t (renumbered_conflict f q) ≡ map new (candidates_of s q)
  unfolding candidates_of
  candidates_along q =
      ap (λ l. take 256 (once_from [] (filter (is_worth t) l))) (tried_by_code q q.code)
      ∙ (ap (λ l. take 256 (once_from [] l)) (filter_mapped new (is_worth t) (is_worth s) worth_same (tried_for s q q.code))
      ∙ (ap (take 256) (once_along f keeps [] (filter (is_worth s) (tried_for s q q.code)))
      ∙ take_mapped new 256 (once_from [] (filter (is_worth s) (tried_for s q q.code)))))
