-- The moves of starts that are tried, under new ids.
use Rattle.std.proofs.Common.{◌≡◌, ℕ, leb, ltb, Bool, true, false, cond, List, [], ◌∷◌, Option, Some, None, refl, ap, ◌∙◌}
use Rattle.std.specs.Prelude.{◌&&◌, ℤ, pos, negsuc, map}
use Rattle.std.specs.Int.{int_min, int_max}
use Rattle.std.specs.Option.{option_map}
use Rattle.std.specs.List.{flat_map}
use Rattle.pl_model.specs.declared.kinds.Kind.{Kind}
use Rattle.pl_plan.specs.declared.activity.Activity.{Activity}
use Rattle.pl_plan.specs.declared.repair.RepairMove.{RepairMove}
use Rattle.pl_plan.specs.declared.repair.RepairMove.TheVariants.{Add, Delete}
use Rattle.pl_plan.specs.Trees.{IsRooted, root_of}
use Rattle.pl_semantics.specs.declared.plan_state.PlanState.{PlanState}
use Rattle.pl_semantics.specs.PlanStates.{found, of_found}
use Rattle.pl_semantics.specs.Starts.{spread, starting, floor_at, last_of, window_of, places_of, shift_to, shifts_of, above_it, delete_root, moves_of, adds_of, help_until}
use Rattle.pl_renumbering.specs.Renumbered.{KeepsOrder, renumbered, renumbered_state, renumbered_move}
use Rattle.pl_renumbering.proofs.Lists.{flat_along, both_mapped}
use Rattle.pl_renumbering.proofs.Pieces.{of_found_mapped}
use Rattle.pl_renumbering.proofs.Activities.{root_renumbered}
use Rattle.pl_renumbering.proofs.Comings.{served_by_same, found_same}

module _ (f : ℕ → ℕ) (next : ℕ) (s : PlanState) where
  pub starting_along : (make make' : ℕ → RepairMove) → ((n : ℕ) → make' n ≡ renumbered_move f (make n)) → (z : ℤ) → starting (renumbered_state f next s) make' z ≡ map (renumbered_move f) (starting s make z)
  starting_along make make' same (negsuc n) = refl
  starting_along make make' same (pos n) = rw (same n) (by (leb 1 n && ltb n s.model.horizon))
    where
      by : (b : Bool) → cond b (renumbered_move f (make n) ∷ []) [] ≡ map (renumbered_move f) (cond b (make n ∷ []) [])
      by true = refl
      by false = refl

  pub adds_along : (starts : List ℤ) (kind : ℕ) → adds_of (renumbered_state f next s) starts kind ≡ map (renumbered_move f) (adds_of s starts kind)
  adds_along starts kind = flat_along (renumbered_move f) (starting (renumbered_state f next s) (λ start. Add kind start None)) (starting s (λ start. Add kind start None))
      (starting_along (λ start. Add kind start None) (λ start. Add kind start None) (λ n. refl)) starts

  pub help_along : (kinds : List (ℕ × Kind)) (m : ℕ) → help_until (renumbered_state f next s) kinds m ≡ map (renumbered_move f) (help_until s kinds m)
  help_along kinds m =
      let starts : List ℤ = spread (floor_at s) (int_max (floor_at s) (int_min (pos m) (last_of s))) in
      flat_along (renumbered_move f) (λ k. adds_of (renumbered_state f next s) starts k.0) (λ k. adds_of s starts k.0) (λ k. adds_along starts k.0) kinds

  pub shifting_along : (id : ℕ) (z : ℤ) → starting (renumbered_state f next s) (shift_to (f id)) z ≡ map (renumbered_move f) (starting s (shift_to id) z)
  shifting_along id z = starting_along (shift_to id) (shift_to (f id)) (λ n. refl) z

  places_same : (a : Activity) → places_of (renumbered_state f next s) (renumbered f a) ≡ places_of s a
  places_same a = ap (λ g. floor_at s ∷ window_of s g) (served_by_same f next s a)

  shifts_along : (a : Activity) → shifts_of (renumbered_state f next s) (renumbered f a) ≡ map (renumbered_move f) (shifts_of s a)
  shifts_along a =
      ap (flat_map (starting (renumbered_state f next s) (shift_to (f a.id)))) (places_same a)
      ∙ flat_along (renumbered_move f) (starting (renumbered_state f next s) (shift_to (f a.id))) (starting s (shift_to a.id)) (shifting_along a.id) (places_of s a)

  module _ (keeps : KeepsOrder f) (rooted : IsRooted s.plan.activities) where
    above_along : (a : Activity) → above_it (renumbered_state f next s) (renumbered f a) ≡ option_map (renumbered f) (above_it s a)
    above_along a = by a.parent
      where
        by : (o : Option (ℕ × ℕ)) → above_it (renumbered_state f next s) (renumbered f (record a { parent = o })) ≡ option_map (renumbered f) (above_it s (record a { parent = o }))
        by None = refl
        by (Some p) = ap (found (renumbered_state f next s)) (root_renumbered f keeps s.plan.activities rooted a.id) ∙ found_same f next s keeps (root_of a.id s.plan.activities)

    pub delete_along : (a : Activity) → delete_root (renumbered_state f next s) (renumbered f a) ≡ map (renumbered_move f) (delete_root s a)
    delete_along a = ap (λ id. Delete id ∷ []) (root_renumbered f keeps s.plan.activities rooted a.id)

    pub moves_along : (a : Activity) → moves_of (renumbered_state f next s) (renumbered f a) ≡ map (renumbered_move f) (moves_of s a)
    unfolding moves_of
    moves_along a = both_mapped (renumbered_move f) _ _ _ _ (both_mapped (renumbered_move f) _ _ _ _ (shifts_along a)
        (ap (of_found (shifts_of (renumbered_state f next s))) (above_along a) ∙ of_found_mapped (renumbered_move f) (renumbered f) (shifts_of (renumbered_state f next s)) (shifts_of s) shifts_along (above_it s a)))
        (delete_along a)
