-- Conflicts of links and of orders of slots, under new ids.
use Rattle.std.proofs.Common.{◌≡◌, ℕ, Bool, true, false, Option, Some, None, refl, ap, ◌∙◌}
use Rattle.std.specs.Prelude.{◌||◌, map}
use Rattle.std.specs.Option.{option_map}
use Rattle.std.specs.List.{flat_map}
use Rattle.pl_conflict.specs.declared.conflict.Conflict.{Conflict}
use Rattle.pl_model.specs.declared.alternatives.Order.{Order}
use Rattle.pl_plan.specs.declared.activity.Activity.{Activity}
use Rattle.pl_plan.specs.Trees.{IsRooted}
use Rattle.pl_links.specs.Broken.{broken_by}
use Rattle.pl_semantics.specs.declared.plan_state.PlanState.{PlanState}
use Rattle.pl_semantics.specs.PlanStates.{is_ahead}
use Rattle.pl_semantics.specs.Links.{placed_of, placed_in, lone, place_in, order_at, unmet_from, unmet_order, link_conflict, conflict_of, links_at, link_conflicts}
use Rattle.pl_renumbering.specs.Renumbered.{KeepsOrder, renumbered, renumbered_state, renumbered_conflict}
use Rattle.pl_renumbering.specs.Carried.{renumbered_placed, renumbered_broken}
use Rattle.pl_renumbering.proofs.Lists.{map_mapped, flat_mapped}
use Rattle.pl_renumbering.proofs.Activities.{child_renumbered}
use Rattle.pl_renumbering.proofs.Pieces.{when_along, of_found_along}
use Rattle.pl_renumbering.proofs.Comings.{end_alike}
use Rattle.pl_renumbering.proofs.Broken.{broken_along}

module _ (f : ℕ → ℕ) (next : ℕ) (s : PlanState) (keeps : KeepsOrder f) (rooted : IsRooted s.plan.activities) where
  abbrev t : PlanState
  t = renumbered_state f next s

  abbrev new : Conflict → Conflict
  new = renumbered_conflict f

  -- ---- placed activities

  pub placed_along : (a : Activity) → placed_of t (renumbered f a) ≡ renumbered_placed f (placed_of s a)
  placed_along a = ap (λ o. record (renumbered_placed f (placed_of s a)) { end = o }) (end_alike f next s keeps rooted a)

  all_placed : placed_in t ≡ map (renumbered_placed f) (placed_in s)
  all_placed = map_mapped (renumbered f) (renumbered_placed f) (placed_of t) (placed_of s) placed_along s.plan.activities

  broken_too : (a : Activity) → broken_by s.model (placed_in t) (placed_of t (renumbered f a)) ≡ map (renumbered_broken f) (broken_by s.model (placed_in s) (placed_of s a))
  broken_too a =
      ap (λ items. broken_by s.model items (placed_of t (renumbered f a))) all_placed
      ∙ (ap (broken_by s.model (map (renumbered_placed f) (placed_in s))) (placed_along a) ∙ broken_along f keeps (placed_in s) s.model (placed_of s a))

  -- ---- the conflicts of what is broken

  pub place_along : (a : Activity) (slot : Option ℕ) → place_in t (renumbered f a) slot ≡ option_map (renumbered f) (place_in s a slot)
  place_along a None = refl
  place_along a (Some slot) = child_renumbered f keeps a.id slot s.plan.activities

  unmet_along : (a : Activity) (index : ℕ) (x y : Option Activity) → unmet_from t (renumbered f a) index (option_map (renumbered f) x) (option_map (renumbered f) y) ≡ map new (unmet_from s a index x y)
  unmet_along a index None y = refl
  unmet_along a index (Some x) None = refl
  unmet_along a index (Some x) (Some y) = when_along new _ (is_ahead s a || (is_ahead s x || is_ahead s y)) _ refl

  order_along : (a : Activity) (index : ℕ) (o : Order) → unmet_order t (renumbered f a) index o ≡ map new (unmet_order s a index o)
  order_along a index o =
      ap (λ x. unmet_from t (renumbered f a) index x (place_in t (renumbered f a) o.second)) (place_along a o.first)
      ∙ (ap (unmet_from t (renumbered f a) index (option_map (renumbered f) (place_in s a o.first))) (place_along a o.second)
      ∙ unmet_along a index (place_in s a o.first) (place_in s a o.second))

  link_along : (a : Activity) (slots : Bool) (index : ℕ) → link_conflict t (renumbered f a) slots index ≡ map new (link_conflict s a slots index)
  link_along a false index = when_along new _ (is_ahead s a) (lone a index) refl
  link_along a true index = of_found_along new (unmet_order t (renumbered f a) index) (unmet_order s a index) (order_along a index) (order_at s a index)

  links_along : (a : Activity) → links_at t (renumbered f a) ≡ map new (links_at s a)
  unfolding links_at
  links_along a =
      ap (flat_map (conflict_of t (renumbered f a))) (broken_too a)
      ∙ flat_mapped (renumbered_broken f) new (conflict_of t (renumbered f a)) (conflict_of s a) (λ b. link_along a b.slots b.index) (broken_by s.model (placed_in s) (placed_of s a))

  pub links_renumbered : link_conflicts (renumbered_state f next s) ≡ map (renumbered_conflict f) (link_conflicts s)
  links_renumbered = flat_mapped (renumbered f) new (links_at t) (links_at s) links_along s.plan.activities
