-- The moves that are tried for what is wrong with goals, activities and links, under new ids.
use Rattle.std.proofs.Common.{◌≡◌, ℕ, eqb, Bool, true, false, cond, List, [], ◌∷◌, Option, Some, None, refl, ap, ◌∙◌}
use Rattle.std.specs.Prelude.{ℤ, pos, ◌+ℤ◌, ◌-ℤ◌, map, filter, slice_get, option_and_then}
use Rattle.std.specs.Int.{int_min, int_max}
use Rattle.std.specs.Option.{option_map}
use Rattle.std.specs.List.{flat_map}
use Rattle.pl_facts.specs.declared.goal.Goal.{Goal}
use Rattle.pl_model.specs.declared.parameters.Param.{Param}
use Rattle.pl_model.specs.declared.reservations.Point.{Point}
use Rattle.pl_model.specs.declared.links.Link.{Link}
use Rattle.pl_model.specs.declared.alternatives.Order.{Order}
use Rattle.pl_plan.specs.declared.activity.Activity.{Activity}
use Rattle.pl_plan.specs.declared.repair.RepairMove.{RepairMove}
use Rattle.pl_plan.specs.declared.repair.RepairMove.TheVariants.{Add, Detail, Abstract, Assign, Drop}
use Rattle.pl_plan.specs.Trees.{IsRooted}
use Rattle.pl_links.specs.Broken.{point_of, moment_of, links_of}
use Rattle.pl_semantics.specs.declared.plan_state.PlanState.{PlanState}
use Rattle.pl_semantics.specs.PlanStates.{found, end_at, numbered, of_found}
use Rattle.pl_semantics.specs.Activities.{params_at, bindings_of}
use Rattle.pl_semantics.specs.Links.{placed_of, order_at, place_in}
use Rattle.pl_semantics.specs.Moves.{is_free, alternatives_at}
use Rattle.pl_semantics.specs.Starts.{spread, starting, floor_at, last_of, shift_to}
use Rattle.pl_semantics.specs.Repairs.{for_goal, assigns, assigns_one, for_unset, all_assigns, parent_at, for_bad_value, for_undetailed, end_by, for_overrun, partner_start, least_of, kind_at, partners_at, partners_for, for_temporal, shift_one, order_shifts, shifts_apart, shifts_between, for_order, for_linked}
use Rattle.pl_renumbering.specs.Renumbered.{KeepsOrder, renumbered_place, renumbered, renumbered_state, renumbered_move}
use Rattle.pl_renumbering.proofs.Lists.{map_along, flat_along, both_mapped}
use Rattle.pl_renumbering.proofs.Pieces.{of_found_mapped, of_found_along}
use Rattle.pl_renumbering.proofs.Comings.{found_same, bindings_alike, end_alike}
use Rattle.pl_renumbering.proofs.Links.{place_along}
use Rattle.pl_renumbering.proofs.Starts.{starting_along, adds_along, shifting_along, delete_along, moves_along}

module _ (f : ℕ → ℕ) (next : ℕ) (s : PlanState) where
  abbrev t : PlanState
  t = renumbered_state f next s

  abbrev new : RepairMove → RepairMove
  new = renumbered_move f

  pub goal_along : (g : Goal) → for_goal t g ≡ map new (for_goal s g)
  goal_along g =
      let starts : List ℤ = spread (int_max (pos g.earliest) (floor_at s)) (int_min (pos g.latest) (last_of s)) in
      both_mapped new _ (Drop g.number ∷ []) _ (Drop g.number ∷ [])
      (flat_along new (starting t (λ start. Add g.kind start (Some g.number))) (starting s (λ start. Add g.kind start (Some g.number))) (starting_along f next s (λ start. Add g.kind start (Some g.number)) (λ start. Add g.kind start (Some g.number)) (λ n. refl)) starts)
      refl

  assigns_along : (id : ℕ) (p : ℕ × Param) → assigns (f id) p ≡ map new (assigns id p)
  assigns_along id p = map_along new (λ v. Assign (f id) p.0 v) (λ v. Assign id p.0 v) (λ v. refl) (spread p.1.low p.1.high)

  one_along : (a : Activity) (n : ℕ) (p : ℕ × Param) → assigns_one (renumbered f a) n p ≡ map new (assigns_one a n p)
  one_along a n p = by (eqb p.0 n)
    where
      by : (b : Bool) → cond b (assigns (f a.id) p) [] ≡ map new (cond b (assigns a.id p) [])
      by true = assigns_along a.id p
      by false = refl

  module _ (keeps : KeepsOrder f) (rooted : IsRooted s.plan.activities) where
    pub unset_along : (a : Activity) (n : ℕ) → for_unset t (renumbered f a) n ≡ map new (for_unset s a n)
    unset_along a n = both_mapped new _ _ _ _ (flat_along new (assigns_one (renumbered f a) n) (assigns_one a n) (one_along a n) (params_at s a)) (delete_along f next s keeps rooted a)

    all_along : (a : Activity) → all_assigns t (renumbered f a) ≡ map new (all_assigns s a)
    all_along a =
        ap (λ b. flat_map (assigns (f a.id)) (filter (is_free b) (params_at s a))) (bindings_alike f next s keeps a)
        ∙ flat_along new (assigns (f a.id)) (assigns a.id) (assigns_along a.id) (filter (is_free (bindings_of s a)) (params_at s a))

    parent_along : (o : Option (ℕ × ℕ)) → option_and_then (λ p. found t p.0) (renumbered_place f o) ≡ option_map (renumbered f) (option_and_then (λ p. found s p.0) o)
    parent_along None = refl
    parent_along (Some p) = found_same f next s keeps p.0

    pub bad_value_along : (a : Activity) → for_bad_value t (renumbered f a) ≡ map new (for_bad_value s a)
    bad_value_along a = both_mapped new _ _ _ _ (both_mapped new _ _ _ _ (all_along a)
        (ap (of_found (all_assigns t)) (parent_along a.parent) ∙ of_found_mapped new (renumbered f) (all_assigns t) (all_assigns s) all_along (parent_at s a)))
        (delete_along f next s keeps rooted a)

    pub undetailed_along : (a : Activity) → for_undetailed t (renumbered f a) ≡ map new (for_undetailed s a)
    undetailed_along a = both_mapped new _ _ _ _ (map_along new (λ k. Detail (f a.id) k.0) (λ k. Detail a.id k.0) (λ k. refl) (numbered 0 (alternatives_at s a))) (delete_along f next s keeps rooted a)

    pub end_by_along : (a : Activity) (moment : ℤ) → end_by t (renumbered f a) moment ≡ map new (end_by s a moment)
    end_by_along a moment =
        ap (of_found (λ end. starting t (shift_to (f a.id)) (moment -ℤ (pos end -ℤ pos a.start)))) (end_alike f next s keeps rooted a)
        ∙ of_found_along new (λ end. starting t (shift_to (f a.id)) (moment -ℤ (pos end -ℤ pos a.start))) (λ end. starting s (shift_to a.id) (moment -ℤ (pos end -ℤ pos a.start))) (λ end. shifting_along f next s a.id (moment -ℤ (pos end -ℤ pos a.start))) (end_at s a)

    pub overrun_along : (a : Activity) → for_overrun t (renumbered f a) ≡ map new (for_overrun s a)
    overrun_along a = both_mapped new _ _ _ _ (end_by_along a (pos s.model.horizon)) (moves_along f next s keeps rooted a)

    -- ---- links

    pub moment_same : (point : Point) (a : Activity) → moment_of point (placed_of t (renumbered f a)) ≡ moment_of point (placed_of s a)
    moment_same point a = ap (option_map (λ end. point_of point a.start end)) (end_alike f next s keeps rooted a)

    partners_along : (a : Activity) (l : Link) → partners_for t (renumbered f a) l ≡ map new (partners_for s a l)
    partners_along a l =
        ap (of_found (partners_at t l)) (moment_same l.mine a)
        ∙ of_found_along new (partners_at t l) (partners_at s l) (λ own. adds_along f next s (partner_starts own) l.kind) (moment_of l.mine (placed_of s a))
      where
        partner_starts : ℕ → List ℤ
        partner_starts own =
            let p : ℤ = partner_start (pos own) l.theirs (least_of (kind_at s l.kind)) in
            spread (int_max (floor_at s) (p +ℤ l.low)) (int_min (last_of s) (p +ℤ l.high))

    pub temporal_along : (a : Activity) (index : ℕ) → for_temporal t (renumbered f a) index ≡ map new (for_temporal s a index)
    temporal_along a index = both_mapped new _ _ _ _
        (of_found_along new (partners_for t (renumbered f a)) (partners_for s a) (partners_along a) (slice_get (links_of s.model (placed_of s a)) index))
        (moves_along f next s keeps rooted a)

    -- ---- orders of slots

    shift_along : (slot : Option ℕ) (a : Activity) (to : ℤ) → shift_one t slot (renumbered f a) to ≡ map new (shift_one s slot a to)
    shift_along None a to = refl
    shift_along (Some slot) a to = shifting_along f next s a.id to

    orders_along : (o : Order) (first second : Activity) (apart : ℤ) → order_shifts t o (renumbered f first) (renumbered f second) apart ≡ map new (order_shifts s o first second apart)
    orders_along o first second apart =
        both_mapped new _ _ _ _ (both_mapped new _ _ _ _ (both_mapped new _ _ _ _ (shift_along o.second second _) (shift_along o.second second _)) (shift_along o.first first _)) (shift_along o.first first _)

    apart_along : (o : Order) (first second : Activity) (x y : Option ℕ) → shifts_apart t o (renumbered f first) (renumbered f second) x y ≡ map new (shifts_apart s o first second x y)
    apart_along o first second None y = refl
    apart_along o first second (Some x) None = refl
    apart_along o first second (Some x) (Some y) = orders_along o first second (pos y -ℤ pos x)

    between_along : (o : Order) (x y : Option Activity) → shifts_between t o (option_map (renumbered f) x) (option_map (renumbered f) y) ≡ map new (shifts_between s o x y)
    between_along o None y = refl
    between_along o (Some first) None = refl
    between_along o (Some first) (Some second) =
        ap (λ m. shifts_apart t o (renumbered f first) (renumbered f second) m (moment_of o.second_end (placed_of t (renumbered f second)))) (moment_same o.first_end first)
        ∙ (ap (shifts_apart t o (renumbered f first) (renumbered f second) (moment_of o.first_end (placed_of s first))) (moment_same o.second_end second)
        ∙ apart_along o first second (moment_of o.first_end (placed_of s first)) (moment_of o.second_end (placed_of s second)))

    order_along : (a : Activity) (o : Order) → for_order t (renumbered f a) o ≡ map new (for_order s a o)
    order_along a o =
        ap (λ x. shifts_between t o x (place_in t (renumbered f a) o.second)) (place_along f next s keeps rooted a o.first)
        ∙ (ap (shifts_between t o (option_map (renumbered f) (place_in s a o.first))) (place_along f next s keeps rooted a o.second)
        ∙ between_along o (place_in s a o.first) (place_in s a o.second))

    pub linked_along : (a : Activity) (index : ℕ) → for_linked t (renumbered f a) index ≡ map new (for_linked s a index)
    linked_along a index = both_mapped new _ _ _ _
        (of_found_along new (for_order t (renumbered f a)) (for_order s a) (order_along a) (order_at s a index))
        (ap (λ l. Abstract (f a.id) ∷ l) (moves_along f next s keeps rooted a))
