-- In a solution of a plan's network no time lies past twice the greatest horizon.
use Rattle.std.proofs.Common.{◌≡◌, ⊎_elim, ◌⊎◌, inl, inr, ℕ, zero, suc, ◌+◌, ◌*◌, ◌<◌, ℤ, pos, ◌-ℤ◌, ◌≤ℤ◌, ◌<ℤ◌, List, length, get_or, Option, Some, None, true, false, Bool, refl, subst, arith}
use Rattle.std.specs.Prelude.{Contains, neg_ℤ}
use Rattle.std.specs.List.{flat_map}
use Rattle.std.proofs.lemmas.Int.{ints}
use Rattle.std.proofs.lemmas.List.Elements.{All-contains, Contains-append_left, Contains-append_right}
use Rattle.pl_stn.specs.declared.net.Edge.{Edge}
use Rattle.pl_stn.specs.Nets.{IsSolution, Meets, edges_to_origin, time_of}
use Rattle.pl_model.specs.declared.reservations.Point.TheVariants.{Start, End}
use Rattle.pl_facts.specs.declared.goal.Goal.{Goal}
use Rattle.pl_links.specs.declared.placed.Placed.{Placed}
use Rattle.pl_semantics.specs.declared.plan_state.PlanState.{PlanState}
use Rattle.pl_semantics.specs.Whole.{IsWhole}
use Rattle.pl_times.specs.Times.{IsAboveAll}
use Rattle.pl_flex.specs.FlexNets.{duration_of, edge, edges_of_duration, edges_of_place, edges_of_plan, edges_of_planned, firm_in, firm_places, flex_net, goal_served, is_settled, point_at}
use Rattle.pl_flex.proofs.Members.{contains_flat, contains_numbered}
use Rattle.pl_flex.proofs.Extents.{HasEnds, all_end}

half : (m : ℕ) → (k : ℕ) × ((m ≡ 2 * k) ⊎ (m ≡ 2 * k + 1))
half zero = (0, inl (omega arith))
half (suc m) =
    let r = half m in
    ⊎_elim (λ (even : m ≡ 2 * r.0). (r.0, inr (omega arith))) (λ (odd : m ≡ 2 * r.0 + 1). (r.0 + 1, inl (omega arith))) r.1

planned_end : (s : PlanState) (place : ℕ) (o : Option Goal) → Contains (edges_of_planned s place o) (edge 0 (point_at place End) (pos s.model.horizon))
planned_end s place None = (1, omega arith, refl)
planned_end s place (Some g) = (1, omega arith, refl)

-- the edges of a place stand in the network
module _ (s : PlanState) (x : ℕ × Placed) (held : Contains (firm_places s) x) (e : Edge) where
  of_duration : Contains (edges_of_duration x) e → Contains (edges_of_plan s) e
  of_duration in_x =
      Contains-append_right (edges_to_origin (2 * length (firm_in s))) _ e
      (Contains-append_left (flat_map edges_of_duration (firm_places s)) _ e (contains_flat edges_of_duration (firm_places s) x e held in_x))

  of_place : Contains (edges_of_place s x) e → Contains (edges_of_plan s) e
  of_place in_x =
      Contains-append_right (edges_to_origin (2 * length (firm_in s))) _ e
      (Contains-append_right (flat_map edges_of_duration (firm_places s)) _ e
      (Contains-append_left (flat_map (edges_of_place s) (firm_places s)) _ e (contains_flat (edges_of_place s) (firm_places s) x e held in_x)))

module _ (s : PlanState) (whole : IsWhole s) (times : List ℤ) (solution : IsSolution (flex_net s) times) where
  met : (e : Edge) → Contains (edges_of_plan s) e → Meets times e
  unfolding flex_net
  met e held = All-contains (Meets times) (edges_of_plan s) e solution.meets held

  -- a start lies before the horizon, an end before twice the horizon
  abbrev IsLow : ℕ → Type 0
  IsLow k = (time_of times (point_at k Start) ≤ℤ pos 10000000) × (time_of times (point_at k End) ≤ℤ pos 20000000)

  low_at : (x : ℕ × Placed) → Contains (firm_places s) x → HasEnds s.model.horizon x.1 → IsLow x.0
  low_at x held ends =
      let start = point_at x.0 Start in
      let end = point_at x.0 End in
      let horizon = whole.checked.horizon.1 in
      let longer = met (edge start end (duration_of x.1)) (of_duration s x held (edge start end (duration_of x.1)) (0, omega arith, refl)) in
      let shorter = met (edge end start (neg_ℤ (duration_of x.1))) (of_duration s x held (edge end start (neg_ℤ (duration_of x.1))) (1, omega arith, refl)) in
      cases (is_settled s x.1) refl longer shorter
    where
      cases : (b : Bool) → is_settled s x.1 ≡ b → (time_of times (point_at x.0 End) -ℤ time_of times (point_at x.0 Start)) ≤ℤ duration_of x.1 → (time_of times (point_at x.0 Start) -ℤ time_of times (point_at x.0 End)) ≤ℤ neg_ℤ (duration_of x.1) → IsLow x.0
      cases true is longer shorter =
          let fixed : Contains (edges_of_place s x) (edge 0 (point_at x.0 Start) (pos x.1.start)) = rw is (0, omega arith, refl) in
          let at = met (edge 0 (point_at x.0 Start) (pos x.1.start)) (of_place s x held (edge 0 (point_at x.0 Start) (pos x.1.start)) fixed) in
          let first : time_of times (point_at x.0 Start) ≤ℤ pos 10000000 = omega (arith, ints, at, solution.origin, ends.before, whole.checked.horizon.1) in
          (first, omega (arith, ints, longer, first, ends.within, whole.checked.horizon.1))
      cases false is longer shorter =
          let last : Contains (edges_of_place s x) (edge 0 (point_at x.0 End) (pos s.model.horizon)) = rw is (planned_end s x.0 (goal_served s x.1.id)) in
          let at = met (edge 0 (point_at x.0 End) (pos s.model.horizon)) (of_place s x held (edge 0 (point_at x.0 End) (pos s.model.horizon)) last) in
          let second : time_of times (point_at x.0 End) ≤ℤ pos 10000000 = omega (arith, ints, at, solution.origin, whole.checked.horizon.1) in
          (omega (arith, ints, shorter, second, ends.after), omega (arith, ints, second))

  low : (k : ℕ) → k < length (firm_in s) → IsLow k
  low k h =
      let none : Placed = record { id = 0; kind = 0; start = 0; end = None; parent = None; detail = None } in
      low_at (k, get_or (firm_in s) k none) (contains_numbered 0 (firm_in s) k k none h (omega arith)) (all_end s whole k none h)

  low_point : (p : ℕ) → p < 2 * length (firm_in s) + 1 → time_of times p <ℤ pos 20000001
  low_point zero h = omega (arith, ints, solution.origin)
  low_point (suc m) h =
      let r = half m in
      ⊎_elim
      (λ (even : m ≡ 2 * r.0).
      let same : 2 * r.0 + 1 ≡ suc m = omega arith in
      let at = low r.0 (omega arith) in
      subst (λ q. time_of times q <ℤ pos 20000001) same (omega (arith, ints, at.0)))
      (λ (odd : m ≡ 2 * r.0 + 1).
      let same : 2 * r.0 + 2 ≡ suc m = omega arith in
      let at = low r.0 (omega arith) in
      subst (λ q. time_of times q <ℤ pos 20000001) same (omega (arith, ints, at.1)))
      r.1

pub above_all : (s : PlanState) → IsWhole s → IsAboveAll (flex_net s) (pos 20000001)
unfolding flex_net
above_all s whole times solution p h = low_point s whole times solution p h
