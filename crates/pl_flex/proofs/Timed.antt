-- The times of solutions are moments, and windows lie between the earliest and the latest.
use Rattle.std.proofs.Common.{◌≡◌, ℕ, ◌+◌, ◌*◌, ◌<◌, ℤ, pos, negsuc, ◌≤ℤ◌, List, length, true, refl, subst, arith}
use Rattle.std.specs.Prelude.{All, filter}
use Rattle.std.proofs.lemmas.Int.{ints}
use Rattle.std.proofs.lemmas.List.{get_or_default}
use Rattle.std.proofs.lemmas.List.Elements.{All-map, All-weaker}
use Rattle.pl_stn.specs.Nets.{IsSolution, time_of}
use Rattle.pl_model.specs.declared.reservations.Point.TheVariants.{Start}
use Rattle.pl_links.specs.declared.placed.Placed.{Placed}
use Rattle.pl_semantics.specs.declared.plan_state.PlanState.{PlanState}
use Rattle.pl_semantics.specs.PlanStates.{natural}
use Rattle.pl_semantics.specs.Whole.{IsWhole}
use Rattle.pl_times.specs.Times.{IsJoined}
use Rattle.pl_times.proofs.Ends.{below_all, joined_from}
use Rattle.pl_flex.specs.FlexNets.{firm_in, firm_places, flex_net, point_at}
use Rattle.pl_flex.specs.Answers.{HasFewEdges}
use Rattle.pl_times.specs.declared.timing.Timing.{Timing}
use Rattle.pl_times.specs.Bounded.{IsEarly, IsLate}
use Rattle.pl_stn.specs.declared.net.Net.{Net}
use Rattle.pl_flex.specs.declared.window.Window.{Window}
use Rattle.pl_flex.specs.State.{AreMoments, AreTimed, IsWindowOf}
use Rattle.pl_flex.specs.Windows.{may_move, window_of, windows_of}
use Rattle.pl_flex.proofs.Members.{all_numbered, all_passing}
use Rattle.pl_flex.proofs.Shapes.{well_formed}
use Rattle.pl_flex.proofs.Ceilings.{above_all}

natural_same : (z : ℤ) → pos 0 ≤ℤ z → pos (natural z) ≡ z
natural_same (pos n) h = refl
natural_same (negsuc n) h = absurd (omega (arith, ints, h))

module _ (s : PlanState) (whole : IsWhole s) (few : HasFewEdges (flex_net s)) (times : List ℤ) (solution : IsSolution (flex_net s) times) where
  pub points : length times ≡ 2 * length (firm_in s) + 1
  unfolding flex_net
  points = solution.each_point

  moment : (p : ℕ) → p < length times → (pos 0 ≤ℤ time_of times p) × (time_of times p ≤ℤ pos 20000000)
  moment p h =
      let within = subst (λ m. p < m) solution.each_point h in
      let low = below_all (flex_net s) (well_formed s whole few) times solution p within in
      let high = above_all s whole times solution p within in
      (omega (arith, ints, low), omega (arith, ints, high))

  pub moments : AreMoments times
  moments p d h = rw (get_or_default times p d (pos 0) h) (moment p h)

pub joined : (s : PlanState) → IsWhole s → HasFewEdges (flex_net s) → IsJoined (flex_net s)
joined s whole few = joined_from (flex_net s) (well_formed s whole few)

pub each_window : (s : PlanState) → IsWhole s → HasFewEdges (flex_net s) → (early late : List ℤ) → IsSolution (flex_net s) early → IsSolution (flex_net s) late → All (IsWindowOf (flex_net s) early late) (windows_of s early late)
unfolding flex_net
each_window s whole few early late first last =
    All-map (IsWindowOf (flex_net s) early late) (window_of early late) (filter (may_move s) (firm_places s))
    (all_passing (λ x. IsWindowOf (flex_net s) early late (window_of early late x)) (may_move s) (firm_places s)
    (All-weaker (λ (x : ℕ × Placed). (x.0 < length (firm_in s)) × (x.1 ≡ x.1)) (λ x. may_move s x ≡ true → IsWindowOf (flex_net s) early late (window_of early late x))
    (λ x is moves.
    let within : point_at x.0 Start < 2 * length (firm_in s) + 1 = omega (arith, is.0) in
    let early_at = moment s whole few early first (point_at x.0 Start) (omega (arith, within, points s whole few early first)) in
    let late_at = moment s whole few late last (point_at x.0 Start) (omega (arith, within, points s whole few late last)) in
    record {
      within = within;
      low = natural_same (time_of early (point_at x.0 Start)) early_at.0;
      high = natural_same (time_of late (point_at x.0 Start)) late_at.0;
    })
    (firm_places s) (all_numbered (λ p. p ≡ p) 0 (length (firm_in s)) (firm_in s) (omega arith) (λ i d h. refl))))

-- what holds of the windows of a plan
pub timed : (s : PlanState) → IsWhole s → HasFewEdges (flex_net s) → (net : Net) (windows : List Window) (early late : Timing) → net ≡ flex_net s → IsEarly (flex_net s) early → IsLate (flex_net s) late → windows ≡ windows_of s early.times late.times → AreTimed net windows early late
timed s whole few net windows early late same first last are = rw (same, are) (record {
  joined = joined s whole few;
  earliest = first;
  latest = last;
  each = each_window s whole few early.times late.times first.solution last.solution;
})
