-- What an activity asks for moves along with it, where its end was not measured.
use Rattle.std.proofs.Common.{◌≡◌, ℕ, ◌+◌, ◌≤◌, Bool, true, false, cond, List, [], ◌∷◌, map, Option, Some, None, refl, sym, ap, ◌∙◌, arith, neg_ℤ}
use Rattle.std.specs.Prelude.{option_and_then}
use Rattle.std.specs.Option.{option_map}
use Rattle.pl_model.specs.declared.reservations.Reservation.{Reservation}
use Rattle.pl_model.specs.declared.reservations.Reservation.TheVariants as reservation
use Rattle.pl_model.specs.declared.reservations.Point.{Point}
use Rattle.pl_model.specs.declared.reservations.Point.TheVariants.{Start, End}
use Rattle.pl_model.specs.declared.kinds.Kind.{Kind}
use Rattle.pl_level.specs.Effects.{effect_of}
use Rattle.pl_links.specs.Broken.{point_of}
use Rattle.pl_state.specs.Sets.{setting_of}
use Rattle.pl_plan.specs.declared.activity.Activity.{Activity}
use Rattle.pl_plan.specs.Fitting.{kind_of}
use Rattle.pl_plan.specs.Values.{Row}
use Rattle.pl_plan.specs.Firm.{duration_in, is_firm_with, end_with, end_in, end_of}
use Rattle.pl_semantics.specs.declared.plan_state.PlanState.{PlanState}
use Rattle.pl_semantics.specs.declared.demand.Asked.TheVariants as asked
use Rattle.pl_semantics.specs.PlanStates.{found, row_of, end_at, reservations_of, of_found}
use Rattle.pl_semantics.specs.Demands.{amount_in, demand_of, asked_for, demands_until, demands_at}
use Rattle.pl_semantics.specs.Moves.{moved}
use Rattle.pl_update.specs.Changes.Replaced.{with_plan}
use Rattle.pl_bounds.specs.Moved.{moved_to, demand_moved}

module _ (from to : ℕ) where
  later : (start d : ℕ) → from ≤ start + to → moved_to from to start + d ≡ moved_to from to (start + d)
  later start d low = omega (arith, low)

  pub end_moved : (horizon : ℕ) (k : Kind) (start : ℕ) (measured : Option ℕ) (row : Row) → measured ≡ None → from ≤ start + to → end_with horizon k (moved_to from to start) measured row ≡ option_map (moved_to from to) (end_with horizon k start measured row)
  end_moved horizon k start measured row none low = rw none (by (is_firm_with horizon k row) (duration_in horizon k row))
    where
      by : (firm : Bool) (d : Option ℕ) → cond firm (option_map (λ n. moved_to from to start + n) d) None ≡ option_map (moved_to from to) (cond firm (option_map (λ n. start + n) d) None)
      by false d = refl
      by true None = refl
      by true (Some n) = ap (λ (e : ℕ). Some e) (later start n low)

  point_moved : (point : Point) (start end : ℕ) → point_of point (moved_to from to start) (moved_to from to end) ≡ moved_to from to (point_of point start end)
  point_moved Start start end = refl
  point_moved End start end = refl

  asked_on : (id start end : ℕ) (row : Row) (r : ℕ × Reservation) → asked_for id (moved_to from to start) (moved_to from to end) row r ≡ demand_moved from to (asked_for id start end row r)
  asked_on id start end row (n, reservation.Take line e) = refl
  asked_on id start end row (n, reservation.Raise line e point) = ap (λ at. demand_of line (asked.Effect (effect_of at (amount_in row e)))) (point_moved point start end)
  asked_on id start end row (n, reservation.Lower line e point) = ap (λ at. demand_of line (asked.Effect (effect_of at (neg_ℤ (amount_in row e))))) (point_moved point start end)
  asked_on id start end row (n, reservation.Put line state point) = ap (λ at. demand_of line (asked.Set (setting_of at id n state))) (point_moved point start end)
  asked_on id start end row (n, reservation.Must line state) = refl

  pub all_on : (id start end : ℕ) (row : Row) (rs : List (ℕ × Reservation)) → map (asked_for id (moved_to from to start) (moved_to from to end) row) rs ≡ map (demand_moved from to) (map (asked_for id start end row) rs)
  all_on id start end row [] = refl
  all_on id start end row (r ∷ rs) = rw (asked_on id start end row r, all_on id start end row rs) refl

  module _ (s : PlanState) (gone : List ℕ) (more : List Activity) (a : Activity) (here : found s a.id ≡ Some a) (there : found (with_plan gone more s) a.id ≡ Some (moved from to a)) (row : row_of (with_plan gone more s) (moved from to a) ≡ row_of s a) (none : a.measured ≡ None) (low : from ≤ a.start + to) where
    end_on : (o : Option Kind) → option_and_then (λ k. end_with s.model.horizon k (moved_to from to a.start) a.measured (row_of s a)) o ≡ option_map (moved_to from to) (option_and_then (λ k. end_with s.model.horizon k a.start a.measured (row_of s a)) o)
    end_on None = refl
    end_on (Some k) = end_moved s.model.horizon k a.start a.measured (row_of s a) none low

    pub end_is : end_at (with_plan gone more s) (moved from to a) ≡ option_map (moved_to from to) (end_at s a)
    unfolding end_of
    end_is =
        ap (λ (o : Option Activity). end_in s.model o (row_of (with_plan gone more s) (moved from to a))) there
        ∙ (ap (λ (r : Row). end_in s.model (Some (moved from to a)) r) row
        ∙ (end_on (kind_of s.model a) ∙ ap (λ (o : Option Activity). option_map (moved_to from to) (end_in s.model o (row_of s a))) (sym here)))

    pub demands_moved : demands_at (with_plan gone more s) (moved from to a) ≡ map (demand_moved from to) (demands_at s a)
    unfolding demands_at
    demands_moved =
        ap (λ (r : Row). of_found (λ end. map (asked_for a.id (moved_to from to a.start) end r) (reservations_of s a)) (end_at (with_plan gone more s) (moved from to a))) row
        ∙ (ap (λ (o : Option ℕ). of_found (λ end. map (asked_for a.id (moved_to from to a.start) end (row_of s a)) (reservations_of s a)) o) end_is ∙ by (end_at s a))
      where
        by : (o : Option ℕ) → of_found (λ end. map (asked_for a.id (moved_to from to a.start) end (row_of s a)) (reservations_of s a)) (option_map (moved_to from to) o) ≡ map (demand_moved from to) (of_found (demands_until s a) o)
        by None = refl
        by (Some end) = all_on a.id a.start end (row_of s a) (reservations_of s a)
