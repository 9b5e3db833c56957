-- An order that is not met is a conflict of the parent, if the parent or one of the order's ends is ahead.
use Rattle.std.proofs.Common.{◌≡◌, ℕ, ◌<◌, Bool, true, false, List, [], ◌∷◌, ◌++◌, length, max, min, find, Option, Some, None, refl, sym, ap, ◌∙◌, subst, arith}
use Rattle.std.specs.Prelude.{◌||◌, ℤ, IfSome, slice_get, option_and_then}
use Rattle.std.specs.List.{flat_map}
use Rattle.std.specs.Option.{option_map}
use Rattle.std.proofs.lemmas.Bool.{or_left, or_right}
use Rattle.std.proofs.lemmas.Option.{slice_get_within}
use Rattle.pl_conflict.specs.declared.conflict.Conflict.{Conflict}
use Rattle.pl_conflict.specs.declared.conflict.Code.TheVariants.{Linked}
use Rattle.pl_conflict.specs.Order.{has}
use Rattle.pl_conflict.proofs.Sorting.{same, same_itself}
use Rattle.pl_model.specs.declared.links.Link.{Link}
use Rattle.pl_model.specs.declared.alternatives.Order.{Order}
use Rattle.pl_model.specs.declared.reservations.Point.{Point}
use Rattle.pl_links.specs.declared.placed.Placed.{Placed}
use Rattle.pl_links.specs.declared.broken.Broken.{Broken}
use Rattle.pl_links.specs.Broken.{when, is_link_broken, is_order_broken, are_misplaced, moment_of, moment_in, is_unmet, broken_at, links_of, orders_of}
use Rattle.pl_plan.specs.declared.activity.Activity.{Activity}
use Rattle.pl_plan.specs.Activities.{AreRising}
use Rattle.pl_plan.specs.Fitting.{fills}
use Rattle.pl_detect.proofs.Stored.{child_is}
use Rattle.pl_semantics.specs.declared.plan_state.PlanState.{PlanState}
use Rattle.pl_semantics.specs.PlanStates as states
use Rattle.pl_semantics.specs.PlanStates.{found, of_found, is_ahead}
use Rattle.pl_semantics.specs.Links.{placed_of, placed_in, place_in, unmet_from, unmet_order, conflict_of, links_at, link_conflicts}
use Rattle.pl_semantics.proofs.Standing.{links_by_subject}
use Rattle.pl_bounds.proofs.Lonely.{among_all, flat_append}

-- two moments that are misplaced are both there
both_there : (low high : ℤ) (a b : Option ℕ) → are_misplaced low high a b ≡ true → (m : ℕ) × (n : ℕ) × (a ≡ Some m) × (b ≡ Some n)
both_there low high None b e = absurd (let bad : false ≡ true = e in cc)
both_there low high (Some m) None e = absurd (let bad : false ≡ true = e in cc)
both_there low high (Some m) (Some n) e = (m, n, refl, refl)

-- the same where the moments are known by what was found
pub misplaced_too : (low high : ℤ) (a b x y : Option ℕ) → IfSome a (λ (m : ℕ). x ≡ Some m) → IfSome b (λ (n : ℕ). y ≡ Some n) → are_misplaced low high a b ≡ true → are_misplaced low high x y ≡ true
misplaced_too low high None b x y one two e = absurd (let bad : false ≡ true = e in cc)
misplaced_too low high (Some m) None x y one two e = absurd (let bad : false ≡ true = e in cc)
misplaced_too low high (Some m) (Some n) x y one two e = ap (λ (o : Option ℕ). are_misplaced low high o y) one ∙ (ap (λ (o : Option ℕ). are_misplaced low high (Some m) o) two ∙ e)

abbrev pub start_at : Option Activity → ℕ
start_at None = 0
start_at (Some a) = a.start

module _ (t : PlanState) (a : Activity) where
  abbrev own : Placed
  own = placed_of t a

  abbrev items : List Placed
  items = placed_in t

  -- what is placed somewhere is there
  pub placed_there : (end : Option ℕ) (point : Point) (m : ℕ) → moment_in items own end point ≡ Some m → (x : Activity) × (place_in t a end ≡ Some x)
  placed_there None point m e = (a, refl)
  placed_there (Some slot) point m e = by (find (fills a.id slot) t.plan.activities) refl
    where
      by : (o : Option Activity) → find (fills a.id slot) t.plan.activities ≡ o → (x : Activity) × (place_in t a (Some slot) ≡ Some x)
      by None none = absurd (let bad : None ≡ Some m = sym (ap (option_and_then (moment_of point)) (child_is t a.id slot t.plan.activities ∙ ap (option_map (placed_of t)) none)) ∙ e in cc)
      by (Some x) there = (x, there)

  -- its conflict
  abbrev pub unmet_one : ℕ → Order → Conflict
  unmet_one index order = record { from = min a.start (min (start_at (place_in t a order.first)) (start_at (place_in t a order.second))); code = Linked; subject = a.id; detail = index; a = 0; b = 0 }

  abbrev IsAheadBy : Order → Type 0
  IsAheadBy order = (x y : Activity) → place_in t a order.first ≡ Some x → place_in t a order.second ≡ Some y → (is_ahead t a || (is_ahead t x || is_ahead t y)) ≡ true

  of_order : (index : ℕ) (order : Order) → is_unmet items own order ≡ true → IsAheadBy order → unmet_order t a index order ≡ unmet_one index order ∷ []
  of_order index order unmet ahead =
      let both = both_there order.low order.high (moment_in items own order.first order.first_end) (moment_in items own order.second order.second_end) unmet in
      let one = placed_there order.first order.first_end both.0 both.2 in
      let two = placed_there order.second order.second_end both.1 both.3 in
      by (place_in t a order.first) (place_in t a order.second) one.0 two.0 one.1 two.1 (ahead one.0 two.0 one.1 two.1)
    where
      by : (o p : Option Activity) (x y : Activity) → o ≡ Some x → p ≡ Some y → (is_ahead t a || (is_ahead t x || is_ahead t y)) ≡ true
          → unmet_from t a index o p ≡ record { from = min a.start (min (start_at o) (start_at p)); code = Linked; subject = a.id; detail = index; a = 0; b = 0 } ∷ []
      by None p x y e f goes = absurd (cc)
      by (Some v) None x y e f goes = absurd (cc)
      by (Some v) (Some w) x y e f goes =
          let first : x ≡ v = cc in
          let second : y ≡ w = cc in
          let there : (is_ahead t a || (is_ahead t v || is_ahead t w)) ≡ true = subst (λ (z : Activity). (is_ahead t a || (is_ahead t v || is_ahead t z)) ≡ true) second (subst (λ (z : Activity). (is_ahead t a || (is_ahead t z || is_ahead t y)) ≡ true) first goes) in
          ap (λ (b : Bool). states.when b (record { from = min a.start (min v.start w.start); code = Linked; subject = a.id; detail = index; a = 0; b = 0 })) there

  abbrev links : List Link
  links = links_of t.model own

  abbrev orders : List Order
  orders = orders_of t.model own

  here : (j : ℕ) (order : Order) → slice_get orders j ≡ Some order → is_unmet items own order ≡ true → IsAheadBy order → has (unmet_one j order) (flat_map (conflict_of t a) (broken_at items own links orders j)) ≡ true
  here j order is unmet ahead =
      flat_append (conflict_of t a) (when (is_link_broken items own (slice_get links j)) link_one) (when (is_order_broken items own (slice_get orders j)) order_one) (unmet_one j order)
      ∙ or_right (has (unmet_one j order) (flat_map (conflict_of t a) (when (is_link_broken items own (slice_get links j)) link_one))) _ second
    where
      link_one : Broken
      link_one = record { id = own.id; index = j; slots = false }

      order_one : Broken
      order_one = record { id = own.id; index = j; slots = true }

      broken : is_order_broken items own (slice_get orders j) ≡ true
      broken = ap (is_order_broken items own) is ∙ unmet

      second : has (unmet_one j order) (flat_map (conflict_of t a) (when (is_order_broken items own (slice_get orders j)) order_one)) ≡ true
      second =
          ap (λ (b : Bool). has (unmet_one j order) (flat_map (conflict_of t a) (when b order_one))) broken
          ∙ (ap (λ (o : Option Order). has (unmet_one j order) (of_found (unmet_order t a j) o ++ [])) is
          ∙ (ap (λ (l : List Conflict). has (unmet_one j order) (l ++ [])) (of_order j order unmet ahead)
          ∙ or_left (same (unmet_one j order) (unmet_one j order)) false (same_itself (unmet_one j order))))

  pub unmet_stands : AreRising t.plan.activities → found t a.id ≡ Some a → (j : ℕ) (order : Order) → slice_get orders j ≡ Some order → is_unmet items own order ≡ true → IsAheadBy order → has (unmet_one j order) (link_conflicts t) ≡ true
  unfolding links_at
  unmet_stands rising live j order is unmet ahead =
      let low : j < length orders = slice_get_within orders j order is in
      links_by_subject t rising (unmet_one j order)
      ∙ (ap (λ (o : Option Activity). has (unmet_one j order) (of_found (links_at t) o)) live
      ∙ among_all t a links orders (unmet_one j order) (max (length links) (length orders)) j (omega (arith, low)) (here j order is unmet ahead))
