-- A conflict of one activity's links and orders stands after a replacement where its link, or its orders, are broken then as before.
use Rattle.std.proofs.Common.{◌≡◌, ℕ, zero, suc, Bool, true, false, List, [], ◌++◌, Option, Some, None, refl, sym, ap, ◌∙◌, max, length}
use Rattle.std.specs.Prelude.{◌||◌, slice_get}
use Rattle.std.specs.List.{flat_map}
use Rattle.std.proofs.lemmas.Bool.{or_left, or_right}
use Rattle.std.proofs.Math.Bool.{or-false}
use Rattle.pl_conflict.specs.declared.conflict.Conflict.{Conflict}
use Rattle.pl_conflict.specs.declared.conflict.Code.TheVariants.{Temporal, Linked}
use Rattle.pl_conflict.specs.Order.{has}
use Rattle.pl_conflict.proofs.Sorting.{same, same_is, has-append}
use Rattle.pl_model.specs.declared.links.Link.{Link}
use Rattle.pl_model.specs.declared.alternatives.Order.{Order}
use Rattle.pl_links.specs.declared.broken.Broken.{Broken}
use Rattle.pl_links.specs.Broken.{when, lacks_partner, is_unmet, is_link_broken, is_order_broken, broken_at, broken_below, links_of, orders_of}
use Rattle.pl_plan.specs.declared.activity.Activity.{Activity}
use Rattle.pl_semantics.specs.declared.plan_state.PlanState.{PlanState}
use Rattle.pl_semantics.specs.PlanStates as states
use Rattle.pl_semantics.specs.PlanStates.{of_found, is_ahead}
use Rattle.pl_semantics.specs.Links.{placed_of, placed_in, lone, order_at, place_in, unmet_from, unmet_order, link_conflict, conflict_of, links_at}
use Rattle.pl_update.specs.Changes.Replaced.{with_plan}
use Rattle.pl_bounds.proofs.Lonely.{flat_append}

-- ---- one that is in a list is in another one

module _ (q : Conflict) where
  abbrev pub Keeps : List Conflict → List Conflict → Type 0
  Keeps xs ys = has q xs ≡ true → has q ys ≡ true

  either : (a b c d : Bool) → (a ≡ true → c ≡ true) → (b ≡ true → d ≡ true) → (a || b) ≡ true → (c || d) ≡ true
  either true b c d f g e = or_left c d (f refl)
  either false b c d f g e = or_right c d (g e)

  keeps_both : (f g : Broken → List Conflict) (xs ys us vs : List Broken) → Keeps (flat_map f xs) (flat_map g us) → Keeps (flat_map f ys) (flat_map g vs) → Keeps (flat_map f (xs ++ ys)) (flat_map g (us ++ vs))
  keeps_both f g xs ys us vs first second e =
      flat_append g us vs q
      ∙ either (has q (flat_map f xs)) (has q (flat_map f ys)) (has q (flat_map g us)) (has q (flat_map g vs)) first second (sym (flat_append f xs ys q) ∙ e)

  only : (ks : List Conflict) → has q (ks ++ []) ≡ true → has q ks ≡ true
  only ks e = sym (or-false (has q ks)) ∙ (sym (has-append ks [] q) ∙ e)

-- ---- what an order tells is of orders

linked_when : (q k : Conflict) (b : Bool) → k.code ≡ Linked → has q (states.when b k) ≡ true → q.code ≡ Linked
linked_when q k false is e = absurd (cc)
linked_when q k true is e = ap (λ (z : Conflict). z.code) (same_is q k (sym (or-false (same q k)) ∙ e)) ∙ is

linked_from : (s : PlanState) (a : Activity) (j : ℕ) (q : Conflict) (first second : Option Activity) → has q (unmet_from s a j first second) ≡ true → q.code ≡ Linked
linked_from s a j q (Some x) (Some y) e = linked_when q _ (is_ahead s a || (is_ahead s x || is_ahead s y)) refl e
linked_from s a j q (Some x) None e = absurd (cc)
linked_from s a j q None second e = absurd (cc)

linked_order : (s : PlanState) (a : Activity) (j : ℕ) (q : Conflict) (o : Option Order) → has q (of_found (unmet_order s a j) o) ≡ true → q.code ≡ Linked
linked_order s a j q None e = absurd (cc)
linked_order s a j q (Some o) e = linked_from s a j q (place_in s a o.first) (place_in s a o.second) e

-- ---- one activity

-- its orders that are not met are not met afterwards, and tell the same
pub record StayUnmet (s t : PlanState) (a : Activity) : Type 0 where
  pub unmet : (o : Order) → is_unmet (placed_in s) (placed_of s a) o ≡ true → is_unmet (placed_in t) (placed_of t a) o ≡ true
  pub told : (j : ℕ) → link_conflict t a true j ≡ link_conflict s a true j

module _ (s : PlanState) (gone : List ℕ) (more : List Activity) (a : Activity) where
  abbrev t : PlanState
  t = with_plan gone more s

  module _ (q : Conflict) where
    -- its link that this conflict is about finds no partner afterwards, where it found none
    abbrev pub StaysLone : Type 0
    StaysLone = (j : ℕ) (l : Link) → q.code ≡ Temporal → q.detail ≡ j → slice_get (links_of s.model (placed_of s a)) j ≡ Some l → lacks_partner (placed_in s) (placed_of s a) l ≡ true → lacks_partner (placed_in t) (placed_of t a) l ≡ true

    module _ (lonely : StaysLone) (orders : q.code ≡ Linked → StayUnmet s t a) where
      abbrev links : List Link
      links = links_of s.model (placed_of s a)

      abbrev broken_orders : List Order
      broken_orders = orders_of s.model (placed_of s a)

      abbrev of_link : ℕ → Broken
      of_link j = record { id = a.id; index = j; slots = false }

      abbrev of_order : ℕ → Broken
      of_order j = record { id = a.id; index = j; slots = true }

      lone_is : (j : ℕ) (b : Bool) → has q (states.when b (lone a j) ++ []) ≡ true → q ≡ lone a j
      lone_is j true e = same_is q (lone a j) (sym (or-false (same q (lone a j))) ∙ e)
      lone_is j false e = absurd (cc)

      link_keeps : (j : ℕ) → Keeps q (flat_map (conflict_of s a) (when (is_link_broken (placed_in s) (placed_of s a) (slice_get links j)) (of_link j))) (flat_map (conflict_of t a) (when (is_link_broken (placed_in t) (placed_of t a) (slice_get links j)) (of_link j)))
      link_keeps j = by (slice_get links j) refl
        where
          by_lack : (l : Link) → slice_get links j ≡ Some l → (b : Bool) → lacks_partner (placed_in s) (placed_of s a) l ≡ b → has q (flat_map (conflict_of s a) (when b (of_link j))) ≡ true → has q (flat_map (conflict_of t a) (when (lacks_partner (placed_in t) (placed_of t a) l) (of_link j))) ≡ true
          by_lack l is false lacks e = absurd (cc)
          by_lack l is true lacks e =
              let it : q ≡ lone a j = lone_is j (is_ahead s a) e in
              let then_ : lacks_partner (placed_in t) (placed_of t a) l ≡ true = lonely j l (ap (λ (z : Conflict). z.code) it) (ap (λ (z : Conflict). z.detail) it) is lacks in
              ap (λ (b : Bool). has q (flat_map (conflict_of t a) (when b (of_link j)))) then_ ∙ e

          by : (o : Option Link) → slice_get links j ≡ o → has q (flat_map (conflict_of s a) (when (is_link_broken (placed_in s) (placed_of s a) o) (of_link j))) ≡ true → has q (flat_map (conflict_of t a) (when (is_link_broken (placed_in t) (placed_of t a) o) (of_link j))) ≡ true
          by None is e = absurd (cc)
          by (Some l) is e = by_lack l is (lacks_partner (placed_in s) (placed_of s a) l) refl e

      order_keeps : (j : ℕ) → Keeps q (flat_map (conflict_of s a) (when (is_order_broken (placed_in s) (placed_of s a) (slice_get broken_orders j)) (of_order j))) (flat_map (conflict_of t a) (when (is_order_broken (placed_in t) (placed_of t a) (slice_get broken_orders j)) (of_order j)))
      order_keeps j = by (slice_get broken_orders j)
        where
          by_unmet : (o : Order) (b : Bool) → is_unmet (placed_in s) (placed_of s a) o ≡ b → has q (flat_map (conflict_of s a) (when b (of_order j))) ≡ true → has q (flat_map (conflict_of t a) (when (is_unmet (placed_in t) (placed_of t a) o) (of_order j))) ≡ true
          by_unmet o false unmet e = absurd (cc)
          by_unmet o true unmet e =
              let here : has q (link_conflict s a true j) ≡ true = only q (link_conflict s a true j) e in
              let stay : StayUnmet s t a = orders (linked_order s a j q (order_at s a j) here) in
              ap (λ (b : Bool). has q (flat_map (conflict_of t a) (when b (of_order j)))) (stay.unmet o unmet)
              ∙ (ap (λ (ks : List Conflict). has q (ks ++ [])) (stay.told j) ∙ e)

          by : (o : Option Order) → has q (flat_map (conflict_of s a) (when (is_order_broken (placed_in s) (placed_of s a) o) (of_order j))) ≡ true → has q (flat_map (conflict_of t a) (when (is_order_broken (placed_in t) (placed_of t a) o) (of_order j))) ≡ true
          by None e = absurd (cc)
          by (Some o) e = by_unmet o (is_unmet (placed_in s) (placed_of s a) o) refl e

      below_keeps : (n : ℕ) → Keeps q (flat_map (conflict_of s a) (broken_below (placed_in s) (placed_of s a) links broken_orders n)) (flat_map (conflict_of t a) (broken_below (placed_in t) (placed_of t a) links broken_orders n))
      below_keeps zero e = absurd (cc)
      below_keeps (suc n) e =
          keeps_both q (conflict_of s a) (conflict_of t a)
          (broken_below (placed_in s) (placed_of s a) links broken_orders n) (broken_at (placed_in s) (placed_of s a) links broken_orders n)
          (broken_below (placed_in t) (placed_of t a) links broken_orders n) (broken_at (placed_in t) (placed_of t a) links broken_orders n)
          (below_keeps n)
          (keeps_both q (conflict_of s a) (conflict_of t a)
          (when (is_link_broken (placed_in s) (placed_of s a) (slice_get links n)) (of_link n)) (when (is_order_broken (placed_in s) (placed_of s a) (slice_get broken_orders n)) (of_order n))
          (when (is_link_broken (placed_in t) (placed_of t a) (slice_get links n)) (of_link n)) (when (is_order_broken (placed_in t) (placed_of t a) (slice_get broken_orders n)) (of_order n))
          (link_keeps n) (order_keeps n)) e

      pub links_keep : has q (links_at s a) ≡ true → has q (links_at t a) ≡ true
      unfolding links_at
      links_keep = below_keeps (max (length links) (length broken_orders))
