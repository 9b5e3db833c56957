-- A shift of a child from which no other activity descends: the orders of its parent that speak of it and are not met at its new start
-- are conflicts then.
use Rattle.std.proofs.Common.{◌≡◌, ℕ, ◌+◌, ◌<◌, ◌≤◌, Bool, true, false, cond, List, [], ◌∷◌, filter, find, length, Option, Some, None, refl, sym, ap, ◌∙◌, subst, arith}
use Rattle.std.specs.Prelude.{◌||◌, slice_get, option_and_then}
use Rattle.std.specs.Option.{option_map}
use Rattle.std.proofs.lemmas.Bool.{and_parts}
use Rattle.std.proofs.Math.Bool.{or-true}
use Rattle.pl_conflict.specs.declared.conflict.Conflict.{Conflict}
use Rattle.pl_conflict.specs.declared.conflict.Code.TheVariants.{Linked}
use Rattle.pl_conflict.specs.Order.{has}
use Rattle.pl_model.specs.declared.alternatives.Order.{Order}
use Rattle.pl_model.specs.declared.reservations.Point.{Point}
use Rattle.pl_links.specs.declared.placed.Placed.{Placed}
use Rattle.pl_links.specs.Items as links
use Rattle.pl_links.specs.Items.{child_of}
use Rattle.pl_links.specs.Broken.{are_misplaced, moment_of, moment_in, is_unmet, orders_of}
use Rattle.pl_links.proofs.Slots.{place_is}
use Rattle.pl_plan.specs.declared.activity.Activity.{Activity}
use Rattle.pl_plan.specs.declared.repair.RepairMove.TheVariants.{Shift}
use Rattle.pl_plan.specs.Fitting.{fills}
use Rattle.pl_plan.specs.Trees.{parent_in, parent_id, parent_of, subtree_of}
use Rattle.pl_plan.proofs.Climbs.{all_at, parent_smaller}
use Rattle.pl_plan.proofs.Kept.{each_found}
use Rattle.pl_detect.proofs.Stored.{child_is}
use Rattle.pl_semantics.specs.declared.plan_state.PlanState.{PlanState}
use Rattle.pl_semantics.specs.Links.{placed_of, placed_in, place_in, link_conflicts}
use Rattle.pl_semantics.specs.Moves.{applied, moved, moved_with}
use Rattle.pl_semantics.specs.PlanStates.{found, is_ahead}
use Rattle.pl_semantics.specs.Whole.{IsWhole}
use Rattle.pl_semantics.proofs.Found.{found_id, found_live}
use Rattle.pl_update.proofs.AboutChanges.Keeping.{whole_replaced}
use Rattle.pl_moves.specs.Runs.{CanBeMade}
use Rattle.pl_bounds.specs.Orders.{is_moved, speaks_of, moment_with, is_missed, is_unmet_with, unmet_under, unmet_above, unmet_then}
use Rattle.pl_bounds.specs.Ties.{placed_at}
use Rattle.pl_bounds.proofs.Gathered.{AreLinks}
use Rattle.pl_bounds.proofs.Indexed.{conflicts_from, as_many, each_from, all_apart}
use Rattle.pl_bounds.proofs.Partners as partners
use Rattle.pl_bounds.proofs.Partners.{leaf_by_length}
use Rattle.pl_bounds.proofs.Shifting.{by_replacing, may_replace}
use Rattle.pl_bounds.proofs.Slots.{only_there, found_passing, found_changed}
use Rattle.pl_bounds.proofs.Misplaced.{unmet_one, unmet_stands}

-- as many different conflicts of orders of the parent, which stand after the shift
pub record LeavesUnmet (s : PlanState) (id to : ℕ) (ks : List Conflict) : Type 0 where
  pub many : length ks ≡ unmet_then s to (option_map (placed_of s) (found s id))
  pub are : AreLinks (applied s (Shift id to)) ks
  pub linked : (q : Conflict) → has q ks ≡ true → q.code ≡ Linked
  pub above : (q : Conflict) → has q ks ≡ true → parent_of id s.plan.activities ≡ Some q.subject

-- no conflict is left where there is no order
none_unmet : (s : PlanState) (id to : ℕ) → unmet_then s to (option_map (placed_of s) (found s id)) ≡ 0 → LeavesUnmet s id to []
none_unmet s id to none = record { many = sym none; are = record { apart = tt; stand = λ q e. absurd (cc) }; linked = λ q e. absurd (cc); above = λ q e. absurd (cc) }

module _ (s : PlanState) (whole : IsWhole s) (next : s.next_id ≤ 3999999000) (id to : ℕ) (top : Activity) (here : found s id ≡ Some top) (can : CanBeMade s (Shift id to)) (leaf : subtree_of id s.plan.activities ≡ id ∷ []) where
  abbrev xs : List Activity
  xs = s.plan.activities

  abbrev t : PlanState
  t = partners.t s whole next id to top here can leaf

  abbrev one : Activity → Activity
  one a = partners.one s whole next id to top here can leaf a

  abbrev own : Activity
  own = partners.own s whole next id to top here can leaf

  abbrev child : Placed
  child = placed_at to (placed_of s top)

  placed_own : child ≡ placed_of t own
  placed_own = partners.placed_own s whole next id to top here can leaf

  whole_then : IsWhole t
  whole_then = whole_replaced s (subtree_of id xs) (moved_with s to (found s id)) whole (may_replace s whole next id to top here can)

  itself_then : one top ≡ own
  itself_then =
      let it : found t top.id ≡ Some own = partners.live_then s whole next id to top here can leaf in
      let same : found t top.id ≡ Some (one top) = partners.finds s whole next id to top here can leaf top.id ∙ ap (option_map one) (ap (found s) (partners.own_id s whole next id to top here can leaf) ∙ here) in
      let both : Some (one top) ≡ Some own = sym same ∙ it in
      cc

  -- another one stays
  module _ (y : Activity) (live : found s y.id ≡ Some y) (other : y.id ≡ id → ⊥) where
    stays : one y ≡ y
    stays = partners.same_one s whole next id to top here can leaf y
        (all_at (λ (z : Activity). partners.under s whole next id to top here can leaf z ≡ true → z.id ≡ id) xs y.id y (partners.only_it s whole next id to top here can leaf) live).0 other

    placed_too : placed_of t y ≡ placed_of s y
    placed_too = partners.placed_same s whole next id to top here can leaf y live stays

  -- ---- its parent

  module _ (parent slot : ℕ) (place : top.parent ≡ Some (parent, slot)) (a : Activity) (there : found s parent ≡ Some a) where
    is_it : a.id ≡ parent
    is_it = found_id parent xs a there

    live : found s a.id ≡ Some a
    live = found_live parent xs a there

    named : parent_of id xs ≡ Some parent
    named = ap (option_and_then parent_in) here ∙ ap parent_id place

    smaller : a.id < id
    smaller =
        let above : parent < id = (parent_smaller xs whole.fits.rooted id parent named).1 in
        subst (λ (n : ℕ). n < id) (sym is_it) above

    no_child : a.id ≡ id → ⊥
    no_child e = absurd (omega (arith, e, smaller))

    live_then : found t a.id ≡ Some a
    live_then = partners.finds s whole next id to top here can leaf a.id ∙ (ap (option_map one) live ∙ ap (λ (z : Activity). Some z) (stays a live no_child))

    same_placed : placed_of t a ≡ placed_of s a
    same_placed = placed_too a live no_child

    -- who is in a slot then
    keeps_slot : (n m : ℕ) (z : Activity) → fills n m (one z) ≡ fills n m z
    keeps_slot n m z = by (partners.under s whole next id to top here can leaf z)
      where
        by : (b : Bool) → fills n m (cond b (moved top.start to z) z) ≡ fills n m z
        by true = refl
        by false = refl

    in_slot : (n : ℕ) → find (fills a.id n) t.plan.activities ≡ option_map one (find (fills a.id n) xs)
    in_slot n = ap (λ (zs : List Activity). find (fills a.id n) zs) (partners.acts s whole next id to top here can leaf) ∙ found_changed (fills a.id n) one (keeps_slot a.id n) xs

    -- the moved child's slot
    own_slot : (n : ℕ) → links.fills a.id n child ≡ true → find (fills a.id n) t.plan.activities ≡ Some own
    own_slot n e =
        let is : top.parent ≡ Some (a.id, n) = place_is a.id n top.parent e in
        in_slot n ∙ (ap (option_map one) (only_there s whole id top here a.id n is) ∙ ap (λ (z : Activity). Some z) itself_then)

    moved_there : (end : Option ℕ) → is_moved (placed_of s a) child end ≡ true → place_in t a end ≡ Some own
    moved_there None e = absurd (let bad : false ≡ true = e in cc)
    moved_there (Some n) e = own_slot n e

    -- another one
    other_slot : (n : ℕ) → links.fills a.id n child ≡ false → option_map (placed_of t) (find (fills a.id n) t.plan.activities) ≡ option_map (placed_of s) (find (fills a.id n) xs)
    other_slot n e = ap (option_map (placed_of t)) (in_slot n) ∙ by (find (fills a.id n) xs) refl
      where
        by : (o : Option Activity) → find (fills a.id n) xs ≡ o → option_map (placed_of t) (option_map one o) ≡ option_map (placed_of s) o
        by None is = refl
        by (Some y) is =
            let it = found_passing (fills a.id n) (λ (z : Activity). found s z.id ≡ Some z) xs (each_found xs whole.rising) y is in
            let other : y.id ≡ id → ⊥ = λ same.
            (let both : Some y ≡ Some top = sym it.1 ∙ (ap (found s) same ∙ here) in
            let equal : y ≡ top = cc in
            let bad : false ≡ true = sym e ∙ (ap (fills a.id n) (sym equal) ∙ it.0) in
            absurd (cc)) in
            ap (λ (z : Activity). Some (placed_of t z)) (stays y it.1 other) ∙ ap (λ (p : Placed). Some p) (placed_too y it.1 other)

    -- ---- moments

    same_moment : (end : Option ℕ) (point : Point) → moment_in (placed_in t) (placed_of t a) end point ≡ moment_with (placed_in s) (placed_of s a) child end point
    same_moment None point = ap (moment_of point) same_placed
    same_moment (Some n) point = ap (option_and_then (moment_of point)) (child_is t a.id n t.plan.activities) ∙ by (links.fills a.id n child) refl
      where
        by : (b : Bool) → links.fills a.id n child ≡ b → option_and_then (moment_of point) (option_map (placed_of t) (find (fills a.id n) t.plan.activities)) ≡ cond b (moment_of point child) (option_and_then (moment_of point) (child_of a.id n (placed_in s)))
        by true e = ap (λ (o : Option Activity). option_and_then (moment_of point) (option_map (placed_of t) o)) (own_slot n e) ∙ ap (moment_of point) (sym placed_own)
        by false e = ap (option_and_then (moment_of point)) (other_slot n e ∙ sym (child_is s a.id n xs))

    unmet_too : (order : Order) → is_missed (placed_in s) (placed_of s a) child order ≡ true → is_unmet (placed_in t) (placed_of t a) order ≡ true
    unmet_too order e =
        ap (λ (o : Option ℕ). are_misplaced order.low order.high o (moment_in (placed_in t) (placed_of t a) order.second order.second_end)) (same_moment order.first order.first_end)
        ∙ (ap (λ (o : Option ℕ). are_misplaced order.low order.high (moment_with (placed_in s) (placed_of s a) child order.first order.first_end) o) (same_moment order.second order.second_end) ∙ e)

    -- ---- ahead

    ahead : is_ahead t own ≡ true
    ahead = partners.ahead s whole next id to top here can leaf

    goes_ahead : (order : Order) → speaks_of (placed_of s a) child order ≡ true → (x y : Activity) → place_in t a order.first ≡ Some x → place_in t a order.second ≡ Some y → (is_ahead t a || (is_ahead t x || is_ahead t y)) ≡ true
    goes_ahead order e x y first second = by (is_moved (placed_of s a) child order.first) refl e
      where
        by : (b : Bool) → is_moved (placed_of s a) child order.first ≡ b → (b || is_moved (placed_of s a) child order.second) ≡ true → (is_ahead t a || (is_ahead t x || is_ahead t y)) ≡ true
        by true f h =
            let both : Some x ≡ Some own = sym first ∙ moved_there order.first f in
            let equal : x ≡ own = cc in
            let goes : is_ahead t x ≡ true = ap (is_ahead t) equal ∙ ahead in
            ap (λ (b : Bool). is_ahead t a || (b || is_ahead t y)) goes ∙ or-true (is_ahead t a)
        by false f h =
            let both : Some y ≡ Some own = sym second ∙ moved_there order.second h in
            let equal : y ≡ own = cc in
            let goes : is_ahead t y ≡ true = ap (is_ahead t) equal ∙ ahead in
            ap (λ (b : Bool). is_ahead t a || (is_ahead t x || b)) goes ∙ (ap (λ (b : Bool). is_ahead t a || b) (or-true (is_ahead t x)) ∙ or-true (is_ahead t a))

    -- ---- together

    abbrev orders : List Order
    orders = orders_of s.model (placed_of s a)

    abbrev test : Order → Bool
    test order = is_unmet_with (placed_in s) (placed_of s a) child order

    abbrev all : List Conflict
    all = conflicts_from test (unmet_one t a) 0 orders

    each_stands : (j : ℕ) (order : Order) → slice_get orders j ≡ Some order → test order ≡ true → has (unmet_one t a j order) (link_conflicts t) ≡ true
    each_stands j order is passes =
        let both = and_parts (speaks_of (placed_of s a) child order) (is_missed (placed_in s) (placed_of s a) child order) passes in
        let is_then : slice_get (orders_of t.model (placed_of t a)) j ≡ Some order = ap (λ (p : Placed). slice_get (orders_of s.model p) j) same_placed ∙ is in
        unmet_stands t a whole_then.rising live_then j order is_then (unmet_too order both.1) (goes_ahead order both.0)

    number : unmet_then s to (option_map (placed_of s) (found s id)) ≡ length (filter test orders)
    number =
        ap (λ (o : Option Activity). unmet_then s to (option_map (placed_of s) o)) here
        ∙ (ap (unmet_above s child) place
        ∙ ap (λ (o : Option Activity). unmet_under s child (option_map (placed_of s) o)) there)

    pub leaves_all : LeavesUnmet s id to all
    leaves_all = record {
      many = as_many test (unmet_one t a) 0 orders ∙ sym number;
      are = subst (λ (w : PlanState). AreLinks w all) (by_replacing s whole next id to top here can).is (record {
        apart = all_apart test (unmet_one t a) (λ i order. refl) 0 orders;
        stand = λ q e. each_from test (unmet_one t a) (λ (k : Conflict). has k (link_conflicts t) ≡ true) 0 orders (λ j order is passes. let zero : 0 + j ≡ j = omega arith in subst (λ (n : ℕ). has (unmet_one t a n order) (link_conflicts t) ≡ true) (sym zero) (each_stands j order is passes)) q e;
      });
      linked = λ q e. each_from test (unmet_one t a) (λ (k : Conflict). k.code ≡ Linked) 0 orders (λ j order is passes. refl) q e;
      above = λ q e.
          let of : q.subject ≡ parent = each_from test (unmet_one t a) (λ (k : Conflict). k.subject ≡ parent) 0 orders (λ j order is passes. is_it) q e in
          named ∙ ap (λ (n : ℕ). Some n) (sym of);
    }

-- what a shift of an activity alone leaves of its parent's orders
pub unmet_left : (s : PlanState) → IsWhole s → s.next_id ≤ 3999999000 → (id to : ℕ) → CanBeMade s (Shift id to) → length (subtree_of id s.plan.activities) ≡ 1 → (ks : List Conflict) × LeavesUnmet s id to ks
unmet_left s whole next id to can alone = by (found s id) refl
  where
    by : (o : Option Activity) → found s id ≡ o → (ks : List Conflict) × LeavesUnmet s id to ks
    by None none = ([], none_unmet s id to (ap (λ (o : Option Activity). unmet_then s to (option_map (placed_of s) o)) none))
    by (Some top) here = under top.parent refl
      where
        of_top : unmet_then s to (option_map (placed_of s) (found s id)) ≡ unmet_above s (placed_at to (placed_of s top)) top.parent
        of_top = ap (λ (o : Option Activity). unmet_then s to (option_map (placed_of s) o)) here

        below : (place : ℕ × ℕ) → top.parent ≡ Some place → (o : Option Activity) → found s place.0 ≡ o → (ks : List Conflict) × LeavesUnmet s id to ks
        below place is None none = (
          [],
          none_unmet s id to (of_top ∙ (ap (unmet_above s (placed_at to (placed_of s top))) is ∙ ap (λ (o : Option Activity). unmet_under s (placed_at to (placed_of s top)) (option_map (placed_of s) o)) none)),
        )
        below place is (Some a) there =
            let leaf = leaf_by_length s whole id top here alone in
            (all s whole next id to top here can leaf place.0 place.1 is a there, leaves_all s whole next id to top here can leaf place.0 place.1 is a there)

        under : (o : Option (ℕ × ℕ)) → top.parent ≡ o → (ks : List Conflict) × LeavesUnmet s id to ks
        under None root = ([], none_unmet s id to (of_top ∙ ap (unmet_above s (placed_at to (placed_of s top))) root))
        under (Some place) is = below place is (found s place.0) refl
