-- What placed activities break, under new ids.
use Rattle.std.proofs.Common.{◌≡◌, ℕ, zero, suc, eqb, Bool, true, false, List, length, Option, Some, None, refl, ap, ◌∙◌}
use Rattle.std.specs.Prelude.{◌&&◌, not, map, slice_get, is_some, option_and_then, max}
use Rattle.std.specs.Option.{option_map}
use Rattle.pl_model.specs.declared.reservations.Point.{Point}
use Rattle.pl_model.specs.declared.links.Link.{Link}
use Rattle.pl_model.specs.declared.alternatives.Order.{Order}
use Rattle.pl_model.specs.declared.whole.Model.{Model}
use Rattle.pl_links.specs.declared.placed.Placed.{Placed}
use Rattle.pl_links.specs.declared.broken.Broken.{Broken}
use Rattle.pl_links.specs.Items.{fills, child_of}
use Rattle.pl_links.specs.Broken.{moment_of, are_apart, are_misplaced, is_partner, lacks_partner, moment_in, is_unmet, links_of, orders_of, when, is_link_broken, is_order_broken, broken_at, broken_below, broken_by}
use Rattle.pl_renumbering.specs.Renumbered.{KeepsOrder}
use Rattle.pl_renumbering.specs.Carried.{renumbered_placed, renumbered_broken}
use Rattle.pl_renumbering.proofs.Lists.{any_mapped, find_mapped, both_mapped}
use Rattle.pl_renumbering.proofs.Numbers.{same_ids}
use Rattle.pl_renumbering.proofs.Activities.{slot_same}

module _ (f : ℕ → ℕ) (keeps : KeepsOrder f) where
  partner_same : (link : Link) (own other : Placed) → is_partner link (renumbered_placed f own) (renumbered_placed f other) ≡ is_partner link own other
  partner_same link own other =
      ap (λ b. not b && (eqb other.kind link.kind && are_apart link.low link.high (moment_of link.mine own) (moment_of link.theirs other))) (same_ids f keeps other.id own.id)

  module _ (items : List Placed) where
    abbrev moved : List Placed
    moved = map (renumbered_placed f) items

    lacks_same : (own : Placed) (link : Link) → lacks_partner moved (renumbered_placed f own) link ≡ lacks_partner items own link
    lacks_same own link = ap (λ b. is_some own.end && not b)
        (any_mapped (renumbered_placed f) (is_partner link (renumbered_placed f own)) (is_partner link own) (partner_same link own) items)

    pub child_along : (parent slot : ℕ) → child_of (f parent) slot moved ≡ option_map (renumbered_placed f) (child_of parent slot items)
    child_along parent slot = find_mapped (renumbered_placed f) (fills (f parent) slot) (fills parent slot) (λ p. slot_same f keeps parent slot p.parent) items

    moment_same : (own : Placed) (slot : Option ℕ) (point : Point) → moment_in moved (renumbered_placed f own) slot point ≡ moment_in items own slot point
    moment_same own None point = refl
    moment_same own (Some slot) point = ap (option_and_then (moment_of point)) (child_along own.id slot) ∙ by (child_of own.id slot items)
      where
        by : (o : Option Placed) → option_and_then (moment_of point) (option_map (renumbered_placed f) o) ≡ option_and_then (moment_of point) o
        by None = refl
        by (Some p) = refl

    unmet_same : (own : Placed) (o : Order) → is_unmet moved (renumbered_placed f own) o ≡ is_unmet items own o
    unmet_same own o =
        ap (λ m. are_misplaced o.low o.high m (moment_in moved (renumbered_placed f own) o.second o.second_end)) (moment_same own o.first o.first_end)
        ∙ ap (are_misplaced o.low o.high (moment_in items own o.first o.first_end)) (moment_same own o.second o.second_end)

    link_same : (own : Placed) (o : Option Link) → is_link_broken moved (renumbered_placed f own) o ≡ is_link_broken items own o
    link_same own None = refl
    link_same own (Some link) = lacks_same own link

    order_same : (own : Placed) (o : Option Order) → is_order_broken moved (renumbered_placed f own) o ≡ is_order_broken items own o
    order_same own None = refl
    order_same own (Some o) = unmet_same own o

    single : (b c : Bool) (x : Broken) → b ≡ c → when b (renumbered_broken f x) ≡ map (renumbered_broken f) (when c x)
    single b c x e = ap (λ d. when d (renumbered_broken f x)) e ∙ by c
      where
        by : (d : Bool) → when d (renumbered_broken f x) ≡ map (renumbered_broken f) (when d x)
        by true = refl
        by false = refl

    at_along : (own : Placed) (links : List Link) (orders : List Order) (index : ℕ)
        → broken_at moved (renumbered_placed f own) links orders index ≡ map (renumbered_broken f) (broken_at items own links orders index)
    at_along own links orders index = both_mapped (renumbered_broken f) _ _ _ _
        (single _ _ (record { id = own.id; index = index; slots = false }) (link_same own (slice_get links index)))
        (single _ _ (record { id = own.id; index = index; slots = true }) (order_same own (slice_get orders index)))

    below_along : (own : Placed) (links : List Link) (orders : List Order) (n : ℕ)
        → broken_below moved (renumbered_placed f own) links orders n ≡ map (renumbered_broken f) (broken_below items own links orders n)
    below_along own links orders zero = refl
    below_along own links orders (suc n) = both_mapped (renumbered_broken f) _ _ _ _ (below_along own links orders n) (at_along own links orders n)

    pub broken_along : (model : Model) (own : Placed) → broken_by model moved (renumbered_placed f own) ≡ map (renumbered_broken f) (broken_by model items own)
    broken_along model own = below_along own (links_of model own) (orders_of model own) (max (length (links_of model own)) (length (orders_of model own)))
