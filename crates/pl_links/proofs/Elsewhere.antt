-- Elsewhere than near an activity nothing changes where it comes or goes.
use Rattle.std.proofs.Common.{◌≡◌, ℕ, zero, suc, max, eqb, Bool, true, false, List, [], ◌∷◌, ◌++◌, length, Option, Some, None, refl, sym, ap, ◌∙◌, arith}
use Rattle.std.specs.Prelude.{◌&&◌, ◌||◌, not, is_some, slice_get, option_and_then}
use Rattle.std.specs.List.{list_any}
use Rattle.std.proofs.lemmas.Bool.{and_left, or_parts}
use Rattle.pl_model.specs.declared.reservations.Point.{Point}
use Rattle.pl_model.specs.declared.links.Link.{Link}
use Rattle.pl_model.specs.declared.alternatives.Order.{Order}
use Rattle.pl_model.specs.declared.whole.Model.{Model}
use Rattle.pl_links.specs.declared.placed.Placed.{Placed}
use Rattle.pl_links.specs.declared.broken.Broken.{Broken}
use Rattle.pl_links.specs.Items.{is_slot, fills, item_of, with_item, without}
use Rattle.pl_links.specs.Broken.{moment_of, is_partner, lacks_partner, moment_in, is_unmet, is_link_broken, is_order_broken, when, broken_at, broken_below, broken_by, links_of, orders_of}
use Rattle.pl_links.specs.Laws.{is_parent, is_concerned}
use Rattle.pl_links.proofs.BrokenLaws.{broken}
use Rattle.pl_links.proofs.Covers.{any_without, find_without}
use Rattle.pl_links.proofs.Filed.{item-with}
use Rattle.pl_links.proofs.Keeping.{without-with}
use Rattle.std.proofs.lemmas.Bool.{eq-eqb}

none_at : (f : Link → Bool) (links : List Link) (i : ℕ) (link : Link) → list_any f links ≡ false → slice_get links i ≡ Some link → f link ≡ false
none_at f [] i link none at = absurd (let h : None ≡ Some link = at in (cc))
none_at f (x ∷ links) zero link none at =
    let same : Some x ≡ Some link = at in
    let is : link ≡ x = cc in
    ap f is ∙ (or_parts (f x) (list_any f links) none).0
none_at f (x ∷ links) (suc i) link none at = none_at f links i link (or_parts (f x) (list_any f links) none).1 at

module _ (items : List Placed) (p own : Placed) (here : item_of p.id items ≡ Some p) where
  no_parent : is_parent own.id p.parent ≡ false → (slot : ℕ) → fills own.id slot p ≡ false
  no_parent none slot = cases p.parent none
    where
      cases : (o : Option (ℕ × ℕ)) → is_parent own.id o ≡ false → is_slot own.id slot o ≡ false
      cases None e = refl
      cases (Some q) e = and_left (eqb q.0 own.id) (eqb q.1 slot) e

  pub moment_same : ((slot : ℕ) → fills own.id slot p ≡ false) → (o : Option ℕ) (point : Point) → moment_in items own o point ≡ moment_in (without p.id items) own o point
  moment_same apart None point = refl
  moment_same apart (Some slot) point = ap (option_and_then (moment_of point)) (sym (find_without (fills own.id slot) p items here (apart slot)))

  pub unmet_same : ((slot : ℕ) → fills own.id slot p ≡ false) → (order : Order) → is_unmet items own order ≡ is_unmet (without p.id items) own order
  unmet_same apart order = rw (moment_same apart order.first order.first_end, moment_same apart order.second order.second_end) refl

  links_same : (links : List Link) → list_any (λ link. is_partner link own p) links ≡ false → (i : ℕ) (o : Option Link) → slice_get links i ≡ o → is_link_broken (without p.id items) own o ≡ is_link_broken items own o
  links_same links none i None at = refl
  links_same links none i (Some link) at = ap (λ t. is_some own.end && not t) (any_without (is_partner link own) p items here (none_at (λ l. is_partner l own p) links i link none at))

  orders_same : is_parent own.id p.parent ≡ false → (o : Option Order) → is_order_broken (without p.id items) own o ≡ is_order_broken items own o
  orders_same none None = refl
  orders_same none (Some order) = sym (unmet_same (no_parent none) order)

  below_same : (links : List Link) (orders : List Order) → list_any (λ link. is_partner link own p) links ≡ false → is_parent own.id p.parent ≡ false → (n : ℕ) → broken_below (without p.id items) own links orders n ≡ broken_below items own links orders n
  below_same links orders none apart zero = refl
  below_same links orders none apart (suc n) =
      let link = links_same links none n (slice_get links n) refl in
      let order = orders_same apart (slice_get orders n) in
      let more = below_same links orders none apart n in
      rw (more, link, order) refl

  pub elsewhere : (model : Model) → is_concerned model p own ≡ false → broken_by model (without p.id items) own ≡ broken_by model items own
  elsewhere model none =
      let parts = or_parts (eqb own.id p.id) (is_parent own.id p.parent || list_any (λ link. is_partner link own p) (links_of model own)) none in
      let more = or_parts (is_parent own.id p.parent) (list_any (λ link. is_partner link own p) (links_of model own)) parts.1 in
      below_same (links_of model own) (orders_of model own) more.1 more.0 (max (length (links_of model own)) (length (orders_of model own)))

pub elsewhere_with : (model : Model) (items : List Placed) (p own : Placed) → item_of p.id items ≡ None → is_concerned model p own ≡ false → broken_by model (with_item p items) own ≡ broken_by model items own
elsewhere_with model items p own absent none =
    let here : item_of p.id (with_item p items) ≡ Some p = item-with p p.id items absent ∙ rw (eq-eqb p.id p.id refl) refl in
    sym (elsewhere (with_item p items) p own here model none) ∙ ap (λ l. broken_by model l own) (without-with p items absent)
