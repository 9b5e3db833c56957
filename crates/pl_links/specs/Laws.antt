-- What is broken, one by one.
use Rattle.std.specs.Prelude.{◌≡◌, ◌⊎◌, ℕ, ◌<◌, ◌==◌, ◌||◌, Bool, true, false, List, Option, Some, None, Contains, slice_get}
use Rattle.std.specs.List.{list_any}
use Rattle.pl_model.specs.declared.links.Link.{Link}
use Rattle.pl_model.specs.declared.alternatives.Order.{Order}
use Rattle.pl_model.specs.declared.whole.Model.{Model}
use Rattle.pl_links.specs.declared.placed.Placed.{Placed}
use Rattle.pl_links.specs.declared.broken.Broken.{Broken}
use Rattle.pl_links.specs.Broken.{is_partner, is_link_broken, is_order_broken, links_of, orders_of}

-- the link of this index, or the order, where slots are asked about
abbrev pub fails_at : List Placed → Placed → List Link → List Order → ℕ → Bool → Bool
fails_at items own links orders index false = is_link_broken items own (slice_get links index)
fails_at items own links orders index true = is_order_broken items own (slice_get orders index)

-- it is a link without a partner, or an order that is not met, of a placed activity
pub record IsBroken (model : Model) (items : List Placed) (b : Broken) : Type 0 where
  pub own : Placed
  pub placed : Contains items own
  pub id : own.id ≡ b.id
  pub failing : fails_at items own (links_of model own) (orders_of model own) b.index b.slots ≡ true

-- by id, and then by index, and at one index the link first
abbrev pub IsBefore : Broken → Broken → Type 0
IsBefore x y =
    (x.id < y.id)
    ⊎ ((x.id ≡ y.id)
    × ((x.index < y.index) ⊎ ((x.index ≡ y.index) × (x.slots ≡ false) × (y.slots ≡ true))))

-- it is the parent in this place
abbrev pub is_parent : ℕ → Option (ℕ × ℕ) → Bool
is_parent id None = false
is_parent id (Some place) = place.0 == id

-- Where the first activity comes or goes, what the second one breaks may change only if it is the
-- same one, its parent, or the owner of a link to which it can be a partner.
abbrev pub is_concerned : Model → Placed → Placed → Bool
is_concerned model p own =
    (own.id == p.id)
    || (is_parent own.id p.parent || list_any (λ link. is_partner link own p) (links_of model own))
