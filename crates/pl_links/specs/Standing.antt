-- Whether a link or an order, named by its activity and its index, is broken.
use Rattle.std.specs.Prelude.{ℕ, Bool, false, List, Option, Some, None}
use Rattle.pl_model.specs.declared.whole.Model.{Model}
use Rattle.pl_links.specs.declared.placed.Placed.{Placed}
use Rattle.pl_links.specs.declared.broken.Broken.{Broken}
use Rattle.pl_links.specs.Items.{item_of}
use Rattle.pl_links.specs.Broken.{links_of, orders_of}
use Rattle.pl_links.specs.Laws.{fails_at}

abbrev pub stands_at : Model → List Placed → Broken → Option Placed → Bool
stands_at model items b None = false
stands_at model items b (Some own) =
    fails_at items own (links_of model own) (orders_of model own) b.index b.slots

-- it is a link without a partner, or an order that is not met, of the placed activity of its id
abbrev pub stands : Model → List Placed → Broken → Bool
stands model items b = stands_at model items b (item_of b.id items)
