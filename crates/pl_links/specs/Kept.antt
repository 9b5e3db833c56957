-- What a store keeps: the placed activities, and what they break.
use Rattle.std.specs.Prelude.{◌≡◌, ℕ, List, Option, Some, None}
use Rattle.std.specs.List.Sorted.{IsStrictlySortedBy}
use Rattle.pl_model.specs.declared.whole.Model.{Model}
use Rattle.pl_links.specs.declared.placed.Placed.{Placed}
use Rattle.pl_links.specs.declared.broken.Broken.{Broken}
use Rattle.pl_links.specs.Items.{AreRising, AreApart, without}
use Rattle.pl_links.specs.Broken.{broken_of}
use Rattle.pl_links.specs.Sets.{broken_cmp}

-- the placed activities by rising id, and what is listed as broken
pub record Kept : Type 0 where
  pub items : List Placed
  pub broken : List Broken

-- these activities with what they break
abbrev pub kept_of : Model → List Placed → Kept
kept_of model items = record { items = items; broken = broken_of model items }

-- What is listed is what the activities break by this model: after `new` by any, and then by the
-- model of the calls.
abbrev pub IsFor : Model → Kept → Type 0
IsFor model kept = kept.broken ≡ broken_of model kept.items

-- ids rise, no slot is filled twice, and what is broken stands in order
pub record IsSound (kept : Kept) : Type 0 where
  pub rising : AreRising kept.items
  pub apart : AreApart kept.items
  pub sorted : IsStrictlySortedBy broken_cmp kept.broken

-- the activities before a change: without the one that came, or with the one that goes
abbrev pub before : Option ℕ → ℕ → List Placed → List Placed
before None id items = without id items
before (Some gone) id items = items
