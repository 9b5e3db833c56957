-- Changes of a store that are told one after another.
use Rattle.std.specs.Prelude.{◌≡◌, ℕ, false, List}
use Rattle.std.specs.List.{fold}
use Rattle.pl_links.specs.declared.broken.Broken.{Broken}
use Rattle.pl_links.specs.declared.placed.Placed.{Placed}
use Rattle.pl_links.specs.Items.{without}
use Rattle.pl_links.specs.Sets.{has}

-- What is not told by now was not told before, and is broken now as it was before.
pub record TellsAll (told_before told_now : List Broken) (old new : List Broken) : Type 0 where
  pub untold : (b : Broken) → has b told_now ≡ false → has b told_before ≡ false
  pub unchanged : (b : Broken) → has b told_now ≡ false → has b new ≡ has b old

-- without the activities of these ids
abbrev pub all_without : List ℕ → List Placed → List Placed
all_without gone items = fold (λ all id. without id all) items gone
