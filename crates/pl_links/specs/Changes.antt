-- What came to a list of what is broken, and what went.
use Rattle.std.specs.Prelude.{◌≡◌, ◌&&◌, not, List}
use Rattle.std.specs.List.Sorted.{IsStrictlySortedBy}
use Rattle.pl_links.specs.declared.broken.Broken.{Broken}
use Rattle.pl_links.specs.declared.changes.Changes.{Changes}
use Rattle.pl_links.specs.Sets.{broken_cmp, has}

-- Exactly what the new list has and the old one has not came, and exactly what the old one has and
-- the new one has not went, each once and in the order of the lists.
pub record Tells (old new : List Broken) (changes : Changes) : Type 0 where
  pub came : (b : Broken) → has b changes.came.items ≡ (has b new && not (has b old))
  pub went : (b : Broken) → has b changes.went.items ≡ (has b old && not (has b new))
  pub came_once : IsStrictlySortedBy broken_cmp changes.came.items
  pub went_once : IsStrictlySortedBy broken_cmp changes.went.items
