-- What holds of a tree whose counts keep their limits, as far as numbers must fit their types.
use Rattle.std.specs.Prelude.{◌≡◌, ◌≤◌, List, length, All, map}
use Rattle.pl_syntax.specs.declared.whole.Item.{Item}
use Rattle.pl_syntax.specs.declared.whole.Item.TheVariants as item
use Rattle.pl_syntax.specs.declared.timelines.AstTimeline.{AstTimeline}
use Rattle.pl_syntax.specs.declared.timelines.AstTimeline.TheVariants as line
use Rattle.pl_syntax.specs.declared.kinds.AstKind.{AstKind}
use Rattle.pl_syntax.specs.declared.alternatives.AstAlternative.{AstAlternative}
use Rattle.pl_check.specs.Names.{Name, item_name}

abbrev pub IsSmallAlternative : AstAlternative → Type 0
IsSmallAlternative a = (length a.slots ≤ 16) × (length a.orders ≤ 64)

pub record IsSmallKind (k : AstKind) : Type 0 where
  pub params : length k.params ≤ 16
  pub alternatives : All IsSmallAlternative k.alternatives
  pub few_alternatives : length k.alternatives ≤ 8

abbrev pub IsSmallLine : AstTimeline → Type 0
IsSmallLine (line.Capacity name most) = Unit {0}
IsSmallLine (line.Level name least most start) = Unit {0}
IsSmallLine (line.States name states start any steps) = length states ≤ 32

abbrev pub IsSmallItem : Item → Type 0
IsSmallItem (item.Timeline l) = IsSmallLine l
IsSmallItem (item.Kind k) = IsSmallKind k

-- the items of a text whose counts keep their limits, and their names by number
pub record IsScope (names : List Name) (items : List Item) : Type 0 where
  pub named : names ≡ map item_name items
  pub few : length items ≤ 512
  pub small : All IsSmallItem items
