-- The places of goals by their numbers.
use Rattle.std.specs.Prelude.{◌≡◌, ℕ, List, position}
use Rattle.std.specs.Ordering.{nat_cmp}
use Rattle.std.specs.declared.cmp.Ordering.{Ordering}
use Rattle.std.specs.declared.cmp.Reverse.{Reverse}
use Rattle.std.specs.BTreeMap.{BTreeMap, get}
use Rattle.pl_facts.specs.declared.goal.Goal.{Goal}
use Rattle.pl_facts.specs.Goals.{AreDistinct, is_numbered}

-- the order of numbers from the greatest down
abbrev pub down : Reverse ℕ → Reverse ℕ → Ordering
down one other = nat_cmp other.0 one.0

-- each number has one goal at most, and the map has its place
pub record AreIndexed (places : BTreeMap (Reverse ℕ) ℕ) (goals : List Goal) : Type 0 where
  pub distinct : AreDistinct goals
  pub placed : (number : ℕ) → get down places (record { 0 = number }) ≡ position (is_numbered number) goals
