-- Kinds that help, each with its number.
use Rattle.std.specs.Prelude.{ℕ, ◌-◌, Bool, List, ◌++◌, map, take, filter, length}
use Rattle.std.specs.List.{list_any}
use Rattle.pl_model.specs.declared.kinds.Kind.{Kind}
use Rattle.pl_cand.specs.declared.help.Help.{Help}
use Rattle.pl_cand.specs.Tests.{helps}

abbrev pub is_helper : ℕ → Help → ℕ × Kind → Bool
is_helper line help k = list_any (helps line help) k.1.reservations

abbrev pub number_of : ℕ × Kind → ℕ
number_of k = k.0

-- the numbers found so far, and those that will be found among the other kinds
abbrev pub helpers_with : ℕ → Help → List ℕ → List (ℕ × Kind) → List ℕ
helpers_with line help found rest = found ++ map number_of (take (4 - length found) (filter (is_helper line help) rest))
