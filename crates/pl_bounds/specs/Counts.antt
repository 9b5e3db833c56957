-- Conflicts that differ.
use Rattle.std.specs.Prelude.{◌≡◌, false, List, [], ◌∷◌}
use Rattle.pl_conflict.specs.declared.conflict.Conflict.{Conflict}
use Rattle.pl_conflict.specs.Order.{has}

-- none of them stands twice
abbrev pub AreApart : List Conflict → Type 0
AreApart [] = Unit {0}
AreApart (k ∷ ks) = (has k ks ≡ false) × AreApart ks
