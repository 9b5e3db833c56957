-- Conflicts in their order, and what an exchange makes of them.
use Rattle.std.specs.Prelude.{List, [], ◌∷◌, ◌++◌, filter, not}
use Rattle.std.specs.BTreeSet.{insert_key}
use Rattle.std.specs.List.Sorted.{IsStrictlySortedBy}
use Rattle.pl_conflict.specs.declared.conflict.Conflict.{Conflict}
use Rattle.pl_conflict.specs.Order.{conflict_cmp, has}

-- each is below all that follow it
abbrev pub AreInOrder : List Conflict → Type 0
AreInOrder ks = IsStrictlySortedBy conflict_cmp ks

-- the conflicts of a list in their order, none twice
unfoldable pub sorted : List Conflict → List Conflict
sorted [] = []
sorted (k ∷ ks) = insert_key conflict_cmp (sorted ks) k

-- those that did not go
abbrev pub left_by : List Conflict → List Conflict → List Conflict
left_by went ks = filter (λ k. not (has k went)) ks

-- those that did not go and those that came, in their order
unfoldable pub exchanged : List Conflict → List Conflict → List Conflict → List Conflict
exchanged ks went came = sorted (left_by went ks ++ came)
