-- Lists that are sorted by keys of which no two are equal.
use Rattle.std.specs.Prelude.{◌≡◌, List, [], ◌∷◌}
use Rattle.std.specs.declared.cmp.Ordering.{Ordering}
use Rattle.std.specs.Ordering.{nat_cmp, ordering_then}
use Rattle.pl_state.specs.declared.key.Key.{Key}
use Rattle.pl_state.specs.declared.answer.BadSet.{BadSet}
use Rattle.pl_state.specs.declared.answer.BrokenMust.{BrokenMust}
use Rattle.pl_state.specs.Keys.{key_of}

-- none of the items has the key
abbrev pub NoneHas : {T : Type 0} → (T → Key) → Key → List T → Type 0
NoneHas key k [] = Unit {0}
NoneHas key k (x ∷ xs) = (key x ≡ k → ⊥) × NoneHas key k xs

-- no two have one key
abbrev pub AreDistinct : {T : Type 0} → (T → Key) → List T → Type 0
AreDistinct key [] = Unit {0}
AreDistinct key (x ∷ xs) = NoneHas key (key x) xs × AreDistinct key xs

-- what is broken stands by id, index and start, the steps that are not allowed by moment, id and index
abbrev pub broken_key : BrokenMust → Key
broken_key b = key_of b.id b.index b.from

abbrev pub bad_key : BadSet → Key
bad_key b = key_of b.at b.id b.index

-- by id, index, start and end
abbrev pub broken_cmp : BrokenMust → BrokenMust → Ordering
broken_cmp a b =
    ordering_then (nat_cmp a.id b.id)
    (ordering_then (nat_cmp a.index b.index)
    (ordering_then (nat_cmp a.from b.from) (nat_cmp a.to b.to)))
