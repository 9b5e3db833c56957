-- A list in rows, and how far a search goes in it.
use Rattle.std.specs.Prelude.{◌≡◌, ℕ, ◌+◌, ◌<◌, ◌≤◌, not, nat_lt, nat_le, Bool, true, List, [], ◌∷◌, ◌++◌, length, take, drop, slice_index_or}
use Rattle.pl_lists.specs.Lists.{front, back}
use Rattle.pl_state.specs.declared.key.Key.{Key}
use Rattle.pl_state.specs.declared.bound.Bound.{Bound}
use Rattle.pl_state.specs.declared.bound.Bound.TheVariants.{Before, UpTo, Earlier, By}
use Rattle.pl_state.specs.Keys.{key_before}

-- whether what stands at the key lies before the bound's end
abbrev pub covers : Bound → Key → Bool
covers (Before end) k = key_before k end
covers (UpTo end) k = not (key_before end k)
covers (Earlier at) k = nat_lt k.at at
covers (By at) k = nat_le k.at at

abbrev pub is_covered : {T : Type 0} → (T → Key) → Bound → T → Bool
is_covered key bound x = covers bound (key x)

-- all items of the rows, in order
abbrev pub together : {T : Type 0} → List (List T) → List T
together [] = []
together (r ∷ rs) = r ++ together rs

-- each row has an item
abbrev pub AreFilled : {T : Type 0} → List (List T) → Type 0
AreFilled [] = Unit {0}
AreFilled (r ∷ rs) = (0 < length r) × AreFilled rs

-- whether the last item passes
abbrev pub last_passes : {T : Type 0} → (T → Bool) → List T → Bool
last_passes p [] = true
last_passes p (x ∷ []) = p x
last_passes p (x ∷ y ∷ ys) = last_passes p (y ∷ ys)

pub record AreRows {T : Type 0} (count : ℕ) (rows : List (List T)) : Type 0 where
  pub counted : count ≡ length (together rows)
  pub filled : AreFilled rows

-- the row of the item at a place, and how many items of the row stand before it; behind all items, a row at whose end the place lies
pub record IsSpot {T : Type 0} (rows : List (List T)) (place row at : ℕ) : Type 0 where
  pub there : row < length rows
  pub low : at ≤ length (slice_index_or rows row [])
  pub whole : length (together (take row rows)) + at ≡ place
  pub inside : place < length (together rows) → at < length (slice_index_or rows row [])

-- the place of the first item that does not pass
pub record EndsAt {T : Type 0} (p : T → Bool) (xs : List T) (place : ℕ) : Type 0 where
  pub there : place < length xs
  pub front : take place xs ≡ front p xs
  pub rest : drop place xs ≡ back p xs
