-- Lists of entries with their places in a history.
use Rattle.std.specs.Prelude.{◌≡◌, ℕ, suc, ◌<◌, ◌≤◌, ◌==◌, ◌⊎◌, cond, nat_lt, List, [], ◌∷◌, ◌++◌, length, Some, slice_get}
use Rattle.std.specs.List.{sum_by, count_by}

-- f is 1 at each number from `from` on and below `to`, and 0 at every other
pub record IsEachOnce (from to : ℕ) (f : ℕ → ℕ) : Type 0 where
  pub inside : (n : ℕ) → from ≤ n → n < to → f n ≡ 1
  pub below : (n : ℕ) → n < from → f n ≡ 0
  pub above : (n : ℕ) → to ≤ n → f n ≡ 0

module _ {I : Type 0} where
  -- each entry stands in the history at its place, and the places rise, from `low` on
  abbrev pub StandsFrom : List I → ℕ → List (ℕ × I) → Type 0
  StandsFrom history low [] = Unit {0}
  StandsFrom history low (x ∷ xs) = (low ≤ x.0) × (slice_get history x.0 ≡ Some x.1) × StandsFrom history (suc x.0) xs

  -- each entry stands in the history at its place, and the places rise
  abbrev pub StandsIn : List I → List (ℕ × I) → Type 0
  StandsIn history own = StandsFrom history 0 own

  -- how many of the entries stand at the place
  abbrev pub times_at : ℕ → List (ℕ × I) → ℕ
  times_at place own = count_by (λ x. x.0 == place) own

  -- the same of several lists
  abbrev pub times_in : ℕ → List (List (ℕ × I)) → ℕ
  times_in place lists = sum_by (times_at place) lists

  -- the longer of two lists, and the first where they are as long
  abbrev pub longer : List I → List I → List I
  longer xs ys = cond (nat_lt (length xs) (length ys)) ys xs

  -- the history is as it was, or longer by one entry
  abbrev pub IsSameOrOneMore : List I → List I → Type 0
  IsSameOrOneMore before after = (after ≡ before) ⊎ ((e : I) × (after ≡ before ++ e ∷ []))
