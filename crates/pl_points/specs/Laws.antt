-- Laws of maximal spans, of their changes, and of what stands.
use Rattle.std.specs.Prelude.{◌≡◌, ℕ, ◌+◌, ◌<◌, ◌≤◌, Bool, true, not, ◌&&◌, ◌||◌, List, length, ℤ, ◌+ℤ◌}
use Rattle.std.specs.List.Sorted.{IsPermutation}
use Rattle.pl_points.specs.declared.span.Change.{Change}
use Rattle.pl_points.specs.Changes.{IsChange, same_span}
use Rattle.pl_lists.specs.Lists.{is_among, left_out}
use Rattle.pl_points.specs.Sums.{total}
use Rattle.pl_points.specs.Standing.{stands, without}
use Rattle.pl_points.specs.declared.span.Span.{Span}
use Rattle.pl_points.specs.Spans.{AreMaximal, spans_of, joined}

-- the spans worked out moment by moment are the maximal ones
abbrev pub AreExact : Type 0
AreExact = (P : ℕ → Bool) (a n : ℕ) → AreMaximal P a (a + n) (spans_of P a n)

-- there is one list of maximal spans
abbrev pub AreUnique : Type 0
AreUnique = (P : ℕ → Bool) (a b : ℕ) (s t : List Span) → AreMaximal P a b s → AreMaximal P a b t → s ≡ t

-- the spans of two parts that follow each other, joined, are those of both
abbrev pub Split : Type 0
Split = (P : ℕ → Bool) (a m n : ℕ) → spans_of P a (m + n) ≡ joined (spans_of P a m) (spans_of P (a + m) n)

-- the spans depend on the moments of their part alone
abbrev pub AreLocal : Type 0
AreLocal = (P Q : ℕ → Bool) (a n : ℕ) → ((t : ℕ) → a ≤ t → t < a + n → P t ≡ Q t) → spans_of P a n ≡ spans_of Q a n

-- from one list to another: what it has after is what it had, less what went, and what came
abbrev pub Exchanged : {T : Type 0} → (T → T → Bool) → (old new went came : List T) → Type 0
Exchanged {T} same old new went came = (x : T) → is_among same new x ≡ ((is_among same old x && not (is_among same went x)) || is_among same came x)

-- a list of spans after a change has what it had, less what went, and what came
abbrev pub SpansAreExchanged : Type 0
SpansAreExchanged = (old new : List Span) (change : Change) → IsChange old new change → Exchanged same_span old new change.went change.came

-- so has any list of which the items left out of the other are told
abbrev pub AreExchanged : Type 0 → Type 0
AreExchanged T = (same : T → T → Bool) → ((x y : T) → same x y ≡ true → x ≡ y) → (old new : List T) → Exchanged same old new (left_out same new old) (left_out same old new)

-- what items add up to, how many they are and which stand depends on no order
abbrev pub TotalsAreAlike : Type 0 → Type 0
TotalsAreAlike T = (f : T → ℤ) (xs ys : List T) → IsPermutation xs ys → total f xs ≡ total f ys

abbrev pub AreAlike : Type 0 → Type 0
AreAlike T = (same : T → T → Bool) (item : T) (xs ys : List T) → IsPermutation xs ys → (stands same item xs ≡ stands same item ys) × (length xs ≡ length ys)

-- without an item that stands, the others add up to the rest
abbrev pub OthersRemain : Type 0 → Type 0
OthersRemain T = (same : T → T → Bool) → ((x y : T) → same x y ≡ true → x ≡ y) → (f : T → ℤ) (xs : List T) (item : T) → stands same item xs ≡ true → total f (without same item xs) +ℤ f item ≡ total f xs
