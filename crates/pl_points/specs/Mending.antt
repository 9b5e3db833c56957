-- The parts of a list of spans round a window, and what a window gives in place of what was there.
use Rattle.std.specs.Prelude.{ℕ, Bool, nat_le, nat_lt, min, max, List, [], ◌∷◌, if◌then◌else◌}
use Rattle.pl_points.specs.declared.span.Span.{Span}
use Rattle.pl_points.specs.Spans.{span, within, covers}

abbrev pub ends_before : ℕ → Span → Bool
ends_before at s = nat_lt s.to at

abbrev pub ends_by : ℕ → Span → Bool
ends_by at s = nat_le s.to at

abbrev pub begins_before : ℕ → Span → Bool
begins_before at s = nat_lt s.from at

-- up to and with the first span that reaches past the moment
abbrev pub reached : ℕ → List Span → List Span
reached at [] = []
reached at (s ∷ more) = if ends_by at s then s ∷ reached at more else s ∷ []

-- and the spans after that one
abbrev pub beyond : ℕ → List Span → List Span
beyond at [] = []
beyond at (s ∷ more) = if ends_by at s then beyond at more else more

-- the last span cut off at the moment
abbrev pub cut_last : ℕ → List Span → List Span
cut_last at [] = []
cut_last at (s ∷ []) = span s.from (min s.to at) ∷ []
cut_last at (s ∷ q ∷ more) = s ∷ cut_last at (q ∷ more)

-- what lies before the moment
abbrev pub before : ℕ → List Span → List Span
before at [] = []
before at (s ∷ more) = if begins_before at s then span s.from (min s.to at) ∷ before at more else []

-- what lies at the moment and after
abbrev pub behind : ℕ → List Span → List Span
behind at [] = []
behind at (s ∷ more) = if ends_by at s then behind at more else span (max s.from at) s.to ∷ more

-- in the window [a, b) what the property says, elsewhere what the spans said
abbrev pub mended : ℕ → ℕ → (ℕ → Bool) → List Span → ℕ → Bool
mended a b property old t = if within a b t then property t else covers old t
