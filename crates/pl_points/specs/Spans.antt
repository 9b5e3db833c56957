-- Maximal spans of a property of moments.
use Rattle.std.specs.Prelude.{◌≡◌, ℕ, zero, suc, ◌<◌, ◌≤◌, ◌^◌, ◌==◌, ◌&&◌, ◌||◌, nat_le, nat_lt, Bool, true, false, List, [], ◌∷◌, if◌then◌else◌}
use Rattle.pl_points.specs.declared.span.Span.{Span}

-- the moments from a up to b
abbrev pub within : ℕ → ℕ → ℕ → Bool
within a b t = nat_le a t && nat_lt t b

-- whether one of the spans has the moment
abbrev pub covers : List Span → ℕ → Bool
covers [] t = false
covers (s ∷ more) t = within s.from s.to t || covers more t

-- spans from a up to b, in rising order, none empty, with a moment or more between each two
abbrev pub AreApart : ℕ → ℕ → List Span → Type 0
AreApart a b [] = Unit {0}
AreApart a b (s ∷ more) = (a ≤ s.from) × (s.from < s.to) × (s.to ≤ b) × AreApart (suc s.to) b more

-- spans of moments that fit 32 bits
abbrev pub AreSpans : List Span → Type 0
AreSpans all = AreApart 0 (2 ^ 32) all

-- the maximal spans of P in [a, b): spans apart from each other, which have exactly the moments at which P holds
pub record AreMaximal (P : ℕ → Bool) (a b : ℕ) (all : List Span) : Type 0 where
  pub apart : AreApart a b all
  pub exact : (t : ℕ) → covers all t ≡ (within a b t && P t)

abbrev pub span : ℕ → ℕ → Span
span a b = record { from = a; to = b }

-- the spans of what begins after a, with the moment a put before them
abbrev pub grown : Bool → ℕ → List Span → List Span
grown false a s = s
grown true a [] = span a (suc a) ∷ []
grown true a (p ∷ s) = if suc a == p.from then span a p.to ∷ s else span a (suc a) ∷ p ∷ s

-- the maximal spans of P in the n moments from a
abbrev pub spans_of : (ℕ → Bool) → ℕ → ℕ → List Span
spans_of P a zero = []
spans_of P a (suc n) = grown (P a) a (spans_of P (suc a) n)

-- a span before others, one with the first of them where they touch
abbrev pub meeting : Span → List Span → List Span
meeting p [] = p ∷ []
meeting p (q ∷ t) = if p.to == q.from then span p.from q.to ∷ t else p ∷ q ∷ t

-- the spans s and then the spans t
abbrev pub joined : List Span → List Span → List Span
joined [] t = t
joined (p ∷ []) t = meeting p t
joined (p ∷ q ∷ s) t = p ∷ joined (q ∷ s) t
