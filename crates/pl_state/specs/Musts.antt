-- Musts of a state, in order, and where they are broken.
use Rattle.std.specs.Prelude.{ℕ, ◌-◌, ◌&&◌, ◌||◌, ◌==◌, not, nat_lt, nat_le, max, min, Bool, List, [], ◌∷◌, ◌++◌}
use Rattle.pl_points.specs.declared.span.Span.{Span}
use Rattle.pl_lists.specs.Lists.{front, back}
use Rattle.pl_points.specs.Spans.{spans_of}
use Rattle.pl_state.specs.declared.reservation.Must.{Must}
use Rattle.pl_state.specs.declared.answer.BrokenMust.{BrokenMust}
use Rattle.pl_state.specs.declared.key.Key.{Key}
use Rattle.pl_state.specs.Keys.{key_of}

abbrev pub must_of : ℕ → ℕ → ℕ → ℕ → ℕ → Must
must_of from to id index state = record { from = from; to = to; id = id; index = index; state = state }

abbrev pub same_must : Must → Must → Bool
same_must u v = (u.from == v.from) && ((u.to == v.to) && ((u.id == v.id) && ((u.index == v.index) && (u.state == v.state))))

-- by id, then index
abbrev pub must_before : Must → Must → Bool
must_before u x = nat_lt x.id u.id || ((x.id == u.id) && nat_lt x.index u.index)

abbrev pub must_key : Must → Key
must_key x = key_of 0 x.id x.index

-- whether the must needs its state at this moment
abbrev pub holds_at : ℕ → Must → Bool
holds_at t m = nat_le m.from t && nat_lt t m.to

-- the musts with one more, in its place
abbrev pub with_must : Must → List Must → List Must
with_must u xs = front (must_before u) xs ++ u ∷ back (must_before u) xs

-- a span in which a must is broken
abbrev pub broken_in : Must → Span → BrokenMust
broken_in m s = record { id = m.id; index = m.index; from = s.from; to = s.to }

abbrev pub broken_spans : Must → List Span → List BrokenMust
broken_spans m [] = []
broken_spans m (s ∷ more) = broken_in m s ∷ broken_spans m more

-- where the state is another than the must needs: from the later of its start and the present moment, to the lesser of its end and the horizon
abbrev pub broken_one : (ℕ → ℕ) → ℕ → ℕ → Must → List BrokenMust
broken_one state moment horizon m = broken_spans m (spans_of (λ t. not (state t == m.state)) (max m.from moment) (min m.to horizon - max m.from moment))

abbrev pub broken_all : (ℕ → ℕ) → ℕ → ℕ → List Must → List BrokenMust
broken_all state moment horizon [] = []
broken_all state moment horizon (m ∷ more) = broken_one state moment horizon m ++ broken_all state moment horizon more
