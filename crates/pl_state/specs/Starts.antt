-- Musts by their start.
use Rattle.std.specs.Prelude.{◌≡◌, ℕ, ◌+◌, ◌≤◌, Bool, List, [], ◌∷◌, ◌++◌, if◌then◌else◌}
use Rattle.pl_lists.specs.Lists.{front, back}
use Rattle.pl_state.specs.declared.reservation.Must.{Must}
use Rattle.pl_state.specs.declared.reservation.Started.{Started}
use Rattle.pl_state.specs.declared.key.Key.{Key}
use Rattle.pl_state.specs.Keys.{key_of, is_before, AreSorted, Has, many}
use Rattle.pl_state.specs.Musts.{must_key, same_must, holds_at}

abbrev pub started : Must → Started
started m = record { must = m }

-- by start, then id, then index
abbrev pub start_key : Started → Key
start_key s = key_of s.must.from s.must.id s.must.index

abbrev pub same_started : Started → Started → Bool
same_started s t = same_must s.must t.must

-- with one more, in its place
abbrev pub with_started : Started → List Started → List Started
with_started s xs = front (is_before start_key (start_key s)) xs ++ s ∷ back (is_before start_key (start_key s)) xs

-- by rising starts, none longer than the longest
pub record IsIndex (longest : ℕ) (starts : List Started) : Type 0 where
  pub sorted : AreSorted start_key starts
  pub short : (s : Started) → Has s starts → s.must.to ≤ s.must.from + longest

-- those of them that need their states at this moment
abbrev pub holding_at : ℕ → List Started → List Must
holding_at t [] = []
holding_at t (s ∷ more) = (if holds_at t s.must then s.must ∷ [] else []) ++ holding_at t more

-- the musts are sorted, and each stands among the starts as often
pub record AreKept (musts : List Must) (starts : List Started) : Type 0 where
  pub sorted : AreSorted must_key musts
  pub indexed : (u : Must) → many same_must u musts ≡ many same_started (started u) starts
