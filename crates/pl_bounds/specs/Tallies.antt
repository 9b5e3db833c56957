-- Counts of how often a property of moments comes to hold.
use Rattle.std.specs.Prelude.{◌≡◌, ℕ, ◌+◌, ◌≤◌, Bool, false, List, ◌++◌}
use Rattle.pl_bounds.specs.Risings.{risings, AreMoments}
use Rattle.pl_bounds.specs.declared.tally.Tally.{Tally}

-- none so far, of the moments from this one up to an end
abbrev pub fresh : ℕ → ℕ → Tally
fresh from end = record { times = 0; before = false; next = from; end = end }

-- It counts no more than the property comes to hold among some moments from this one on, which all lie before the next one. Whether it
-- held at the last of them is kept for those to come.
pub record IsTallyOf (P : ℕ → Bool) (from end : ℕ) (t : Tally) : Type 0 where
  pub moments : List ℕ
  pub rising : AreMoments from t.next moments
  pub begun : from ≤ t.next
  pub within : t.next ≤ end
  pub upto : t.end ≡ end
  pub few : (more : List ℕ) → (t.times + risings P t.before more) ≤ risings P false (moments ++ more)
