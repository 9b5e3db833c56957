-- Of some moments in turn, how often a property comes to hold.
use Rattle.std.specs.Prelude.{ℕ, suc, ◌+◌, ◌<◌, ◌≤◌, Bool, true, false, List, [], ◌∷◌}

-- one where it holds and did not hold before
abbrev pub rise : Bool → Bool → ℕ
rise false true = 1
rise false false = 0
rise true now = 0

-- how often it comes to hold, given whether it held right before these moments
abbrev pub risings : (ℕ → Bool) → Bool → List ℕ → ℕ
risings P before [] = 0
risings P before (t ∷ more) = rise before (P t) + risings P (P t) more

-- rising moments from a up to b
abbrev pub AreMoments : ℕ → ℕ → List ℕ → Type 0
AreMoments a b [] = Unit {0}
AreMoments a b (t ∷ more) = (a ≤ t) × (t < b) × AreMoments (suc t) b more
