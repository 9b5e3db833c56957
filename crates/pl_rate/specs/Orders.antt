-- Hinges by level and moment.
use Rattle.std.specs.Prelude.{◌≡◌, ℕ, ◌≤◌, nat_lt, nat_le, Bool, List, [], ◌∷◌}
use Rattle.std.specs.declared.cmp.Ordering.{Ordering}
use Rattle.std.specs.Ordering.{nat_cmp, int_cmp, ordering_then}
use Rattle.pl_rate.specs.declared.hinge.Hinge.{Hinge}
use Rattle.pl_rate.specs.Courses.{IsFlat}

-- of this level or a larger number, and in it of this moment or later
abbrev pub Follows : ℕ → ℕ → Hinge → Type 0
Follows line moment h = (line ≤ h.line) × (h.line ≡ line → moment ≤ h.moment)

abbrev pub OrderedFrom : ℕ → ℕ → List Hinge → Type 0
OrderedFrom line moment [] = Unit {0}
OrderedFrom line moment (h ∷ hs) = Follows line moment h × IsFlat h × OrderedFrom h.line h.moment hs

-- flat hinges, levels rising, and in each level moments rising
abbrev pub AreOrdered : List Hinge → Type 0
AreOrdered hs = OrderedFrom 0 0 hs

abbrev pub hinge_cmp : Hinge → Hinge → Ordering
hinge_cmp g h =
    ordering_then (nat_cmp g.line h.line)
    (ordering_then (nat_cmp g.moment h.moment)
    (ordering_then (int_cmp g.jump h.jump) (int_cmp g.slope h.slope)))

abbrev pub is_below : ℕ → Hinge → Bool
is_below line h = nat_lt h.line line

abbrev pub is_upto : ℕ → Hinge → Bool
is_upto line h = nat_le h.line line
