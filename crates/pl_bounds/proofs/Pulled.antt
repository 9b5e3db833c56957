-- What demands make of a timeline: none moved, and the uses or the effects among them.
use Rattle.std.proofs.Common.{◌≡◌, ℕ, Bool, true, false, cond, eqb, List, [], ◌∷◌, map, refl, ap, ◌∙◌, ℤ, pos, ◌+ℤ◌, arith}
use Rattle.std.proofs.lemmas.Int.{ints}
use Rattle.pl_points.specs.Sums.{total}
use Rattle.pl_capacity.specs.Uses.{taken_at}
use Rattle.pl_level.specs.Effects.{counted}
use Rattle.pl_semantics.specs.declared.demand.Demand.{Demand}
use Rattle.pl_semantics.specs.declared.demand.Asked.{Asked}
use Rattle.pl_semantics.specs.declared.demand.Asked.TheVariants as asked
use Rattle.pl_semantics.specs.Demands.{asked_of, use_in, effect_in, uses_of, effects_of}
use Rattle.pl_update.proofs.AboutTimelines.Listing.{total-append}
use Rattle.pl_bounds.specs.Afterwards.{asked_on}
use Rattle.pl_bounds.specs.Moved.{moved_to, asked_moved, demand_moved}
use Rattle.pl_bounds.specs.declared.outside.Side.{Side}
use Rattle.pl_bounds.specs.declared.outside.Side.TheVariants.{Over, Low, High}

-- ---- none moved

still : (t : ℕ) → moved_to 0 0 t ≡ t
still t = omega arith

asked_still : (a : Asked) → asked_moved 0 0 a ≡ a
asked_still (asked.Use u) = ap (λ (f : ℕ). asked.Use (record u { from = f; to = moved_to 0 0 u.to })) (still u.from) ∙ ap (λ (e : ℕ). asked.Use (record u { to = e })) (still u.to)
asked_still (asked.Effect e) = ap (λ (n : ℕ). asked.Effect (record e { at = n })) (still e.at)
asked_still (asked.Set x) = ap (λ (n : ℕ). asked.Set (record x { at = n })) (still x.at)
asked_still (asked.Must m) = ap (λ (f : ℕ). asked.Must (record m { from = f; to = moved_to 0 0 m.to })) (still m.from) ∙ ap (λ (e : ℕ). asked.Must (record m { to = e })) (still m.to)

pub all_still : (ds : List Demand) → map (demand_moved 0 0) ds ≡ ds
all_still [] = refl
all_still (d ∷ ds) = ap (λ (a : Asked). record d { asked = a } ∷ map (demand_moved 0 0) ds) (asked_still d.asked) ∙ ap (λ (xs : List Demand). d ∷ xs) (all_still ds)

-- ---- uses or effects

-- what it makes of a timeline of this number, on a side and with a base
abbrev pub on : Side → ℕ → ℕ → ℕ → Demand → ℤ
on side base line t d = cond (eqb d.line line) (asked_on side base t d.asked) (pos 0)

alone : (z : ℤ) → z ≡ z +ℤ pos 0
alone z = omega (arith, ints)

over_one : (base line t : ℕ) (b : Bool) (a : Asked) → cond b (asked_on Over base t a) (pos 0) ≡ total (taken_at t) (cond b (use_in a) [])
over_one base line t false a = refl
over_one base line t true (asked.Use u) = alone (taken_at t u)
over_one base line t true (asked.Effect e) = refl
over_one base line t true (asked.Set x) = refl
over_one base line t true (asked.Must m) = refl

pub over_all : (base line t : ℕ) (ds : List Demand) → total (on Over base line t) ds ≡ total (taken_at t) (uses_of line ds)
over_all base line t [] = refl
over_all base line t (d ∷ ds) = omega (arith, ints, over_one base line t (eqb d.line line) d.asked, over_all base line t ds, total-append (taken_at t) (asked_of use_in line d) (uses_of line ds))

low_one : (base line t : ℕ) (b : Bool) (a : Asked) → cond b (asked_on Low base t a) (pos 0) ≡ total (counted base t) (cond b (effect_in a) [])
low_one base line t false a = refl
low_one base line t true (asked.Use u) = refl
low_one base line t true (asked.Effect e) = alone (counted base t e)
low_one base line t true (asked.Set x) = refl
low_one base line t true (asked.Must m) = refl

pub low_all : (base line t : ℕ) (ds : List Demand) → total (on Low base line t) ds ≡ total (counted base t) (effects_of line ds)
low_all base line t [] = refl
low_all base line t (d ∷ ds) = omega (arith, ints, low_one base line t (eqb d.line line) d.asked, low_all base line t ds, total-append (counted base t) (asked_of effect_in line d) (effects_of line ds))

high_one : (base line t : ℕ) (b : Bool) (a : Asked) → cond b (asked_on High base t a) (pos 0) ≡ total (counted base t) (cond b (effect_in a) [])
high_one base line t false a = refl
high_one base line t true (asked.Use u) = refl
high_one base line t true (asked.Effect e) = alone (counted base t e)
high_one base line t true (asked.Set x) = refl
high_one base line t true (asked.Must m) = refl

pub high_all : (base line t : ℕ) (ds : List Demand) → total (on High base line t) ds ≡ total (counted base t) (effects_of line ds)
high_all base line t [] = refl
high_all base line t (d ∷ ds) = omega (arith, ints, high_one base line t (eqb d.line line) d.asked, high_all base line t ds, total-append (counted base t) (asked_of effect_in line d) (effects_of line ds))
