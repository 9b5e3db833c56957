-- What demands add to a level: one more of them, and all of them by their effects.
use Rattle.std.proofs.Common.{◌≡◌, ℕ, ◌+◌, ◌<◌, ◌≤◌, Bool, true, false, cond, eqb, List, [], ◌∷◌, length, get_or, drop, refl, sym, ap, ◌∙◌, add-one, ℤ, pos, ◌+ℤ◌, arith}
use Rattle.std.proofs.Math.ListN.{drop_of_length-le}
use Rattle.std.proofs.Math.Seq.{drop-cons}
use Rattle.std.proofs.lemmas.Int.{ints}
use Rattle.pl_points.specs.Sums.{total}
use Rattle.pl_level.specs.Effects.{counted}
use Rattle.pl_semantics.specs.declared.demand.Demand.{Demand}
use Rattle.pl_semantics.specs.declared.demand.Asked.{Asked}
use Rattle.pl_semantics.specs.declared.demand.Asked.TheVariants as asked
use Rattle.pl_semantics.specs.Demands.{asked_of, effect_in, effects_of}
use Rattle.pl_update.proofs.AboutTimelines.Listing.{total-append}
use Rattle.pl_prefs.specs.Added.{added_if, added_by}

-- ---- a sum that goes on

pub total_next : {T : Type 0} (f : T → ℤ) (xs : List T) (i : ℕ) (d x : T) (z : ℤ) → i < length xs → x ≡ get_or xs i d → z ≡ f x → total f (drop i xs) ≡ z +ℤ total f (drop (i + 1) xs)
total_next f xs i d x z lt here is =
    let next : drop i xs ≡ get_or xs i d ∷ drop (i + 1) xs = rw (add-one i) (drop-cons xs i d lt) in
    ap (total f) next ∙ ap (λ y. y +ℤ total f (drop (i + 1) xs)) (ap f (sym here) ∙ sym is)

pub total_end : {T : Type 0} (f : T → ℤ) (xs : List T) (i : ℕ) → length xs ≤ i → total f (drop i xs) ≡ pos 0
total_end f xs i le = ap (total f) (drop_of_length-le xs le)

-- ---- effects

alone : (z : ℤ) → z ≡ z +ℤ pos 0
alone z = omega (arith, ints)

added_one : (base until line : ℕ) (b : Bool) (a : Asked) → cond b (added_if base until a) (pos 0) ≡ total (counted base until) (cond b (effect_in a) [])
added_one base until line false a = refl
added_one base until line true (asked.Use u) = refl
added_one base until line true (asked.Effect e) = alone (counted base until e)
added_one base until line true (asked.Set x) = refl
added_one base until line true (asked.Must m) = refl

pub added_all : (base until line : ℕ) (ds : List Demand) → total (added_by base until line) ds ≡ total (counted base until) (effects_of line ds)
added_all base until line [] = refl
added_all base until line (d ∷ ds) = omega (arith, ints, added_one base until line (eqb d.line line) d.asked, added_all base until line ds, total-append (counted base until) (asked_of effect_in line d) (effects_of line ds))
