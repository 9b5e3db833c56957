-- How many moments of a run lie in a window, and the two hinges that say the same.
use Rattle.std.proofs.Common.{◌≡◌, ⊎_elim, ℕ, zero, suc, ◌+◌, ◌-◌, ◌<◌, ◌≤◌, Bool, true, false, ◌&&◌, ℤ, pos, ◌+ℤ◌, ◌*ℤ◌, refl, sym, subst, arith, if◌then◌else◌}
use Rattle.std.specs.Prelude.{min, max, nat_lt, nat_le, neg_ℤ, Some}
use Rattle.std.proofs.lemmas.Int.{ints}
use Rattle.std.proofs.lemmas.Bool.{cases_lt}
use Rattle.std.proofs.lemmas.Bool.Decides.{nat_tests}
use Rattle.std.proofs.Math.IntN.{*ℤ-zero}
use Rattle.pl_rate.specs.declared.hinge.Hinge.{Hinge}
use Rattle.pl_rate.specs.Courses.{added_by}
use Rattle.pl_rate.specs.Fores.{moments_with, each_moment, is_running}
use Rattle.pl_rate.specs.Hinges.{run_over}
use Rattle.pl_rate.proofs.Courses.{slope_over}
use Rattle.pl_rate.proofs.Pieces.{neg-product}

-- ---- counts

one_more : (start end low t n : ℕ) → n ≡ min t end - max low start → (b : Bool) → (nat_lt low (suc t) && is_running start (Some end) (suc t)) ≡ b → (if b then 1 else 0) + n ≡ min (suc t) end - max low start
one_more start end low t n is true e = grind (arith, nat_tests, e, is)
one_more start end low t n is false e = grind (arith, nat_tests, e, is)

pub count_run : (start end low t : ℕ) → moments_with (is_running start (Some end)) low t ≡ min t end - max low start
count_run start end low zero = omega arith
count_run start end low (suc t) = one_more start end low t (moments_with (is_running start (Some end)) low t) (count_run start end low t) (nat_lt low (suc t) && is_running start (Some end) (suc t)) refl

moment_more : (low t n : ℕ) → n ≡ t - low → (b : Bool) → (nat_lt low (suc t) && each_moment (suc t)) ≡ b → (if b then 1 else 0) + n ≡ suc t - low
moment_more low t n is true e = grind (arith, nat_tests, e, is)
moment_more low t n is false e = grind (arith, nat_tests, e, is)

pub count_each : (low t : ℕ) → moments_with each_moment low t ≡ t - low
count_each low zero = omega arith
count_each low (suc t) = moment_more low t (moments_with each_moment low t) (count_each low t) (nat_lt low (suc t) && each_moment (suc t)) refl

-- ---- hinges

abbrev pub bend : ℕ → ℕ → ℤ → Hinge
bend line at slope = record { line = line; moment = at; jump = pos 0; slope = slope }

-- a bend up and one down are a change for each moment between
pub bends : (line : ℕ) (change : ℤ) (from end t : ℕ) → from ≤ end → added_by t (bend line from change) +ℤ added_by t (bend line end (neg_ℤ change)) ≡ run_over from end change t
bends line change from end t some =
    ⊎_elim
    (λ (before : t < from).
    let one : nat_le from t ≡ false = grind (arith, nat_tests, before) in
    let two : nat_le end t ≡ false = grind (arith, nat_tests, before, some) in
    let none : min t end - from ≡ 0 = omega (arith, before) in
    rw (one, two, none) (sym (*ℤ-zero change)))
    (λ (begun : from ≤ t).
    let one : nat_le from t ≡ true = grind (arith, nat_tests, begun) in
    ⊎_elim
    (λ (inside : t < end).
    let two : nat_le end t ≡ false = grind (arith, nat_tests, inside) in
    let some_of : min t end - from ≡ t - from = omega (arith, inside) in
    rw (one, two, some_of) (omega (arith, ints)))
    (λ (past : end ≤ t).
    let two : nat_le end t ≡ true = grind (arith, nat_tests, past) in
    let all : min t end - from ≡ end - from = omega (arith, past) in
    let parts : (end - from) + (t - end) ≡ t - from = omega (arith, past, some) in
    let over : change *ℤ pos (t - from) ≡ change *ℤ pos (end - from) +ℤ change *ℤ pos (t - end) = subst (λ n. change *ℤ pos n ≡ change *ℤ pos (end - from) +ℤ change *ℤ pos (t - end)) parts (slope_over change (end - from) (t - end)) in
    rw (one, two, all, neg-product change (t - end)) (omega (arith, ints, over)))
    (cases_lt t end))
    (cases_lt t from)

pub no_run : (change : ℤ) (from end t : ℕ) → end ≤ from → run_over from end change t ≡ pos 0
no_run change from end t le = let none : min t end - from ≡ 0 = omega (arith, le) in rw none (*ℤ-zero change)

-- a jump alone
pub jump_alone : (line at t : ℕ) (delta : ℤ) → added_by t (record { line = line; moment = at; jump = delta; slope = pos 0 }) ≡ (if nat_le at t then delta else pos 0)
jump_alone line at t delta = by (nat_le at t)
  where
    by : (b : Bool) → (if b then delta +ℤ (pos 0 *ℤ pos (t - at)) else pos 0) ≡ (if b then delta else pos 0)
    by true = omega (arith, ints)
    by false = refl
