-- Numbers stepped from a low one up to a high one.
use Rattle.std.proofs.Common.{◌≡◌, ℕ, zero, suc, ◌-◌, ◌<◌, ◌≤◌, Bool, false, List, [], ◌∷◌, ◌++◌, append_assoc, refl, sym, ap, ◌∙◌, arith}
use Rattle.std.specs.List.{list_any}
use Rattle.std.specs.Ordering.{int_eq}
use Rattle.std.specs.Prelude.{◌||◌, ℤ, pos, ◌+ℤ◌, ◌-ℤ◌, ◌≤ℤ◌, ◌<ℤ◌}
use Rattle.pl_lists.proofs.Numbers.{le_to_test, lt_to_test}
use Rattle.pl_semantics.specs.PlanStates.{natural}
use Rattle.pl_semantics.specs.Starts.{steps_from, stride, spread}

-- one number more
pub step_more : (n : ℕ) (low high : ℤ) (step : ℕ) → 0 < n → low ≤ℤ high → steps_from n low high step ≡ low ∷ steps_from (n - 1) (low +ℤ pos step) high step
step_more zero low high step some le = absurd (omega (arith, some))
step_more (suc n) low high step some le =
    let less : suc n - 1 ≡ n = omega arith in
    rw (le_to_test low high le, less) refl

-- no number more
pub step_past : (n : ℕ) (low high : ℤ) (step : ℕ) → high <ℤ low → steps_from n low high step ≡ []
step_past zero low high step gt = refl
step_past (suc n) low high step gt = rw (lt_to_test low high gt) refl

pub none_left : (n : ℕ) (low high : ℤ) (step : ℕ) → n ≤ 0 → steps_from n low high step ≡ []
none_left zero low high step le = refl
none_left (suc n) low high step le = absurd (omega (arith, le))

-- ---- behind what is there

-- one number more
pub step_kept : (all more whole : List ℤ) (n : ℕ) (low next high : ℤ) (step : ℕ) → more ≡ all ++ low ∷ [] → all ++ steps_from n low high step ≡ whole → next ≡ low +ℤ pos step → 0 < n → low ≤ℤ high → more ++ steps_from (n - 1) next high step ≡ whole
step_kept all more whole n low next high step is before on some le =
    let one : low ∷ steps_from (n - 1) (low +ℤ pos step) high step ≡ steps_from n low high step = sym (step_more n low high step some le) in
    rw (is, on, append_assoc) (ap (λ l. all ++ l) one ∙ before)

-- sixteen at most, by the stride
pub spread_is : (low high : ℤ) (width step : ℕ) → width ≡ natural (high -ℤ low) → step ≡ stride width → steps_from 16 low high step ≡ spread low high
unfolding spread
spread_is low high width step wide far = rw (far, wide) refl

-- ---- whether a number is one of them

pub meet_past : (number low high : ℤ) (n step : ℕ) → high <ℤ low → list_any (int_eq number) (steps_from n low high step) ≡ false
meet_past number low high n step gt = ap (list_any (int_eq number)) (step_past n low high step gt)

-- past a step that is not the number
pub meet_kept : (number : ℤ) (whole : Bool) (n : ℕ) (low next high : ℤ) (step : ℕ) → list_any (int_eq number) (steps_from n low high step) ≡ whole → int_eq number low ≡ false → next ≡ low +ℤ pos step → 0 < n → low ≤ℤ high → list_any (int_eq number) (steps_from (n - 1) next high step) ≡ whole
meet_kept number whole n low next high step before other on some le =
    let rest : List ℤ = steps_from (n - 1) (low +ℤ pos step) high step in
    let later : list_any (int_eq number) (steps_from n low high step) ≡ list_any (int_eq number) rest =
    ap (list_any (int_eq number)) (step_more n low high step some le) ∙ ap (λ t. t || list_any (int_eq number) rest) other in
    rw on (sym later ∙ before)
