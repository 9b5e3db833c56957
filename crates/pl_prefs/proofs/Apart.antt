-- The score, which is said by preferences, is what the bases of levels count and what each activity counts by itself.
use Rattle.std.proofs.Common.{◌≡◌, ℕ, zero, suc, ◌-◌, Bool, true, false, List, [], ◌∷◌, sym, ap, ◌∙◌, arith, ℤ, pos, negsuc, ◌+ℤ◌, ◌*ℤ◌, if◌then◌else◌}
use Rattle.std.specs.Prelude.{nat_lt}
use Rattle.std.proofs.lemmas.Int.{ints}
use Rattle.std.proofs.Math.IntN.{zero-*ℤ, *ℤ-zero, suc_ℤ-*ℤ, pred_ℤ-*ℤ}
use Rattle.pl_points.specs.Sums.{total}
use Rattle.pl_level.specs.Effects.{counted}
use Rattle.pl_update.proofs.AboutTimelines.Listing.{total_same, total_nothing, total-flat}
use Rattle.pl_semantics.specs.declared.plan_state.PlanState.{PlanState}
use Rattle.pl_semantics.specs.Demands.{since, told, asked_of, effect_in, effects_of, demands_at, demands_of, level_at}
use Rattle.pl_prefs.specs.declared.prefer.Prefer.{Prefer}
use Rattle.pl_prefs.specs.declared.prefer.Prefer.TheVariants.{Early, Late, Value, Level}
use Rattle.pl_prefs.specs.Scores.{score_of, score}
use Rattle.pl_prefs.specs.Worths.{level_share, share_of, worth_for, base_worth, score_apart}

-- ---- sums

total_both : {T : Type 0} (f g : T → ℤ) (xs : List T) → total (λ x. f x +ℤ g x) xs ≡ total f xs +ℤ total g xs
total_both f g [] = omega (arith, ints)
total_both f g (x ∷ xs) = omega (arith, ints, total_both f g xs)

-- sums of sums, by either first
total_swap : {T X : Type 0} (f : T → X → ℤ) (xs : List T) (ys : List X) → total (λ x. total (f x) ys) xs ≡ total (λ y. total (λ x. f x y) xs) ys
total_swap f [] ys = sym (total_nothing ys)
total_swap f (x ∷ xs) ys = omega (arith, ints, total_swap f xs ys, total_both (f x) (λ y. total (λ z. f z y) xs) ys)

times_up : (n : ℕ) (x y : ℤ) → pos n *ℤ (x +ℤ y) ≡ pos n *ℤ x +ℤ pos n *ℤ y
times_up zero x y = omega (arith, ints, zero-*ℤ (x +ℤ y), zero-*ℤ x, zero-*ℤ y)
times_up (suc n) x y = omega (arith, ints, suc_ℤ-*ℤ (pos n) (x +ℤ y), suc_ℤ-*ℤ (pos n) x, suc_ℤ-*ℤ (pos n) y, times_up n x y)

times_down : (n : ℕ) (x y : ℤ) → negsuc n *ℤ (x +ℤ y) ≡ negsuc n *ℤ x +ℤ negsuc n *ℤ y
times_down zero x y = omega (arith, ints, pred_ℤ-*ℤ (pos 0) (x +ℤ y), pred_ℤ-*ℤ (pos 0) x, pred_ℤ-*ℤ (pos 0) y, zero-*ℤ (x +ℤ y), zero-*ℤ x, zero-*ℤ y)
times_down (suc n) x y = omega (arith, ints, pred_ℤ-*ℤ (negsuc n) (x +ℤ y), pred_ℤ-*ℤ (negsuc n) x, pred_ℤ-*ℤ (negsuc n) y, times_down n x y)

-- a product with a sum
pub times_sum : (w x y : ℤ) → w *ℤ (x +ℤ y) ≡ w *ℤ x +ℤ w *ℤ y
times_sum (pos n) x y = times_up n x y
times_sum (negsuc n) x y = times_down n x y

pub times_total : {T : Type 0} (w : ℤ) (f : T → ℤ) (xs : List T) → w *ℤ total f xs ≡ total (λ x. w *ℤ f x) xs
times_total w f [] = *ℤ-zero w
times_total w f (x ∷ xs) = times_sum w (f x) (total f xs) ∙ ap (λ z. w *ℤ f x +ℤ z) (times_total w f xs)

-- ---- one preference

module _ (s : PlanState) where
  -- what effects add to a level, by activities
  effects_each : (line t : ℕ) → total (counted (since s line) t) (effects_of line (demands_of s)) ≡ total (λ a. total (counted (since s line) t) (effects_of line (demands_at s a))) s.plan.activities
  effects_each line t =
      let f = counted (since s line) t in
      let h = asked_of effect_in line in
      total-flat f h (demands_of s)
      ∙ (total-flat (λ d. total f (h d)) (demands_at s) s.plan.activities
      ∙ total_same (λ a. total (λ d. total f (h d)) (demands_at s a)) (λ a. total f (effects_of line (demands_at s a))) (λ a. sym (total-flat f h (demands_at s a))) s.plan.activities)

  level_apart : (line : ℕ) (w : ℤ) → w *ℤ level_at s line (s.model.horizon - 1) ≡ w *ℤ told s line +ℤ total (λ a. w *ℤ level_share s line a) s.plan.activities
  unfolding level_at
  level_apart line w =
      ap (λ z. w *ℤ (told s line +ℤ z)) (effects_each line (s.model.horizon - 1))
      ∙ (times_sum w (told s line) (total (level_share s line) s.plan.activities)
      ∙ ap (λ z. w *ℤ told s line +ℤ z) (times_total w (level_share s line) s.plan.activities))

  alone : (x : ℤ) → x ≡ pos 0 +ℤ x
  alone x = omega (arith, ints)

  prefer_apart : (p : Prefer) → score_of s p ≡ base_worth s p +ℤ total (λ a. worth_for s a p) s.plan.activities
  prefer_apart (Early kind w) = alone (total (share_of s (Early kind w)) s.plan.activities)
  prefer_apart (Late kind w) = alone (total (share_of s (Late kind w)) s.plan.activities)
  prefer_apart (Value kind param w) = alone (total (share_of s (Value kind param w)) s.plan.activities)
  prefer_apart (Level line w) = by (nat_lt s.moment s.model.horizon)
    where
      by : (b : Bool) → w *ℤ (if b then level_at s line (s.model.horizon - 1) else pos 0) ≡ (if b then w *ℤ told s line else pos 0) +ℤ total (λ a. if b then w *ℤ level_share s line a else pos 0) s.plan.activities
      by true = level_apart line w
      by false = *ℤ-zero w ∙ (alone (pos 0) ∙ ap (λ z. pos 0 +ℤ z) (sym (total_nothing s.plan.activities)))

-- ---- all of them

pub score_is_apart : (s : PlanState) (prefers : List Prefer) → score s prefers ≡ score_apart s prefers
unfolding score
score_is_apart s prefers =
    total_same (score_of s) (λ p. base_worth s p +ℤ total (λ a. worth_for s a p) s.plan.activities) (prefer_apart s) prefers
    ∙ (total_both (base_worth s) (λ p. total (λ a. worth_for s a p) s.plan.activities) prefers
    ∙ ap (λ z. total (base_worth s) prefers +ℤ z) (total_swap (λ p a. worth_for s a p) prefers s.plan.activities))
