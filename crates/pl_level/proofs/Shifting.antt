-- A level at which an effect comes or goes, with numbers as the program holds them.
use Rattle.std.proofs.Common.{◌≡◌, ℕ, ◌+◌, ◌≤◌, true, false, cond, List, [], ◌∷◌, ◌++◌, length, ap, sym, ◌∙◌, subst, arith, leb, ℤ, pos, ◌+ℤ◌, ◌-ℤ◌, neg_ℤ}
use mir.Val.{to_z, of_z}
use mir.Syntax.{w64}
use Rattle.pl_points.specs.declared.span.Span.{Span}
use Rattle.pl_points.specs.declared.noted.Noted.{Noted}
use Rattle.pl_points.specs.declared.noted.Noted.TheVariants.{Came, Went}
use Rattle.pl_points.specs.declared.limit.Limit.TheVariants.{Below, Above}
use Rattle.pl_points.specs.Sums.{IsSmall}
use Rattle.pl_points.specs.Points.{Point, merged, sum_to, is_out, AreSmall}
use Rattle.pl_points.specs.Limits.{is_outside}
use Rattle.pl_points.specs.Spans.{covers, AreSpans}
use Rattle.pl_points.specs.Mending.{mended}
use Rattle.pl_points.specs.Counting.{walk_steps, points_after, goes_outside}
use Rattle.pl_points.specs.Standing.{Each, stands, without, noted, standing}
use Rattle.pl_points.proofs.Totals.{IsAmount, standing-push, each-stands}
use Rattle.pl_level.specs.declared.reservation.Effect.{Effect}
use Rattle.pl_level.specs.Effects.{Standing, IsEffect, effect_of, same_effect, level, effect_steps}
use Rattle.pl_level.specs.Soundness.{IsTied, IsSound, IsShift}
use Rattle.pl_level.proofs.Levels.{make, out_is, raw, value_small, before_small, amount_small, small_add, before_after, begin, begin_late, begin_bound, level_cost, change_cost, sound_shifted, shift_more, shift_less, amount_of, same_exact, raw_back}

-- a number as the program holds it
abbrev pub held : ℤ → ℤ
held z = to_z w64 (of_z w64 z)

pub held_small : (z : ℤ) → IsSmall z → IsSmall (held z)
held_small z is = subst (λ x. IsSmall x) (sym (raw z is)) is

pub limit_is : (z l x v b : ℤ) → IsSmall z → x ≡ v → held b ≡ b → l ≡ (held z -ℤ x) +ℤ held b → l ≡ (z -ℤ v) +ℤ b
limit_is z l x v b small same exact is = is ∙ (ap (λ y. (y -ℤ x) +ℤ held b) (raw z small) ∙ (ap (λ y. (z -ℤ y) +ℤ held b) same ∙ ap (λ y. (z -ℤ v) +ℤ y) exact))

-- the level is out of two bounds where the sum of the points is out of the sums that a program works out for them
pub out_held : (s : Standing) (b : ℤ) (ps : List Point) (least most l m : ℤ) (t : ℕ) → IsTied s b ps → IsSmall least → IsSmall most → s.base ≤ t → l ≡ (held least -ℤ held s.value) +ℤ held b → m ≡ (held most -ℤ held s.value) +ℤ held b
    → is_out l m (sum_to ps t) ≡ is_out least most (level s t)
out_held s b ps least most l m t tied low high le is_l is_m =
    let value = raw s.value (value_small s.value tied.value) in
    let before = raw b (before_small s b ps tied) in
    out_is s b ps least most l m t tied le (limit_is least l (held s.value) s.value b low value before is_l) (limit_is most m (held s.value) s.value b high value before is_m)

-- what is known where a change begins
pub record IsReady (s : Standing) (b : ℤ) (ps : List Point) (low high : List Span) (at : ℕ) (d : ℤ) (note : Noted Effect) : Type 0 where
  pub unspoiled : s.spoiled ≡ false
  pub sound : IsSound s b ps low high
  pub shift : IsShift at d s.effects (noted same_effect s.effects note)

pub ready : {s : Standing} {b : ℤ} {ps : List Point} {low high : List Span} (v : Standing) (at : ℕ) (d : ℤ) (note : Noted Effect) → s ≡ v → (s.spoiled ≡ false → IsSound s b ps low high) → v.spoiled ≡ false
    → IsShift at d v.effects (noted same_effect v.effects note) → IsReady s b ps low high at d note
ready {s} v at d note is sound unspoiled shift =
    let e : s.spoiled ≡ false = ap (λ (w : Standing). w.spoiled) is ∙ unspoiled in
    record { unspoiled = e; sound = sound e; shift = subst (λ (w : Standing). IsShift at d w.effects (noted same_effect w.effects note)) (sym is) shift }

module _ {s : Standing} {b : ℤ} {ps : List Point} {low high : List Span} {at : ℕ} {d : ℤ} {note : Noted Effect} (is : IsReady s b ps low high at d note) where
  abbrev after : List Effect
  after = noted same_effect s.effects note

  amount : IsAmount d
  amount = (is.shift.low, is.shift.high)

  exact : held d ≡ d
  exact = raw d (amount_small d amount)

  pub small_added : AreSmall (merged at (held d) ps)
  small_added = subst (λ z. AreSmall (merged at z ps)) (sym exact) (small_add s b ps at d is.sound.tied amount)

  pub small_amount : IsSmall (held d)
  small_amount = held_small d (amount_small d amount)

  pub small_before : IsSmall (held b)
  small_before = held_small b (before_small s b ps is.sound.tied)

  pub small_least : IsSmall (held s.least)
  small_least = held_small s.least (value_small s.least is.sound.tied.least)

  pub small_most : IsSmall (held s.most)
  small_most = held_small s.most (value_small s.most is.sound.tied.most)

  pub small_value : IsSmall (held s.value)
  small_value = held_small s.value (value_small s.value is.sound.tied.value)

  module _ (sum : ℤ) (is_sum : sum ≡ held b +ℤ cond (leb at s.base) (held d) (pos 0)) where
    sum_is : sum ≡ b +ℤ cond (leb at s.base) d (pos 0)
    sum_is = is_sum ∙ (ap (λ z. z +ℤ cond (leb at s.base) (held d) (pos 0)) (raw b (before_small s b ps is.sound.tied)) ∙ ap (λ z. b +ℤ cond (leb at s.base) z (pos 0)) exact)

    small_sum : IsSmall sum
    small_sum = subst (λ z. IsSmall z) (sym sum_is) (before_after s b ps at d is.sound.tied amount)

    exact_sum : held sum ≡ sum
    exact_sum = raw sum small_sum

    pub small_next : IsSmall (held (held sum))
    small_next = held_small (held sum) (held_small sum small_sum)

    module _ (l m : ℤ) (is_l : l ≡ (held s.least -ℤ held s.value) +ℤ held (held sum)) (is_m : m ≡ (held s.most -ℤ held s.value) +ℤ held (held sum)) (near : Span)
        (from : near.from ≡ begin s.horizon s.moment s.base at) (to : near.to ≡ s.horizon) (ps' : List Point) (points : ps' ≡ merged at (held d) ps) where
      is_points : ps' ≡ merged at d ps
      is_points = points ∙ ap (λ z. merged at z ps) exact

      least_is : l ≡ (s.least -ℤ s.value) +ℤ held sum
      least_is = limit_is s.least l (held s.value) s.value (held sum) (value_small s.least is.sound.tied.least) (raw s.value (value_small s.value is.sound.tied.value)) (ap held exact_sum) is_l

      most_is : m ≡ (s.most -ℤ s.value) +ℤ held sum
      most_is = limit_is s.most m (held s.value) s.value (held sum) (value_small s.most is.sound.tied.most) (raw s.value (value_small s.value is.sound.tied.value)) (ap held exact_sum) is_m

      pub sound_after : (low' high' : List Span) → AreSpans low' → AreSpans high'
          → ((t : ℕ) → covers low' t ≡ mended near.from near.to (λ x. is_outside (Below l) (sum_to ps' x)) low t)
          → ((t : ℕ) → covers high' t ≡ mended near.from near.to (λ x. is_outside (Above m) (sum_to ps' x)) high t)
          → IsSound (make false s.horizon s.least s.most s.moment s.base s.value after) (held sum) ps' low' high'
      sound_after low' high' apart_low apart_high says_low says_high =
          sound_shifted s.spoiled s.horizon s.least s.most s.moment s.base s.value s.effects after b ps at d low low' high high' ps' (held sum) l m
          is.sound is.shift is_points (exact_sum ∙ sum_is) least_is most_is apart_low apart_high
          (λ t. subst (λ n. covers low' t ≡ mended n s.horizon (λ x. is_outside (Below l) (sum_to ps' x)) low t) from (subst (λ n. covers low' t ≡ mended near.from n (λ x. is_outside (Below l) (sum_to ps' x)) low t) to (says_low t)))
          (λ t. subst (λ n. covers high' t ≡ mended n s.horizon (λ x. is_outside (Above m) (sum_to ps' x)) high t) from (subst (λ n. covers high' t ≡ mended near.from n (λ x. is_outside (Above m) (sum_to ps' x)) high t) to (says_high t)))

      pub cost_after : (parts : ℕ → ℕ) (change look find before mid last : ℕ) (v : Standing) → s ≡ v → mid ≤ before + parts (length ps) + change
          → last ≤ mid + (walk_steps parts look find (length ps') (points_after (goes_outside (Below l) ps') near.from ps') + walk_steps parts look find (length ps') (points_after (goes_outside (Above m) ps') near.from ps'))
          → last ≤ before + effect_steps parts change look find v (noted same_effect v.effects note) at d
      cost_after parts change look find before mid last v same cost walks =
          let late : s.base ≤ near.from = omega (arith, from, begin_late s.horizon s.moment s.base at is.sound.tied.in_time, is.sound.tied.based) in
          subst (λ (w : Standing). last ≤ before + effect_steps parts change look find w (noted same_effect w.effects note) at d) same
          (level_cost s.spoiled s.horizon s.least s.most s.moment s.base s.value s.effects after b ps at d parts change look find before mid last near.from ps' (held sum) l m
          is.sound.tied is.shift is_points (exact_sum ∙ sum_is) least_is most_is late cost walks)

  -- what a change takes that ends early
  pub cost_early : (parts : ℕ → ℕ) (change look find before last : ℕ) (v : Standing) → s ≡ v → last ≤ before + parts (length ps) + change → last ≤ before + effect_steps parts change look find v (noted same_effect v.effects note) at d
  cost_early parts change look find before last v same cost =
      subst (λ (w : Standing). last ≤ before + effect_steps parts change look find w (noted same_effect w.effects note) at d) same
      (change_cost parts change look find before last s after b ps at d is.sound.tied cost)

-- the window of a change ends at the horizon
pub window_rises : (h moment base at : ℕ) (near : Span) → near.from ≡ begin h moment base at → near.to ≡ h → near.from ≤ near.to
window_rises h moment base at near from to = omega (arith, from, to, begin_bound h moment base at)

-- what stands after one more note
pub noted_is : (notes notes' : List (Noted Effect)) (note : Noted Effect) → notes' ≡ notes ++ note ∷ [] → standing same_effect notes' ≡ noted same_effect (standing same_effect notes) note
noted_is notes notes' note is = ap (standing same_effect) is ∙ standing-push same_effect [] notes note

-- an effect that comes
pub came : (xs : List Effect) (at : ℕ) (d : ℤ) → IsEffect (effect_of at d) → length xs ≤ 319999 → Each IsEffect xs → IsShift at (held d) xs (noted same_effect xs (Came (effect_of at (held d))))
came xs at d is few bounded =
    let u = effect_of at d in
    subst (λ z. IsShift at z xs (xs ++ effect_of at z ∷ [])) (sym (raw d (amount_small d (amount_of u is)))) (shift_more xs u is few bounded)

-- an effect that goes
pub amount_went : (xs : List Effect) (at : ℕ) (d : ℤ) → stands same_effect (effect_of at d) xs ≡ true → Each IsEffect xs → IsAmount d
amount_went xs at d has bounded = amount_of (effect_of at d) (each-stands IsEffect same_effect same_exact xs (effect_of at d) bounded has)

pub went : (xs : List Effect) (at : ℕ) (d : ℤ) → stands same_effect (effect_of at d) xs ≡ true → length xs ≤ 320000 → Each IsEffect xs
    → IsShift at (held (pos 0 -ℤ held d)) xs (noted same_effect xs (Went (effect_of at (held d))))
went xs at d has few bounded =
    let am = amount_went xs at d has bounded in
    subst (λ z. IsShift at z xs (without same_effect (effect_of at (held d)) xs)) (sym (raw_back d am))
    (subst (λ z. IsShift at (neg_ℤ d) xs (without same_effect (effect_of at z) xs)) (sym (raw d (amount_small d am))) (shift_less xs (effect_of at d) has few bounded))
