-- The greatest of some numbers, and the best of some moves by what they gain.
use Rattle.std.proofs.Common.{◌≡◌, ℕ, ◌+◌, ◌<◌, ◌≤◌, Bool, true, false, ◌&&◌, cond, eqb, List, [], ◌∷◌, ◌++◌, length, get_or, set, filter, Some, refl, sym, ap, ◌∙◌, subst, arith, ℤ, pos, ◌≤ℤ◌, below_more, get_or-set_other}
use Rattle.std.specs.Prelude.{◌<ℤ◌, int_lt, slice_get, count_by}
use Rattle.std.proofs.lemmas.Int.{ints}
use Rattle.std.proofs.lemmas.Bool.{and_parts, eqb-true, eqb-false}
use Rattle.std.proofs.Math.ListN.{get_or-append}
use Rattle.std.proofs.Math.Seq.{get_or-append_seam}
use Rattle.std.proofs.lemmas.Option.{slice_get-get_or, get_or_from_slice_get, slice_get_within}
use Rattle.std.proofs.lemmas.List.{length-set, length_push}
use Rattle.std.proofs.lemmas.List.Sums.{sum_by-set}
use Rattle.pl_plan.specs.declared.repair.RepairMove.{RepairMove}
use Rattle.pl_semantics.specs.declared.plan_state.PlanState.{PlanState}
use Rattle.pl_prefs.specs.declared.prefer.Prefer.{Prefer}
use Rattle.pl_prefs.specs.Scores.{score}
use Rattle.pl_prefs.specs.Betters.{is_clear, is_better, score_after, IsFirstBest}
use Rattle.pl_prefs.specs.Worths.{gain_of}
use Rattle.pl_prefs.specs.Chances.{number_at, AreGains, IsMostAt, IsGreatestAt}
use Rattle.pl_prefs.proofs.Picking.{first_best, none_pass}

-- ---- what the first of them gain

pub record AreFirstGains (s : PlanState) (prefers : List Prefer) (moves : List RepairMove) (gains : List ℤ) (n : ℕ) : Type 0 where
  pub each : (k : ℕ) → k < n → (m : RepairMove) → slice_get moves k ≡ Some m → is_clear s m ≡ true → number_at gains k ≡ gain_of s prefers m
  pub many : length gains ≡ n
  pub short : n ≤ length moves

pub gained_none : (s : PlanState) (prefers : List Prefer) (moves : List RepairMove) → AreFirstGains s prefers moves [] 0
gained_none s prefers moves = record { each = λ k lt m here clear. absurd (omega (arith, lt)); many = refl; short = omega arith }

pub gained_more : (s : PlanState) (prefers : List Prefer) (moves : List RepairMove) (gains : List ℤ) (n : ℕ) (mv : RepairMove) (z : ℤ) → AreFirstGains s prefers moves gains n → slice_get moves n ≡ Some mv → (is_clear s mv ≡ true → z ≡ gain_of s prefers mv) → AreFirstGains s prefers moves (gains ++ z ∷ []) (n + 1)
gained_more s prefers moves gains n mv z of here gain = record {
  each = below_more (λ k. (m : RepairMove) → slice_get moves k ≡ Some m → is_clear s m ≡ true → number_at (gains ++ z ∷ []) k ≡ gain_of s prefers m) n
      (λ k lt m there clear. get_or-append gains (z ∷ []) (pos 0) k (omega (arith, lt, of.many)) ∙ of.each k lt m there clear)
      (λ m there clear. (
      let same : Some mv ≡ Some m = sym here ∙ there in
      let one : mv ≡ m = cc in
      let seam : number_at (gains ++ z ∷ []) n ≡ z = ap (number_at (gains ++ z ∷ [])) (sym of.many) ∙ get_or-append_seam gains z [] (pos 0) in
      seam ∙ (gain (ap (is_clear s) one ∙ clear) ∙ ap (gain_of s prefers) one)));
  many = omega (arith, of.many, length_push gains z);
  short = omega (arith, slice_get_within moves n mv here);
}

pub gained_all : (s : PlanState) (prefers : List Prefer) (moves : List RepairMove) (gains : List ℤ) (n : ℕ) → AreFirstGains s prefers moves gains n → length moves ≤ n → AreGains s prefers moves gains
gained_all s prefers moves gains n of all = record {
  each = λ k m here clear. of.each k (omega (arith, all, slice_get_within moves k m here)) m here clear;
  all = omega (arith, of.many, of.short, all);
}

-- ---- the greatest so far

pub most_of_none : (gains : List ℤ) → IsMostAt gains 0 0
most_of_none gains = record {
  reached = omega arith;
  inside = λ some. absurd (omega (arith, some));
  no_more = λ k lt. absurd (omega (arith, lt));
  less = λ k lt. absurd (omega (arith, lt));
}

pub most_takes : (gains : List ℤ) (n place : ℕ) → IsMostAt gains n place → number_at gains place <ℤ number_at gains n → IsMostAt gains (n + 1) n
most_takes gains n place of more = record {
  reached = omega arith;
  inside = λ some. omega arith;
  no_more = below_more (λ k. number_at gains k ≤ℤ number_at gains n) n (λ k before. omega (arith, ints, of.no_more k before, more)) (omega (arith, ints));
  less = λ k before. omega (arith, ints, of.no_more k before, more);
}

pub most_keeps : (gains : List ℤ) (n place : ℕ) → IsMostAt gains n place → number_at gains n ≤ℤ number_at gains place → IsMostAt gains (n + 1) place
most_keeps gains n place of no_more = record {
  reached = omega (arith, of.reached);
  inside = λ some. omega (arith, of.reached);
  no_more = below_more (λ k. number_at gains k ≤ℤ number_at gains place) n of.no_more no_more;
  less = of.less;
}

pub greatest_there : (gains : List ℤ) (n place : ℕ) → IsMostAt gains n place → n ≡ length gains → 0 < length gains → pos 0 <ℤ number_at gains place → IsGreatestAt gains place
greatest_there gains n place of all some above = record {
  within = omega (arith, of.inside (omega (arith, all, some)), all);
  above = above;
  less = of.less;
  no_more = λ k lt. of.no_more k (omega (arith, lt, all));
}

pub greatest_nowhere : (gains : List ℤ) (n place : ℕ) → IsMostAt gains n place → n ≡ length gains → number_at gains place ≤ℤ pos 0 → (k : ℕ) → k < length gains → number_at gains k ≤ℤ pos 0
greatest_nowhere gains n place of all none k lt = omega (arith, ints, of.no_more k (omega (arith, lt, all)), none)

-- ---- one that was tried and is not clear counts no more

pub tried_out : (s : PlanState) (prefers : List Prefer) (moves : List RepairMove) (left : List ℤ) (place : ℕ) (m : RepairMove) → AreGains s prefers moves left → place < length left → slice_get moves place ≡ Some m → is_clear s m ≡ false → AreGains s prefers moves (set left place (pos 0))
tried_out s prefers moves left place m of within here not_clear = record {
  each = λ k n there clear. by (eqb k place) k refl n there clear;
  all = length-set left place (pos 0) ∙ of.all;
}
  where
    by : (b : Bool) (k : ℕ) → eqb k place ≡ b → (n : RepairMove) → slice_get moves k ≡ Some n → is_clear s n ≡ true → number_at (set left place (pos 0)) k ≡ gain_of s prefers n
    by true k e n there clear =
        let at : k ≡ place = eqb-true k place e in
        let same : Some n ≡ Some m = sym there ∙ (ap (slice_get moves) at ∙ here) in
        let one : n ≡ m = cc in
        absurd (let bad : true ≡ false = sym clear ∙ (ap (is_clear s) one ∙ not_clear) in cc)
    by false k e n there clear = get_or-set_other left place k (pos 0) (pos 0) (eqb-false k place e) ∙ of.each k n there clear

less_to_test : (a b : ℤ) → a <ℤ b → int_lt a b ≡ true
less_to_test a b lt = grind (arith, ints)

less_from_test : (a b : ℤ) → int_lt a b ≡ true → a <ℤ b
less_from_test a b e = grind (arith, ints)

-- how many of the numbers are above 0
abbrev pub is_above : ℤ → Bool
is_above g = int_lt (pos 0) g

pub fewer_above : (left : List ℤ) (place : ℕ) → place < length left → pos 0 <ℤ number_at left place → count_by is_above (set left place (pos 0)) < count_by is_above left
fewer_above left place within above =
    let law = sum_by-set (λ g. cond (is_above g) 1 0) left place (pos 0) (pos 0) within in
    let one : ◌≡◌ {A = ℕ} (cond (is_above (number_at left place)) 1 0) 1 = ap (λ b. cond b 1 0) (less_to_test (pos 0) (number_at left place) above) in
    omega (arith, law, one)

-- ---- the best by gains

module _ (s : PlanState) (prefers : List Prefer) (moves : List RepairMove) (left : List ℤ) (of : AreGains s prefers moves left) where
  -- one that betters the plan gains what its number says, and that is above 0
  gains_so : (k : ℕ) (m : RepairMove) → slice_get moves k ≡ Some m → is_better s prefers m ≡ true → (number_at left k ≡ gain_of s prefers m) × (score s prefers <ℤ score_after s prefers m)
  gains_so k m here better =
      let both = and_parts (is_clear s m) (int_lt (score s prefers) (score_after s prefers m)) better in
      (of.each k m here both.0, less_from_test (score s prefers) (score_after s prefers m) both.1)

  best_at : (place : ℕ) (d : RepairMove) → IsGreatestAt left place → is_clear s (get_or moves place d) ≡ true → IsFirstBest (score_after s prefers) (filter (is_better s prefers) moves) (get_or moves place d)
  best_at place d greatest clear =
      let best : RepairMove = get_or moves place d in
      let lt : place < length moves = omega (arith, greatest.within, of.all) in
      let gain = of.each place best (slice_get-get_or moves place d lt) clear in
      let rises : score s prefers <ℤ score_after s prefers best = omega (arith, ints, greatest.above, gain) in
      let passes : is_better s prefers best ≡ true = ap (λ b. b && int_lt (score s prefers) (score_after s prefers best)) clear ∙ less_to_test (score s prefers) (score_after s prefers best) rises in
      first_best (score_after s prefers) (is_better s prefers) moves place d lt passes
      (λ j before better. (let other = gains_so j (get_or moves j d) (slice_get-get_or moves j d (omega (arith, before, lt))) better in omega (arith, ints, greatest.less j before, gain, other.0)))
      (λ j e past within better. (let other = gains_so j (get_or moves j e) (slice_get-get_or moves j e within) better in omega (arith, ints, greatest.no_more j (omega (arith, within, of.all)), gain, other.0)))

  pub chosen_best : (place : ℕ) (m : RepairMove) → IsGreatestAt left place → slice_get moves place ≡ Some m → is_clear s m ≡ true → IsFirstBest (score_after s prefers) (filter (is_better s prefers) moves) m
  chosen_best place m greatest here clear =
      let is : get_or moves place m ≡ m = get_or_from_slice_get moves place m m here in
      subst (λ (n : RepairMove). IsFirstBest (score_after s prefers) (filter (is_better s prefers) moves) n) is (best_at place m greatest (ap (is_clear s) is ∙ clear))

  pub none_better : ((k : ℕ) → k < length left → number_at left k ≤ℤ pos 0) → filter (is_better s prefers) moves ≡ []
  none_better none = none_pass (is_better s prefers) moves (λ i d lt. by i d lt (is_better s prefers (get_or moves i d)) refl)
    where
      by : (i : ℕ) (d : RepairMove) → i < length moves → (b : Bool) → is_better s prefers (get_or moves i d) ≡ b → is_better s prefers (get_or moves i d) ≡ false
      by i d lt false e = e
      by i d lt true e =
          let so = gains_so i (get_or moves i d) (slice_get-get_or moves i d lt) e in
          let at : i < length left = omega (arith, lt, of.all) in
          absurd (omega (arith, ints, none i at, so.0, so.1))
