-- Sorted lists without two of one key are one list where they add up to the same, whatever is counted.
use Rattle.std.proofs.Common.{◌≡◌, ℕ, eqb, Bool, true, false, List, [], ◌∷◌, refl, ap, ◌∙◌, arith, inl, inr, ℤ, pos, ◌+ℤ◌, ◌≤ℤ◌}
use Rattle.std.proofs.lemmas.Int.{ints}
use Rattle.std.proofs.lemmas.Bool.{and_parts, eqb-true, eq-eqb}
use Rattle.pl_points.specs.Sums.{total}
use Rattle.pl_state.specs.declared.reservation.Setting.{Setting}
use Rattle.pl_state.specs.declared.reservation.Must.{Must}
use Rattle.pl_state.specs.Keys.{key_of, AreSorted, Has}
use Rattle.pl_state.specs.Sets.{setting_of, same_setting, set_key}
use Rattle.pl_state.specs.Musts.{same_must, must_key}
use Rattle.pl_state.proofs.Sorting.{same_lists}
use Rattle.pl_state.proofs.Indexing.{exact_must}
use Rattle.pl_semantics.specs.declared.plan_state.PlanState.{PlanState}
use Rattle.pl_plan.specs.Activities.{AreRising}
use Rattle.pl_semantics.specs.Demands.{demands_of, sets_of, musts_of}
use Rattle.pl_update.proofs.AboutTimelines.Listing.{total_least}
use Rattle.pl_update.proofs.AboutTimelines.StandingApart.{count, count_least, at_place, distinct_counted, once_set, once_must, sets_sorted, musts_sorted}

-- ---- what is the same

pub set_exact : (x y : Setting) → same_setting x y ≡ true → x ≡ y
set_exact x y e =
    let one = and_parts (eqb x.at y.at) _ e in
    let two = and_parts (eqb x.id y.id) _ one.1 in
    let three = and_parts (eqb x.index y.index) _ two.1 in
    ap (λ n. setting_of n x.id x.index x.state) (eqb-true x.at y.at one.0) ∙ (ap (λ n. setting_of y.at n x.index x.state) (eqb-true x.id y.id two.0) ∙ (ap (λ n. setting_of y.at y.id n x.state) (eqb-true x.index y.index three.0) ∙ ap (λ n. setting_of y.at y.id y.index n) (eqb-true x.state y.state three.1)))

pub set_itself : (x : Setting) → same_setting x x ≡ true
set_itself x = rw (eq-eqb x.at x.at refl, eq-eqb x.id x.id refl, eq-eqb x.index x.index refl, eq-eqb x.state x.state refl) refl

pub must_itself : (x : Must) → same_must x x ≡ true
must_itself x = rw (eq-eqb x.from x.from refl, eq-eqb x.to x.to refl, eq-eqb x.id x.id refl, eq-eqb x.index x.index refl, eq-eqb x.state x.state refl) refl

-- ---- what is there is counted

module _ {T : Type 0} (at id index : T → ℕ) (same : T → T → Bool) (exact : (x y : T) → same x y ≡ true → x ≡ y) (itself : (x : T) → same x x ≡ true) where
  counted : (x : T) (xs : List T) → Has x xs → pos 1 ≤ℤ total (λ y. count (same y x)) xs
  counted x [] has = absurd has
  counted x (y ∷ ys) has = elim has [
    | inl e ↦ (let one : count (same y x) ≡ pos 1 = ap count (ap (λ z. same z x) e ∙ itself x) in omega (arith, ints, one, total_least (λ z. count (same z x)) (λ z. count_least (same z x)) ys))
    | inr more ↦ omega (arith, ints, counted x ys more, count_least (same y x))
  ]

  there : (x : T) (xs : List T) → pos 1 ≤ℤ total (λ y. count (same y x)) xs → Has x xs
  there x [] le = absurd (omega (arith, ints, le))
  there x (y ∷ ys) le = by (same y x) refl le (there x ys)
    where
      by : (b : Bool) → same y x ≡ b → pos 1 ≤ℤ (count b +ℤ total (λ z. count (same z x)) ys) → (pos 1 ≤ℤ total (λ z. count (same z x)) ys → Has x ys) → Has x (y ∷ ys)
      by true e le more = inl (exact y x e)
      by false e le more = inr (more (omega (arith, ints, le)))

  -- equal where each sum over them is
  equal : (xs ys : List T) → AreSorted (λ (x : T). key_of (at x) (id x) (index x)) xs → AreSorted (λ (x : T). key_of (at x) (id x) (index x)) ys → ((g : T → ℤ) → total g xs ≡ total g ys) → ((i k : ℕ) → total (at_place at id index i k) ys ≤ℤ pos 1) → xs ≡ ys
  equal xs ys one two sums once =
      same_lists (λ (x : T). key_of (at x) (id x) (index x)) xs ys one two
      (distinct_counted at id index xs (λ i k. omega (arith, ints, sums (at_place at id index i k), once i k)))
      (distinct_counted at id index ys once)
      (λ x has. there x ys (omega (arith, ints, counted x xs has, sums (λ y. count (same y x)))))
      (λ x has. there x xs (omega (arith, ints, counted x ys has, sums (λ y. count (same y x)))))

-- ---- sets and musts

pub sets_equal : (s : PlanState) (line : ℕ) (sets : List Setting) → AreRising s.plan.activities → AreSorted set_key sets → ((g : Setting → ℤ) → total g sets ≡ total g (sets_of line (demands_of s))) → sets ≡ sets_of line (demands_of s)
sets_equal s line sets rising sorted sums = equal (λ x. x.at) (λ x. x.id) (λ x. x.index) same_setting set_exact set_itself sets (sets_of line (demands_of s)) sorted (sets_sorted line (demands_of s)) sums (once_set s line rising)

pub musts_equal : (s : PlanState) (line : ℕ) (musts : List Must) → AreRising s.plan.activities → AreSorted must_key musts → ((g : Must → ℤ) → total g musts ≡ total g (musts_of line (demands_of s))) → musts ≡ musts_of line (demands_of s)
musts_equal s line musts rising sorted sums = equal (λ m. 0) (λ m. m.id) (λ m. m.index) same_must exact_must must_itself musts (musts_of line (demands_of s)) sorted (musts_sorted line (demands_of s)) sums (once_must s line rising)
