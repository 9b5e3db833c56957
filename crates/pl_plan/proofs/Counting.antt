-- How many activities pass a test, after each change of the activities.
use Rattle.std.proofs.Common.{◌≡◌, ℕ, zero, suc, ◌+◌, ◌<◌, ◌^◌, eqb, ltb, Bool, true, false, cond, List, [], ◌∷◌, length, Option, Some, None, refl, sym, ap, ◌∙◌, arith}
use Rattle.std.specs.Prelude.{count_by, if◌then◌else◌}
use Rattle.std.specs.List.{list_any}
use Rattle.std.proofs.lemmas.Bool.{eqb-true, eq-eqb, lt-ltb}
use Rattle.std.proofs.lemmas.List.Sums.{count_by-le-length, sum_by-cons}
use Rattle.std.proofs.lemmas.Option.{same_Some}
use Rattle.pl_plan.specs.declared.activity.Activity.{Activity}
use Rattle.pl_plan.specs.Activities.{RiseFrom, AreRising, activity_of, placed, without, exchanged}
use Rattle.pl_plan.specs.Index.{is_number}
use Rattle.pl_plan.specs.Serving.{serves, served_in}
use Rattle.pl_plan.specs.Counts.{AreCounted, Raises, MayRise, MayFall}
use Rattle.pl_plan.proofs.Ids.{others_keep}

module _ (p : Activity → Bool) where
  abbrev one : Activity → ℕ
  one a = if p a then 1 else 0

  count-cons : (x : Activity) (xs : List Activity) → count_by p (x ∷ xs) ≡ one x + count_by p xs
  count-cons x xs = sum_by-cons (λ z. cond (p z) 1 0) x xs

  count-placed : (a : Activity) (xs : List Activity) → count_by p (placed a xs) ≡ count_by p xs + one a
  count-placed a [] = omega (arith, count-cons a [])
  count-placed a (x ∷ xs) = cases (ltb x.id a.id) refl (count-placed a xs)
    where
      cases : (b : Bool) → ltb x.id a.id ≡ b → count_by p (placed a xs) ≡ count_by p xs + one a → count_by p (placed a (x ∷ xs)) ≡ count_by p (x ∷ xs) + one a
      cases true e more =
          let is : placed a (x ∷ xs) ≡ x ∷ placed a xs = rw e refl in
          ap (count_by p) is ∙ (count-cons x (placed a xs) ∙ omega (arith, more, count-cons x xs))
      cases false e more =
          let is : placed a (x ∷ xs) ≡ a ∷ x ∷ xs = rw e refl in
          ap (count_by p) is ∙ (count-cons a (x ∷ xs) ∙ omega arith)

  count-without : (a : Activity) (xs : List Activity) → activity_of a.id xs ≡ Some a → count_by p xs ≡ count_by p (without a.id xs) + one a
  count-without a [] here = absurd (cc)
  count-without a (x ∷ xs) here = cases (eqb x.id a.id) refl (count-without a xs)
    where
      cases : (b : Bool) → eqb x.id a.id ≡ b → (activity_of a.id xs ≡ Some a → count_by p xs ≡ count_by p (without a.id xs) + one a) → count_by p (x ∷ xs) ≡ count_by p (without a.id (x ∷ xs)) + one a
      cases true e more =
          let found : Some x ≡ Some a = rw e at here in
          let same : one x ≡ one a = ap one (same_Some x a found) in
          let is : without a.id (x ∷ xs) ≡ xs = rw e refl in
          let count : count_by p (without a.id (x ∷ xs)) ≡ count_by p xs = ap (count_by p) is in
          omega (arith, same, count, count-cons x xs)
      cases false e more =
          let rest : activity_of a.id xs ≡ Some a = rw e at here in
          let is : without a.id (x ∷ xs) ≡ x ∷ without a.id xs = rw e refl in
          let count : count_by p (without a.id (x ∷ xs)) ≡ count_by p (x ∷ without a.id xs) = ap (count_by p) is in
          omega (arith, more rest, count, count-cons x xs, count-cons x (without a.id xs))

  count-exchanged : (a : Activity) (c : ℕ) (xs : List Activity) → RiseFrom c xs → ((b : Activity) → activity_of a.id xs ≡ Some b → p b ≡ p a) → count_by p (exchanged a xs) ≡ count_by p xs
  count-exchanged a c [] rising same = refl
  count-exchanged a c (x ∷ xs) rising same = cases (eqb x.id a.id) refl (count-exchanged a (suc x.id) xs rising.1)
    where
      cases : (b : Bool) → eqb x.id a.id ≡ b → (((b : Activity) → activity_of a.id xs ≡ Some b → p b ≡ p a) → count_by p (exchanged a xs) ≡ count_by p xs) → count_by p (exchanged a (x ∷ xs)) ≡ count_by p (x ∷ xs)
      cases true e more =
          let is = eqb-true x.id a.id e in
          let alike : one x ≡ one a = rw (same x (rw e refl)) refl in
          let rest : exchanged a xs ≡ xs = others_keep a xs (suc x.id) rising.1 (omega (arith, is)) in
          let all : exchanged a (x ∷ xs) ≡ a ∷ xs = rw e (ap (λ l. a ∷ l) rest) in
          let count : count_by p (exchanged a (x ∷ xs)) ≡ count_by p (a ∷ xs) = ap (count_by p) all in
          omega (arith, alike, count, count-cons x xs, count-cons a xs)
      cases false e more =
          let rest = more (λ b f. same b (rw e f)) in
          let all : exchanged a (x ∷ xs) ≡ x ∷ exchanged a xs = rw e refl in
          let count : count_by p (exchanged a (x ∷ xs)) ≡ count_by p (x ∷ exchanged a xs) = ap (count_by p) all in
          omega (arith, rest, count, count-cons x xs, count-cons x (exchanged a xs))

  pub any_counted : (xs : List Activity) → ltb 0 (count_by p xs) ≡ list_any p xs
  any_counted [] = refl
  any_counted (x ∷ xs) = cases (p x) refl (any_counted xs)
    where
      cases : (b : Bool) → p x ≡ b → ltb 0 (count_by p xs) ≡ list_any p xs → ltb 0 (count_by p (x ∷ xs)) ≡ list_any p (x ∷ xs)
      cases true e more =
          let some : one x ≡ suc zero = rw e refl in
          lt-ltb 0 (count_by p (x ∷ xs)) (omega (arith, some, count-cons x xs)) ∙ rw e refl
      cases false e more =
          let none : one x ≡ zero = rw e refl in
          let same : count_by p (x ∷ xs) ≡ count_by p xs = omega (arith, none, count-cons x xs) in
          ap (ltb 0) same ∙ (more ∙ rw e refl)

-- ---- the counts of servers

pub counted-placed : (a : Activity) (xs : List Activity) (before after : List ℕ) → AreCounted xs before → Raises (served_in a) before after → AreCounted (placed a xs) after
counted-placed a xs before after tied raises n lt =
    let count : count_by (serves n) (placed a xs) ≡ count_by (serves n) xs + (if is_number n (served_in a) then 1 else 0) = count-placed (serves n) a xs in
    raises n lt ∙ omega (arith, tied n lt, count)

pub counted-without : (a : Activity) (xs : List Activity) (before after : List ℕ) → activity_of a.id xs ≡ Some a → AreCounted xs before → Raises (served_in a) after before → AreCounted (without a.id xs) after
counted-without a xs before after here tied raises n lt =
    let count : count_by (serves n) xs ≡ count_by (serves n) (without a.id xs) + (if is_number n (served_in a) then 1 else 0) = count-without (serves n) a xs here in
    omega (arith, tied n lt, raises n lt, count)

pub counted-exchanged : (a : Activity) (xs : List Activity) (counts : List ℕ) → AreRising xs → ((b : Activity) → activity_of a.id xs ≡ Some b → served_in b ≡ served_in a) → AreCounted xs counts → AreCounted (exchanged a xs) counts
counted-exchanged a xs counts rising same tied n lt = tied n lt ∙ sym (count-exchanged (serves n) a 0 xs rising (λ b f. ap (λ o. is_number n o) (same b f)))

-- in a plan that has room for one more
pub may_rise : (goal : Option ℕ) (xs : List Activity) (counts : List ℕ) → length xs + 1 < 2 ^ 32 → AreCounted xs counts → MayRise goal counts
may_rise None xs counts room tied = tt
may_rise (Some g) xs counts room tied = λ lt. omega (arith, room, tied g lt, count_by-le-length (serves g) xs)

-- an activity that is there is counted
pub may_fall : (a : Activity) (xs : List Activity) (counts : List ℕ) → activity_of a.id xs ≡ Some a → AreCounted xs counts → MayFall (served_in a) counts
may_fall a xs counts here tied = cases (served_in a) refl
  where
    cases : (o : Option ℕ) → served_in a ≡ o → MayFall o counts
    cases None e = tt
    cases (Some g) e = λ lt.
        let one_is : (if serves g a then 1 else 0) ≡ suc zero = rw (e, eq-eqb g g refl) refl in
        let count : count_by (serves g) xs ≡ count_by (serves g) (without a.id xs) + (if serves g a then 1 else 0) = count-without (serves g) a xs here in
        omega (arith, tied g lt, count, one_is)
