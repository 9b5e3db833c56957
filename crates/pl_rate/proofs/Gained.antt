-- What is put behind hinges, one after the other, adds up.
use Rattle.std.proofs.Common.{◌≡◌, ℕ, suc, ◌+◌, drop-cons, ◌≤◌, ◌<◌, Bool, true, false, List, [], ◌∷◌, ◌++◌, length, drop, get_or, ℤ, pos, ◌+ℤ◌, ◌≤ℤ◌, refl, sym, ap, ◌∙◌, arith, eqb, if◌then◌else◌}
use Rattle.std.specs.Prelude.{All, flat_map, map, neg_ℤ, nat_le, nat_lt}
use Rattle.std.proofs.lemmas.Int.{ints}
use Rattle.std.proofs.lemmas.Bool.Decides.{nat_tests}
use Rattle.std.proofs.lemmas.List.Elements.{All-push}
use Rattle.std.proofs.lemmas.List.{drop_all}
use Rattle.pl_semantics.specs.PlanStates.{numbered}
use Rattle.pl_points.specs.Sums.{total}
use Rattle.pl_points.proofs.Totals.{total-push}
use Rattle.pl_level.specs.Effects.{counted, effect_of}
use Rattle.pl_rate.specs.declared.hinge.Hinge.{Hinge}
use Rattle.pl_rate.specs.Courses.{added_by, IsFlat}
use Rattle.pl_rate.specs.Hinges.{added_on, sum_on, Gain, Gains, gain_on, run_over, IsChange}
use Rattle.pl_rate.proofs.Bends.{bend, bends, no_run, jump_alone}

-- ---- sums

pub total_same : {T : Type 0} (f g : T → ℤ) → ((x : T) → f x ≡ g x) → (xs : List T) → total f xs ≡ total g xs
total_same f g same [] = refl
total_same f g same (x ∷ xs) = omega (arith, ints, same x, total_same f g same xs)

pub total_none : {T : Type 0} (xs : List T) → total (λ x. pos 0) xs ≡ pos 0
total_none [] = refl
total_none (x ∷ xs) = omega (arith, ints, total_none xs)

pub total_both : {T : Type 0} (f g : T → ℤ) (xs : List T) → total (λ x. f x +ℤ g x) xs ≡ total f xs +ℤ total g xs
total_both f g [] = omega (arith, ints)
total_both f g (x ∷ xs) = omega (arith, ints, total_both f g xs)

pub total_append : {T : Type 0} (f : T → ℤ) (xs ys : List T) → total f (xs ++ ys) ≡ total f xs +ℤ total f ys
total_append f [] ys = omega (arith, ints)
total_append f (x ∷ xs) ys = omega (arith, ints, total_append f xs ys)

pub total_flat : {T X : Type 0} (f : X → ℤ) (rule : T → List X) (xs : List T) → total f (flat_map rule xs) ≡ total (λ x. total f (rule x)) xs
total_flat f rule [] = refl
total_flat f rule (x ∷ xs) = omega (arith, ints, total_append f (rule x) (flat_map rule xs), total_flat f rule xs)

pub total_map : {T X : Type 0} (f : X → ℤ) (rule : T → X) (xs : List T) → total f (map rule xs) ≡ total (λ x. f (rule x)) xs
total_map f rule [] = refl
total_map f rule (x ∷ xs) = omega (arith, ints, total_map f rule xs)

-- sums of sums, by either first
pub total_swap : {T X : Type 0} (f : T → X → ℤ) (xs : List T) (ys : List X) → total (λ x. total (f x) ys) xs ≡ total (λ y. total (λ x. f x y) xs) ys
total_swap f [] ys = sym (total_none ys)
total_swap f (x ∷ xs) ys = omega (arith, ints, total_swap f xs ys, total_both (f x) (λ y. total (λ z. f z y) xs) ys)

-- ---- gains

pub gains_none : (old : List Hinge) (gain : Gain) → ((line t : ℕ) → gain line t ≡ pos 0) → Gains old old gain
gains_none old gain none = record {
  sums = λ line t. omega (arith, ints, none line t);
  flat = λ flat. flat;
}

pub gains_one : (old : List Hinge) (h : Hinge) (gain : Gain) → IsFlat h → ((line t : ℕ) → added_on line t h ≡ gain line t) → Gains old (old ++ h ∷ []) gain
gains_one old h gain flat is = record {
  sums = λ line t. total-push (added_on line t) old h ∙ ap (λ z. sum_on old line t +ℤ z) (is line t);
  flat = λ all. All-push IsFlat old h all flat;
}

pub gains_both : (a b c : List Hinge) (one other gain : Gain) → Gains a b one → Gains b c other → ((line t : ℕ) → one line t +ℤ other line t ≡ gain line t) → Gains a c gain
gains_both a b c one other gain first second is = record {
  sums = λ line t. omega (arith, ints, first.sums line t, second.sums line t, is line t);
  flat = λ all. second.flat (first.flat all);
}

pub gains_as : (a b : List Hinge) (one gain : Gain) → Gains a b one → ((line t : ℕ) → one line t ≡ gain line t) → Gains a b gain
gains_as a b one gain first is = record {
  sums = λ line t. first.sums line t ∙ ap (λ z. sum_on a line t +ℤ z) (is line t);
  flat = first.flat;
}

-- ---- runs and jumps

on_none : (b : Bool) (x : ℤ) → x ≡ pos 0 → (if b then x else pos 0) ≡ pos 0
on_none true x e = e
on_none false x e = refl

both_on : (b : Bool) (x y z : ℤ) → x +ℤ y ≡ z → (if b then x else pos 0) +ℤ (if b then y else pos 0) ≡ (if b then z else pos 0)
both_on true x y z e = e
both_on false x y z e = omega (arith, ints)

pub run_gains : (old : List Hinge) (line from end : ℕ) (change : ℤ) → IsChange change → from < end → Gains old ((old ++ bend line from change ∷ []) ++ bend line end (neg_ℤ change) ∷ []) (gain_on line (run_over from end change))
run_gains old line from end change small lt =
    gains_both old (old ++ bend line from change ∷ []) _ (λ l t. added_on l t (bend line from change)) (λ l t. added_on l t (bend line end (neg_ℤ change))) _
    (gains_one old (bend line from change) _ (omega (arith, ints), omega (arith, ints), small.0, small.1) (λ l t. refl))
    (gains_one (old ++ bend line from change ∷ []) (bend line end (neg_ℤ change)) _ (omega (arith, ints), omega (arith, ints), omega (arith, ints, small.1), omega (arith, ints, small.0)) (λ l t. refl))
    (λ l t. both_on (eqb line l) (added_by t (bend line from change)) (added_by t (bend line end (neg_ℤ change))) (run_over from end change t) (bends line change from end t (omega (arith, lt))))

pub no_run_gains : (old : List Hinge) (line from end : ℕ) (change : ℤ) → end ≤ from → Gains old old (gain_on line (run_over from end change))
no_run_gains old line from end change le = gains_none old _ (λ l t. on_none (eqb line l) (run_over from end change t) (no_run change from end t le))

counted_is : (base at t : ℕ) (delta : ℤ) → base < at → (if nat_le at t then delta else pos 0) ≡ counted base t (effect_of at delta)
counted_is base at t delta lt = let on : nat_lt base at ≡ true = grind (arith, nat_tests) in rw on refl

counted_not : (base at t : ℕ) (delta : ℤ) → at ≤ base → counted base t (effect_of at delta) ≡ pos 0
counted_not base at t delta le = let off : nat_lt base at ≡ false = grind (arith, nat_tests) in rw off refl

abbrev pub jump_at : ℕ → ℕ → ℤ → Hinge
jump_at line at delta = record { line = line; moment = at; jump = delta; slope = pos 0 }

pub jump_gains : (old : List Hinge) (line base at : ℕ) (delta : ℤ) → neg_ℤ (pos 1000000000) ≤ℤ delta → delta ≤ℤ pos 1000000000 → base < at → Gains old (old ++ jump_at line at delta ∷ []) (gain_on line (λ t. counted base t (effect_of at delta)))
jump_gains old line base at delta low high lt =
    gains_one old (jump_at line at delta) _ (low, high, omega (arith, ints), omega (arith, ints))
    (λ l t. ap (λ z. if eqb line l then z else pos 0) (jump_alone line at t delta ∙ counted_is base at t delta lt))

pub no_jump_gains : (old : List Hinge) (line base at : ℕ) (delta : ℤ) → at ≤ base → Gains old old (gain_on line (λ t. counted base t (effect_of at delta)))
no_jump_gains old line base at delta le = gains_none old _ (λ l t. on_none (eqb line l) (counted base t (effect_of at delta)) (counted_not base at t delta le))

-- ---- along a list

-- what was put, and what the rest is still to add, are what all add
pub record Leaves {X : Type 0} (gain : X → Gain) (old new : List Hinge) (xs rest : List X) : Type 0 where
  pub sums : (line t : ℕ) → sum_on new line t +ℤ total (λ x. gain x line t) rest ≡ sum_on old line t +ℤ total (λ x. gain x line t) xs
  pub flat : All IsFlat old → All IsFlat new

pub leaves_all : {X : Type 0} (gain : X → Gain) (old : List Hinge) (xs : List X) → Leaves gain old old xs xs
leaves_all gain old xs = record { sums = λ line t. refl; flat = λ all. all }

pub leaves_more : {X : Type 0} (gain : X → Gain) (old new next : List Hinge) (xs rest more : List X) (x : X) → rest ≡ x ∷ more → Leaves gain old new xs rest → Gains new next (gain x) → Leaves gain old next xs more
leaves_more gain old new next xs rest more x is left gains = record {
  sums = λ line t. let cut : total (λ y. gain y line t) rest ≡ gain x line t +ℤ total (λ y. gain y line t) more = ap (λ l. total (λ y. gain y line t) l) is in omega (arith, ints, left.sums line t, gains.sums line t, cut);
  flat = λ all. gains.flat (left.flat all);
}

pub leaves_none : {X : Type 0} (gain : X → Gain) (old new : List Hinge) (xs rest : List X) → rest ≡ [] → Leaves gain old new xs rest → Gains old new (λ line t. total (λ x. gain x line t) xs)
leaves_none gain old new xs rest none left = record {
  sums = λ line t. let nothing : total (λ y. gain y line t) rest ≡ pos 0 = ap (λ l. total (λ y. gain y line t) l) none in omega (arith, ints, left.sums line t, nothing);
  flat = left.flat;
}

-- the item that a loop is at, before those that it has still to come to
pub cons_at : {X : Type 0} (xs : List X) (i : ℕ) (x : X) → i < length xs → x ≡ get_or xs i x → drop i xs ≡ x ∷ drop (i + 1) xs
cons_at xs i x lt is =
    let next : suc i ≡ i + 1 = omega arith in
    drop-cons xs i x lt ∙ (ap (λ y. y ∷ drop (suc i) xs) (sym is) ∙ ap (λ n. x ∷ drop n xs) next)

-- the same with numbers
pub numbered_at : {X : Type 0} (xs : List X) (n : ℕ) (x : X) → n < length xs → x ≡ get_or xs n x → numbered n (drop n xs) ≡ (n, x) ∷ numbered (n + 1) (drop (n + 1) xs)
numbered_at xs n x lt is =
    let next : suc n ≡ n + 1 = omega arith in
    ap (numbered n) (cons_at xs n x lt is) ∙ ap (λ m. (n, x) ∷ numbered m (drop (n + 1) xs)) next

pub numbered_past : {X : Type 0} (xs : List X) (n : ℕ) → length xs ≤ n → numbered n (drop n xs) ≡ []
numbered_past xs n le = ap (numbered n) (drop_all n xs le)

-- the item at a place, whatever stands for one past the end
pub cons_by : {X : Type 0} (xs : List X) (i : ℕ) (d : X) → i < length xs → drop i xs ≡ get_or xs i d ∷ drop (i + 1) xs
cons_by xs i d lt =
    let next : suc i ≡ i + 1 = omega arith in
    drop-cons xs i d lt ∙ ap (λ n. get_or xs i d ∷ drop n xs) next
