-- Steps of a walk over conflicts in their order, which ends where the present is passed.
use Rattle.std.proofs.Common.{◌≡◌, ℕ, ◌<◌, ◌≤◌, eqb, Bool, true, false, cond, List, [], ◌∷◌, ◌++◌, map, refl, sym, ap, ◌∙◌, subst, append_assoc, append-nil, arith}
use Rattle.std.specs.Prelude.{All, filter, take_while, nat_lt}
use Rattle.std.specs.declared.cmp.Ordering.TheVariants.{Less}
use Rattle.std.proofs.lemmas.Bool.{lt-leb, ltb-false, le-ltb}
use Rattle.std.proofs.lemmas.List.Elements.{All-head, All-tail}
use Rattle.std.proofs.lemmas.List.Sums.{take_while-cons}
use Rattle.std.proofs.lemmas.Map.Keys.{sorted_tail}
use Rattle.std.proofs.lemmas.Map.Views.{All-after_first}
use Rattle.std.proofs.Math.Bool.{and-false}
use Rattle.pl_conflict.specs.declared.conflict.Conflict.{Conflict}
use Rattle.pl_conflict.specs.Codes.{code_number}
use Rattle.pl_conflict.specs.Order.{conflict_cmp}
use Rattle.pl_conflict.specs.Sorting.{AreInOrder}
use Rattle.pl_conflict.proofs.OrderLaws.{from_rises}
use Rattle.pl_semantics.specs.Grants.{touches_before}
use Rattle.pl_update.specs.GoalsAndActivities.Passed.{is_open_by, subject_of}
use Rattle.pl_update.specs.GoalsAndActivities.Committed.{early}

-- the subjects of those that are open by then
abbrev pub subjects : ℕ → List Conflict → List ℕ
subjects now ks = map subject_of (filter (is_open_by now) ks)

not_by : (now : ℕ) (k : Conflict) → now < k.from → is_open_by now k ≡ false
not_by now k later = rw (lt-leb k.from now later) (and-false (eqb (code_number k.code) 0))

none_later : (now : ℕ) (k : Conflict) (ks : List Conflict) → now < k.from → All (λ q. conflict_cmp k q ≡ Less) ks → subjects now ks ≡ []
none_later now k [] later rising = refl
none_later now k (q ∷ ks) later rising =
    let le : k.from ≤ q.from = from_rises k q (All-head (λ q. conflict_cmp k q ≡ Less) q ks rising) in
    rw (not_by now q (omega (arith, later, le))) (none_later now k ks later (All-tail (λ q. conflict_cmp k q ≡ Less) q ks rising))

-- where the first one is later, none is left
pub walk_over : (now : ℕ) (rest next : List Conflict) (k : Conflict) (was all : List ℕ) → rest ≡ k ∷ next → now < k.from → AreInOrder rest → was ++ subjects now rest ≡ all → was ≡ all
walk_over now rest next k was all is later ordered e =
    let in_order : AreInOrder (k ∷ next) = subst AreInOrder is ordered in
    let none : subjects now (k ∷ next) ≡ [] = rw (not_by now k later) (none_later now k next later (All-after_first conflict_cmp k next in_order)) in
    sym (append-nil was) ∙ ap (λ xs. was ++ xs) (sym (ap (subjects now) is ∙ none)) ∙ e

pub walk_end : (now : ℕ) (rest : List Conflict) (was all : List ℕ) → rest ≡ [] → was ++ subjects now rest ≡ all → was ≡ all
walk_end now rest was all is e = sym (append-nil was) ∙ ap (λ (ks : List Conflict). was ++ subjects now ks) (sym is) ∙ e

pub walk_on : (now : ℕ) (rest next : List Conflict) (k : Conflict) (was then all : List ℕ) → rest ≡ k ∷ next → then ≡ was ++ subjects now (k ∷ []) → was ++ subjects now rest ≡ all → then ++ subjects now next ≡ all
walk_on now rest next k was then all is grown e =
    ap (λ xs. xs ++ subjects now next) grown ∙ append_assoc was (subjects now (k ∷ [])) (subjects now next) ∙ ap (λ xs. was ++ xs) (both (is_open_by now k) refl) ∙ ap (λ (ks : List Conflict). was ++ subjects now ks) (sym is) ∙ e
  where
    both : (b : Bool) → is_open_by now k ≡ b → subjects now (k ∷ []) ++ subjects now next ≡ subjects now (k ∷ next)
    both true h = rw h refl
    both false h = rw h refl

pub still_ordered : (rest next : List Conflict) (k : Conflict) → rest ≡ k ∷ next → AreInOrder rest → AreInOrder next
still_ordered rest next k is ordered = sorted_tail conflict_cmp k next (subst AreInOrder is ordered)

-- ---- those that begin before a moment come first

none_early : (h : ℕ) (k : Conflict) (ks : List Conflict) → h ≤ k.from → All (λ q. conflict_cmp k q ≡ Less) ks → early h ks ≡ []
none_early h k [] late rising = refl
none_early h k (q ∷ ks) late rising =
    let le : k.from ≤ q.from = from_rises k q (All-head (λ q. conflict_cmp k q ≡ Less) q ks rising) in
    rw (le-ltb q.from h (omega (arith, late, le))) (none_early h k ks late (All-tail (λ q. conflict_cmp k q ≡ Less) q ks rising))

pub front_is_early : (h : ℕ) (ks : List Conflict) → AreInOrder ks → take_while (touches_before h) ks ≡ early h ks
front_is_early h [] ordered = refl
front_is_early h (k ∷ ks) ordered = cases (nat_lt k.from h) refl (front_is_early h ks (sorted_tail conflict_cmp k ks ordered))
  where
    front_of : (b : Bool) → nat_lt k.from h ≡ b → take_while (touches_before h) (k ∷ ks) ≡ cond b (k ∷ take_while (touches_before h) ks) []
    front_of b e = take_while-cons (touches_before h) k ks ∙ ap (λ (c : Bool). cond c (k ∷ take_while (touches_before h) ks) []) e

    cases : (b : Bool) → nat_lt k.from h ≡ b → take_while (touches_before h) ks ≡ early h ks → take_while (touches_before h) (k ∷ ks) ≡ early h (k ∷ ks)
    cases true e more = front_of true e ∙ rw e (ap (λ (l : List Conflict). k ∷ l) more)
    cases false e more = front_of false e ∙ rw e (sym (none_early h k ks (ltb-false k.from h e) (All-after_first conflict_cmp k ks ordered)))
