-- Parts of the conflicts, each told by its own codes, and mended by its own subjects.
use Rattle.std.proofs.Common.{◌≡◌, ℕ, eqb, Bool, true, false, List, [], ◌∷◌, ◌++◌, refl, sym, ap, ◌∙◌}
use Rattle.std.specs.Prelude.{◌||◌, ◌&&◌, not}
use Rattle.std.specs.List.{flat_map}
use Rattle.std.proofs.lemmas.Bool.{eqb-true, eqb-false}
use Rattle.std.proofs.Math.Bool.{or-true}
use Rattle.pl_lists.proofs.Tests.{and_second}
use Rattle.pl_conflict.specs.declared.conflict.Conflict.{Conflict}
use Rattle.pl_conflict.specs.Order.{has}
use Rattle.pl_conflict.proofs.Sorting.{has-append}
use Rattle.pl_semantics.specs.PlanStates.{among}

-- ---- tests

apart_from : (a b : Bool) → (a ≡ true → b ≡ true → ⊥) → (a && b) ≡ false
apart_from true true apart = absurd (apart refl refl)
apart_from true false apart = refl
apart_from false b apart = refl

-- two pairs of what stood and what went, which do not meet
both_mend : (o p w v c d : Bool) → (o && v) ≡ false → (p && w) ≡ false → (((o && not w) || c) || ((p && not v) || d)) ≡ (((o || p) && not (w || v)) || (c || d))
both_mend false false w v c d e f = refl
both_mend true true w v c d e f = rw (e, f) refl
both_mend true false true v c d e f = refl
both_mend true false false v c d e f = rw e refl
both_mend false true w true c d e f = rw f refl
both_mend false true w false c d e f = rw f (or-true c)

-- where a is true what stood goes and what is new comes, else nothing changes
near_mended : (a o n : Bool) → (a ≡ false → n ≡ o) → n ≡ ((o && not (a && o)) || (a && n))
near_mended true true n kept = refl
near_mended true false n kept = refl
near_mended false true n kept = kept refl
near_mended false false n kept = kept refl

either : (m n a b : Bool) → (a ≡ true → m ≡ true) → (b ≡ true → n ≡ true) → (a || b) ≡ true → (m || n) ≡ true
either true n a b f g h = refl
either false n true b f g h = absurd (let bad : false ≡ true = f refl in cc)
either false n false b f g h = g h

-- ---- a part: its conflicts pass a test, and those of one subject are what a rule gives for that subject

pub record IsPart (mine : Conflict → Bool) (at : ℕ → List Conflict) (all : List Conflict) : Type 0 where
  pub owned : (n : ℕ) (k : Conflict) → has k (at n) ≡ true → (k.subject ≡ n) × (mine k ≡ true)
  pub whole : (k : Conflict) → has k all ≡ has k (at k.subject)

-- ---- a change of a part

pub record Mends (mine : Conflict → Bool) (old new went came : List Conflict) : Type 0 where
  pub of_old : (k : Conflict) → has k old ≡ true → mine k ≡ true
  pub of_went : (k : Conflict) → has k went ≡ true → mine k ≡ true
  pub mends : (k : Conflict) → has k new ≡ ((has k old && not (has k went)) || has k came)

-- what rules that keep to their subjects give for these subjects
pub has-near : (at : ℕ → List Conflict) → ((n : ℕ) (k : Conflict) → has k (at n) ≡ true → k.subject ≡ n) → (ids : List ℕ) (k : Conflict) → has k (flat_map at ids) ≡ (among k.subject ids && has k (at k.subject))
has-near at owned [] k = refl
has-near at owned (i ∷ ids) k = has-append (at i) (flat_map at ids) k ∙ ap (λ b. has k (at i) || b) (has-near at owned ids k) ∙ cases (eqb i k.subject) refl
  where
    both : (a b : Bool) → (b || (a && b)) ≡ (true && b)
    both true true = refl
    both true false = refl
    both false true = refl
    both false false = refl

    other : (b : Bool) → has k (at i) ≡ b → eqb i k.subject ≡ false → (b || (among k.subject ids && has k (at k.subject))) ≡ (among k.subject ids && has k (at k.subject))
    other true here e = let is : k.subject ≡ i = owned i k here in absurd (eqb-false i k.subject e (sym is))
    other false here e = refl

    cases : (b : Bool) → eqb i k.subject ≡ b → (has k (at i) || (among k.subject ids && has k (at k.subject))) ≡ ((eqb i k.subject || among k.subject ids) && has k (at k.subject))
    cases true e = rw (e, eqb-true i k.subject e) (both (among k.subject ids) (has k (at k.subject)))
    cases false e = rw e (other (has k (at i)) refl e)

-- a part changes at these subjects alone
pub near_mends : (mine : Conflict → Bool) (at was : ℕ → List Conflict) (old new : List Conflict) (ids : List ℕ) → IsPart mine was old → IsPart mine at new → ((n : ℕ) → among n ids ≡ false → at n ≡ was n) → Mends mine old new (flat_map was ids) (flat_map at ids)
near_mends mine at was old new ids before after kept = record {
  of_old = λ k h. (before.owned k.subject k (sym (before.whole k) ∙ h)).1;
  of_went = λ k h. (before.owned k.subject k (and_second (among k.subject ids) (has k (was k.subject)) (sym (went k) ∙ h))).1;
  mends = λ k. rw (after.whole k, before.whole k, went k, came k) (near_mended (among k.subject ids) (has k (was k.subject)) (has k (at k.subject)) (λ e. ap (λ (ks : List Conflict). has k ks) (kept k.subject e)));
}
  where
    went : (k : Conflict) → has k (flat_map was ids) ≡ (among k.subject ids && has k (was k.subject))
    went k = has-near was (λ n k h. (before.owned n k h).0) ids k

    came : (k : Conflict) → has k (flat_map at ids) ≡ (among k.subject ids && has k (at k.subject))
    came k = has-near at (λ n k h. (after.owned n k h).0) ids k

pub mends_both : (m n : Conflict → Bool) → ((k : Conflict) → m k ≡ true → n k ≡ true → ⊥) → (o1 n1 w1 c1 o2 n2 w2 c2 : List Conflict) → Mends m o1 n1 w1 c1 → Mends n o2 n2 w2 c2 → Mends (λ k. m k || n k) (o1 ++ o2) (n1 ++ n2) (w1 ++ w2) (c1 ++ c2)
mends_both m n apart o1 n1 w1 c1 o2 n2 w2 c2 one two = record {
  of_old = λ k h. either (m k) (n k) (has k o1) (has k o2) (one.of_old k) (two.of_old k) (sym (has-append o1 o2 k) ∙ h);
  of_went = λ k h. either (m k) (n k) (has k w1) (has k w2) (one.of_went k) (two.of_went k) (sym (has-append w1 w2 k) ∙ h);
  mends = λ k. rw (has-append n1 n2 k, has-append o1 o2 k, has-append w1 w2 k, has-append c1 c2 k, one.mends k, two.mends k)
      (both_mend (has k o1) (has k o2) (has k w1) (has k w2) (has k c1) (has k c2) (apart_from (has k o1) (has k w2) (λ h g. apart k (one.of_old k h) (two.of_went k g))) (apart_from (has k o2) (has k w1) (λ h g. apart k (one.of_went k g) (two.of_old k h))));
}
