-- The rule as the lock is made, and what it says as the lock is taken apart.
use Rattle.std.proofs.Common.{◌≡◌, ◌≢◌, ℕ, zero, suc, ◌+◌, ◌≤◌, true, false, Bool, cond, List, [], ◌∷◌, length, Option, Some, None, refl, sym, ap, ◌∙◌, subst, arith}
use Rattle.std.specs.List.{sum_by}
use Rattle.std.proofs.lemmas.Option.{same_Some}
use mathlib.Core.Option.{some, some-injective, some-ne-none}
use mathlib.Core.List.{IsPrefix}
use mathlib.Core.Logic.{dite}
use native.Mathlib.Decide.{ℕ_discrete}
use lib.ListN.{get_elem?}
use Rattle.atomic_table.specs.Table.{State, opening, Final, Seen}
use Rattle.pl_turn.specs.declared.known.Known.{Known}
use Rattle.pl_turn.specs.History.{IsEachOnce}
use Rattle.pl_turn.specs.Rule.{Kept, Fits, owns, spends, gone, starting, IsViewOf, NobodyIsServed}
use Rattle.pl_turn.proofs.Sums.{sum_only, sum_full}
use Rattle.pl_turn.proofs.Once.{once_same}
use Rattle.pl_turn.proofs.Histories.{prefix_self, prefix_none}

spends_most : {I : Type 0} (k : Known I) → spends k ≤ 1
spends_most k = elim k.spent as (λ b. cond b 1 0 ≤ 1) [ true ↦ omega arith | false ↦ omega arith ]

pub spends_true : (b : Bool) → ◌≡◌ {A = ℕ} (cond b 1 0) 1 → b ≡ true
spends_true true e = refl
spends_true false e = absurd (omega arith)

module _ {V I : Type 0} (entries : V → List I) where
  first_fits : (x : V) (j : ℕ) (k : Known I) → IsViewOf (starting (entries x) ∷ []) j k → Fits (entries x) (length (entries x)) 0 0 0 j k
  first_fits x zero k e =
      let P : Known I → Type 0 = Fits (entries x) (length (entries x)) 0 0 0 0 in
      subst P (some-injective (starting (entries x)) k e) record {
        seen = prefix_self (entries x);
        heard = prefix_none (entries x);
        counted = omega arith;
        served = λ h. absurd (cc h);
        leads = λ h. (refl, refl, refl, refl);
        follows = λ h. absurd (cc h);
        spent = λ h. absurd (cc h);
      }
  first_fits x (suc j) k e = absurd (some-ne-none k (sym e))

  pub opens : (x : V) (n : ℕ) → n ≡ length (entries x) → Kept entries (opening (n ∷ 0 ∷ 0 ∷ []) (Some x ∷ []) (starting (entries x)))
  opens x n is = record {
    log = entries x;
    opening = length (entries x);
    drawn = 0;
    called = 0;
    made = 0;
    joined = 0;
    opened = omega arith;
    words = ap (λ (m : ℕ). m ∷ 0 ∷ 0 ∷ []) is;
    waiting = refl;
    each_ticket = record { inside = λ t from to. absurd (omega arith); below = λ t to. absurd (omega arith); above = λ t from. refl };
    home = λ nobody. (x, refl, refl);
    each_place = record { inside = λ p from to. absurd (omega arith); below = λ p to. refl; above = λ p from. refl };
    each_view = first_fits x;
    passes = (refl, omega arith, refl);
  }

  module _ (s : State (Option V) (Known I)) (kept : Kept entries s) (id : ℕ) (v : Known I) (at : IsViewOf s.views id v)
      (leads : v.crew.leads ≡ true) (all : v.crew.made ≡ length v.crew.joined) (out : v.served ≡ false) (unspent : v.spent ≡ false) where
    -- every other pass was joined
    others_gone : (j : ℕ) (k : Known I) → j ≢ id → IsViewOf s.views j k → k ≡ gone
    others_gone j k ne there =
        let crew = (kept.each_view id v at).leads leads in
        let none : spends v ≡ 0 = ap (λ (b : Bool). cond b 1 0) unspent in
        let full : sum_by spends s.views + 1 ≡ length s.views = omega (arith, kept.passes.0, kept.passes.2, crew.2, crew.3) in
        (kept.each_view j k there).spent (spends_true k.spent (sum_full spends s.views id j v k spends_most at none full ne there))

    nobody : NobodyIsServed s.views
    nobody j k there = dite (ℕ_discrete j id)
        (λ (same : j ≡ id).
        let there' : IsViewOf s.views id k = subst (λ (i : ℕ). IsViewOf s.views i k) same there in
        subst (λ (u : Known I). u.served ≡ false) (some-injective v k (sym at ∙ there')) out)
        (λ (ne : j ≢ id). ap (λ (u : Known I). u.served) (others_gone j k ne there))

    only_owner : (p : ℕ) → sum_by (owns p) s.views ≡ owns p v
    only_owner p = sum_only (owns p) s.views id v at (λ i w ne there. ap (owns p) (others_gone i w ne there))

  -- what the first pass knows of the value that comes out
  pub record Closes (v : Known I) (x : V) : Type 0 where
    pub history : IsPrefix v.seen (entries x)
    pub counted : v.counted ≤ length (entries x)
    pub owners : IsEachOnce v.crew.opening (length (entries x)) (λ p. owns p v)

  pub closes : (id : ℕ) (v : Known I) (words : List ℕ) (slots : List (Option V)) (o : Option V) → Final (Seen (Kept entries) id v) words slots → get_elem? slots 0 ≡ some o
      → v.crew.leads ≡ true → v.crew.made ≡ length v.crew.joined → v.served ≡ false → v.spent ≡ false → (x : V) × (o ≡ Some x) × Closes v x
  closes id v words slots o final found leads all out unspent =
      let s = final.0 in
      let kept = final.1.0 in
      let at = final.1.1 in
      let fit = kept.each_view id v at in
      let home = kept.home (nobody s kept id v at leads all out unspent) in
      let x : V = home.0 in
      let whole : kept.log ≡ entries x = sym home.2 in
      let is : o ≡ Some x = some-injective o (Some x) (sym found ∙ final.4 0 (Some x) home.1) in
      let opened : kept.opening ≡ v.crew.opening = sym (fit.leads leads).1 in
      let P : List I → Type 0 = λ log. IsPrefix v.seen log in
      let Q : List I → Type 0 = λ log. v.counted ≤ length log in
      let O : ℕ × List I → Type 0 = λ t. IsEachOnce t.0 (length t.1) (λ p. owns p v) in (
        x,
        is,
        record {
          history = subst P whole fit.seen;
          counted = subst Q whole fit.counted;
          owners = subst O (λ i. (opened i, whole i)) (once_same kept.opening (length kept.log) (λ p. sum_by (owns p) s.views) (λ p. owns p v) kept.each_place (λ p. sym (only_owner s kept id v at leads all out unspent p)));
        },
      )

  -- the same of a slot and a view that are known to be equal to those
  pub opens_with : (x y : V) (n : ℕ) (slots : List (Option V)) → y ≡ x → slots ≡ Some x ∷ [] → n ≡ length (entries x) → Kept entries (opening (n ∷ 0 ∷ 0 ∷ []) slots (starting (entries y)))
  opens_with x y n slots same full is =
      let P : List (Option V) × V → Type 0 = λ t. Kept entries (opening (n ∷ 0 ∷ 0 ∷ []) t.0 (starting (entries t.1))) in
      subst P (λ i. (sym full i, sym same i)) (opens x n is)

  module _ (id : ℕ) (v was : Known I) (words : List ℕ) (slots : List (Option V)) (o : Option V) (same : was ≡ v) (final : Final (Seen (Kept entries) id was) words slots) (found : get_elem? slots 0 ≡ some o)
      (leads : v.crew.leads ≡ true) (all : v.crew.made ≡ length v.crew.joined) (out : v.served ≡ false) (unspent : v.spent ≡ false) where
    closing : (x : V) × (o ≡ Some x) × Closes v x
    closing =
        let P : Known I → Type 0 = λ u. Final (Seen (Kept entries) id u) words slots in
        closes id v words slots o (subst P same final) found leads all out unspent

    pub closes_some : o ≡ None → ⊥
    closes_some none = let e = sym closing.1 ∙ none in absurd (cc e)

    pub closes_as : (y : V) → o ≡ Some y → Closes v y
    closes_as y is =
        let e : closing.0 ≡ y = same_Some closing.0 y (sym closing.1 ∙ is) in
        subst (λ (z : V). Closes v z) e closing.2
