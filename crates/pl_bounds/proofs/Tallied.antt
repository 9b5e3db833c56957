-- A tally of one more moment, and what a tally says of spans.
use Rattle.std.proofs.Common.{◌≡◌, ℕ, suc, ◌+◌, ◌-◌, ◌<◌, ◌≤◌, Bool, false, List, [], ◌∷◌, ◌++◌, length, ap, subst, arith}
use Rattle.std.proofs.lemmas.List.{append_assoc, append-nil}
use Rattle.pl_points.specs.Spans.{spans_of}
use Rattle.pl_bounds.specs.Risings.{rise, risings, AreMoments}
use Rattle.pl_bounds.specs.Tallies.{IsTallyOf}
use Rattle.pl_bounds.specs.declared.tally.Tally.{Tally}
use Rattle.pl_bounds.proofs.Rising.{rises_few}

-- ---- moments

pub moments_upto : (a b c : ℕ) (ts : List ℕ) → AreMoments a b ts → b ≤ c → AreMoments a c ts
moments_upto a b c [] are le = tt
moments_upto a b c (t ∷ ts) are le = (are.0, (let high : t < b = are.1 in omega (arith, high, le)), moments_upto (suc t) b c ts are.2 le)

pub one_moment_more : (a b c t : ℕ) (ts : List ℕ) → AreMoments a b ts → a ≤ b → b ≤ t → t < c → AreMoments a c (ts ++ t ∷ [])
one_moment_more a b c t [] are ab bt tc = (omega (arith, ab, bt), tc, tt)
one_moment_more a b c t (x ∷ ts) are ab bt tc =
    let high : x < b = are.1 in
    (are.0, omega (arith, high, bt, tc), one_moment_more (suc x) b c t ts are.2 (omega (arith, high)) bt tc)

-- ---- tallies

pub one_more : (P : ℕ → Bool) (from end : ℕ) (t : Tally) (at n : ℕ) (holds : Bool) → P at ≡ holds → IsTallyOf P from end t → t.next ≤ at → at < t.end → n ≤ t.times + rise t.before holds
    → IsTallyOf P from end (record { times = n; before = holds; next = at + 1; end = t.end })
one_more P from end t at n holds is tally low high le = record {
  moments = tally.moments ++ at ∷ [];
  rising = one_moment_more from t.next (at + 1) at tally.moments tally.rising tally.begun low (omega arith);
  begun = omega (arith, tally.begun, low);
  within = (let e : t.end ≡ end = tally.upto in omega (arith, high, e));
  upto = tally.upto;
  few = few;
}
  where
    few : (more : List ℕ) → (n + risings P holds more) ≤ risings P false ((tally.moments ++ at ∷ []) ++ more)
    few more =
        let whole : (t.times + (rise t.before (P at) + risings P (P at) more)) ≤ risings P false (tally.moments ++ at ∷ more) = tally.few (at ∷ more) in
        let here : (t.times + (rise t.before holds + risings P holds more)) ≤ risings P false (tally.moments ++ at ∷ more) = subst (λ (b : Bool). (t.times + (rise t.before b + risings P b more)) ≤ risings P false (tally.moments ++ at ∷ more)) is whole in
        rw append_assoc (omega (arith, here, le))

-- ---- spans

pub times_few : (P : ℕ → Bool) (from end : ℕ) (t : Tally) → IsTallyOf P from end t → t.times ≤ length (spans_of P from (end - from))
times_few P from end t tally =
    let counted : (t.times + 0) ≤ risings P false (tally.moments ++ []) = tally.few [] in
    let same : risings P false (tally.moments ++ []) ≡ risings P false tally.moments = ap (risings P false) (append-nil tally.moments) in
    let le : from ≤ end = omega (arith, tally.begun, tally.within) in
    let spans = rises_few P from end tally.moments le (moments_upto from t.next end tally.moments tally.rising tally.within) in
    omega (arith, counted, same, spans)
