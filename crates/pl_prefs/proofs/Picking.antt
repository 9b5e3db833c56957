-- When one of some moves is the first of the best of those that pass a test.
use Rattle.std.proofs.Common.{◌≡◌, ℕ, zero, suc, ◌<◌, Bool, true, false, cond, List, [], ◌∷◌, length, get_or, filter, refl, ap, arith, ℤ, ◌≤ℤ◌}
use Rattle.std.specs.Prelude.{All, ◌<ℤ◌}
use Rattle.std.proofs.lemmas.List.Elements.{All-nil, All-cons, All-head, All-tail}
use Rattle.pl_plan.specs.declared.repair.RepairMove.{RepairMove}
use Rattle.pl_prefs.specs.Betters.{IsFirstBest}

-- each that passes, wherever it stands
abbrev pub EachPassing : (RepairMove → Bool) → (RepairMove → Type 0) → List RepairMove → Type 0
EachPassing test P ms = (j : ℕ) (d : RepairMove) → j < length ms → test (get_or ms j d) ≡ true → P (get_or ms j d)

all_passing : (test : RepairMove → Bool) (P : RepairMove → Type 0) (ms : List RepairMove) → EachPassing test P ms → All P (filter test ms)
all_passing test P [] each = All-nil P
all_passing test P (m ∷ ms) each = by (test m) refl (all_passing test P ms (λ j d lt. each (suc j) d (omega (arith, lt))))
  where
    by : (b : Bool) → test m ≡ b → All P (filter test ms) → All P (cond b (m ∷ filter test ms) (filter test ms))
    by true e rest = All-cons P m (filter test ms) (each 0 m (omega arith) e) rest
    by false e rest = rest

pub none_pass : (test : RepairMove → Bool) (ms : List RepairMove) → All (λ m. test m ≡ false) ms → filter test ms ≡ []
none_pass test [] all = refl
none_pass test (m ∷ ms) all = rw (All-head (λ n. test n ≡ false) m ms all) (none_pass test ms (All-tail (λ n. test n ≡ false) m ms all))

-- It passes, each one before it that passes is worth less, and each one behind it no more.
pub first_best : (worth : RepairMove → ℤ) (test : RepairMove → Bool) (ms : List RepairMove) (i : ℕ) (d : RepairMove) → i < length ms → test (get_or ms i d) ≡ true → ((j : ℕ) → j < i → test (get_or ms j d) ≡ true → worth (get_or ms j d) <ℤ worth (get_or ms i d)) → ((j : ℕ) (e : RepairMove) → i < j → j < length ms → test (get_or ms j e) ≡ true → worth (get_or ms j e) ≤ℤ worth (get_or ms i d)) → IsFirstBest worth (filter test ms) (get_or ms i d)
first_best worth test [] i d lt passes less no_more = absurd (omega (arith, lt))
first_best worth test (m ∷ ms) zero d lt passes less no_more = record {
  before = [];
  behind = filter test ms;
  split = ap (λ b. cond b (m ∷ filter test ms) (filter test ms)) passes;
  less = All-nil (λ n. worth n <ℤ worth m);
  no_more = all_passing test (λ n. worth n ≤ℤ worth m) ms (λ j e within. no_more (suc j) e (omega arith) (omega (arith, within)));
}
first_best worth test (m ∷ ms) (suc i) d lt passes less no_more =
    by (test m) refl (first_best worth test ms i d (omega (arith, lt)) passes (λ j before. less (suc j) (omega (arith, before))) (λ j e past within. no_more (suc j) e (omega (arith, past)) (omega (arith, within))))
  where
    best : RepairMove
    best = get_or ms i d

    by : (b : Bool) → test m ≡ b → IsFirstBest worth (filter test ms) best → IsFirstBest worth (cond b (m ∷ filter test ms) (filter test ms)) best
    by true e r = record {
      before = m ∷ r.before;
      behind = r.behind;
      split = ap (λ (xs : List RepairMove). m ∷ xs) r.split;
      less = All-cons (λ n. worth n <ℤ worth best) m r.before (less 0 (omega arith) e) r.less;
      no_more = r.no_more;
    }
    by false e r = r
