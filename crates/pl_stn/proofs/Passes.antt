-- A pass over the edges, and the times before the first one.
use Rattle.std.proofs.Common.{◌≡◌, ◌≢◌, ⊎_elim, ℕ, suc, zero, ◌+◌, ◌<◌, ℤ, pos, ◌-ℤ◌, ◌≤ℤ◌, Bool, true, false, List, [], ◌∷◌, length, replicate, Option, Some, None, refl, sym, subst, arith}
use Rattle.std.specs.Prelude.{All}
use Rattle.std.proofs.lemmas.Int.{ints}
use Rattle.std.proofs.lemmas.Bool.{cases_eq, cases_Bool}
use Rattle.std.proofs.lemmas.List.{get_or_default, length-replicate}
use Rattle.pl_stn.specs.declared.net.Net.{Net}
use Rattle.pl_stn.specs.Nets.{IsWellFormed, IsLeast, Meets, edge_of, time_of}
use Rattle.pl_stn.specs.Causes.{AreRising, AreFirstCauses, Follows, cause_of, room_of}

-- the edges below n are tightened, from the times and causes at the pass's start
pub record HaveTightened (net : Net) (times0 : List ℤ) (causes0 : List (Option ℕ)) (times : List ℤ) (causes : List (Option ℕ)) (raised : Bool) (n : ℕ) : Type 0 where
  pub rising : AreRising net times causes
  pub more : raised ≡ true → room_of net times < room_of net times0
  pub still_times : raised ≡ false → times ≡ times0
  pub still_causes : raised ≡ false → causes ≡ causes0
  pub still_met : raised ≡ false → (k : ℕ) → k < n → Meets times0 (edge_of net k)

module _ (net : Net) (times0 : List ℤ) (causes0 : List (Option ℕ)) (times : List ℤ) (causes : List (Option ℕ)) (raised : Bool) (n : ℕ) (h : HaveTightened net times0 causes0 times causes raised n) where
  pub tightened_met : (times' : List ℤ) (causes' : List (Option ℕ)) → times' ≡ times → causes' ≡ causes → Meets times (edge_of net n) → HaveTightened net times0 causes0 times' causes' raised (n + 1)
  tightened_met times' causes' t c m = rw (t, c) (record {
    rising = h.rising;
    more = h.more;
    still_times = h.still_times;
    still_causes = h.still_causes;
    still_met = λ r k lt.
        ⊎_elim (λ (one : k ≡ n). subst (λ x. Meets times0 (edge_of net x)) (sym one) (subst (λ x. Meets x (edge_of net n)) (h.still_times r) m))
        (λ (old : k ≢ n). h.still_met r k (omega arith))
        (cases_eq k n);
  })

  pub tightened_raised : (times' : List ℤ) (causes' : List (Option ℕ)) → AreRising net times' causes' → room_of net times' < room_of net times → HaveTightened net times0 causes0 times' causes' true (n + 1)
  tightened_raised times' causes' r less = record {
    rising = r;
    more = λ _.
        ⊎_elim (λ (was : raised ≡ true). omega (arith, h.more was))
        (λ (was : raised ≡ false). subst (λ x. room_of net times' < room_of net x) (h.still_times was) less)
        (cases_Bool raised);
    still_times = λ e. cc;
    still_causes = λ e. cc;
    still_met = λ e k lt. cc;
  }

pub all_met : (net : Net) (times : List ℤ) → ((k : ℕ) → k < length net.edges → Meets times (edge_of net k)) → All (Meets times) net.edges
all_met net times m k d h = rw (get_or_default net.edges k d (record { from = 0; to = 0; most = pos 0 }) h) (m k h)

zero_time : (n p : ℕ) → time_of (replicate n (pos 0)) p ≡ pos 0
zero_time (suc n) (suc p) = zero_time n p
zero_time _ _ = refl

none_from_not_some : (o : Option ℕ) → ((k : ℕ) → o ≡ Some k → ⊥) → o ≡ None
none_from_not_some None h = refl
none_from_not_some (Some k) h = absurd (h k refl)

module _ (net : Net) (is_net : IsWellFormed net) (causes : List (Option ℕ)) (f : AreFirstCauses net causes) where
  no_cause : (k : ℕ) → cause_of causes 0 ≡ Some k → ⊥
  no_cause k e = let c = f.first 0 k e in omega (arith, c.after.0, c.starts.start)

  no_walk : (p : ℕ) (ks : List ℕ) → 0 < length ks → Follows net causes p ks p → ⊥
  no_walk p [] some w = omega arith
  no_walk p (k ∷ []) some w =
      let c = f.first p k w.0 in omega (arith, c.after.0, c.starts.start, c.after.1, w.1)
  no_walk p (k ∷ j ∷ ks) some w =
      let c = f.first p k w.0 in no_cause j (subst (λ x. cause_of causes x ≡ Some j) c.after.1 w.1.0)

  zero_early : IsLeast net (replicate net.points (pos 0))
  zero_early others s p h =
      let zero : time_of (replicate net.points (pos 0)) p ≡ pos 0 = zero_time net.points p in
      ⊎_elim
      (λ (same : p ≡ 0). let at = s.origin in subst (λ x. time_of (replicate net.points (pos 0)) x ≤ℤ time_of others x) (sym same) (omega (arith, ints, at, zero_time net.points 0)))
      (λ (other : p ≢ 0).
      let held = is_net.after_origin p (omega arith) h in
      let met = s.meets held.0 (record { from = p; to = 0; most = pos 0 }) held.1 in
      let bound : (time_of others 0 -ℤ time_of others p) ≤ℤ pos 0 = rw held.2 at met in
      omega (arith, ints, bound, zero, s.origin))
      (cases_eq p 0)

  pub rising_first : AreRising net (replicate net.points (pos 0)) causes
  rising_first = record {
    each_point = length-replicate net.points (pos 0);
    caused = record { each_point = f.each_point; starts = λ p k e. (f.first p k e).starts };
    asked = λ p k e.
        omega (arith, ints, (f.first p k e).after.2, zero_time net.points p, zero_time net.points (edge_of net k).to);
    cycles = λ p ks some w. absurd (no_walk p ks some w);
    rooted = f.rooted;
    uncaused = none_from_not_some (cause_of causes 0) no_cause;
    origin = zero_time net.points 0;
    bounded = λ p. (omega (arith, ints, zero_time net.points p), omega (arith, ints, zero_time net.points p));
    early = zero_early;
  }
