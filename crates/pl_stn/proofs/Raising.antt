-- What a raise of one time leaves: times that rise still, or a negative cycle.
use Rattle.std.proofs.Common.{◌≡◌, ◌≢◌, ⊎_elim, inl, inr, ◌⊎◌, ℕ, suc, zero, ◌-◌, ◌*◌, ◌<◌, ℤ, pos, negsuc, ◌+ℤ◌, ◌-ℤ◌, ◌≤ℤ◌, ◌<ℤ◌, List, [], ◌∷◌, length, get_or, set, Option, Some, None, sym, ◌∙◌, subst, arith, false}
use lib.Signed.{le_z}
use Rattle.std.specs.Int.RustNames.{unsigned_abs}
use Rattle.std.proofs.lemmas.Int.{ints}
use Rattle.std.proofs.lemmas.List.{get_or-set_same, get_or-set_other, length-set}
use Rattle.std.proofs.lemmas.List.Sums.{sum_by-set}
use Rattle.std.proofs.lemmas.Bool.{cases_eq}
use Rattle.pl_stn.specs.declared.net.Net.{Net}
use Rattle.pl_stn.specs.Nets.{IsWellFormed, IsNegativeCycle, IsLeast, Leads, edge_of, most_of, time_of}
use Rattle.pl_stn.specs.Causes.{AreCauses, AreRising, StartsAt, Follows, IsLoop, EndsFrom, cause_of, room_of}

-- each time is at least what its cause asks
abbrev AreAsked : Net → List ℤ → List (Option ℕ) → Type 0
AreAsked net times causes = (p k : ℕ) → cause_of causes p ≡ Some k → time_of times p ≤ℤ (time_of times (edge_of net k).to -ℤ (edge_of net k).most)

-- along causes the times differ by no less than the edges ask
follows_asked : (net : Net) (times : List ℤ) (causes : List (Option ℕ)) → AreAsked net times causes → (p : ℕ) (ks : List ℕ) (q : ℕ) → Follows net causes p ks q → (time_of times p +ℤ most_of net ks) ≤ℤ time_of times q
follows_asked net times causes a p [] q f = subst (λ x. (time_of times p +ℤ pos 0) ≤ℤ time_of times x) f (omega (arith, ints))
follows_asked net times causes a p (k ∷ ks) q f =
    omega (arith, ints, a p k f.0, follows_asked net times causes a (edge_of net k).to ks q f.1)

-- a walk of n edges gives no more than n times the greatest number
most_of_least : (net : Net) → IsWellFormed net → (causes : List (Option ℕ)) → AreCauses net causes → (p : ℕ) (ks : List ℕ) (q : ℕ) → Follows net causes p ks q → pos 0 ≤ℤ (most_of net ks +ℤ pos (length ks * 100000000))
most_of_least net n causes a p [] q f = omega (arith, ints)
most_of_least net n causes a p (k ∷ ks) q f =
    let small = n.small k (record { from = 0; to = 0; most = pos 0 }) (a.starts p k f.0).edge in
    omega (arith, ints, small.0, most_of_least net n causes a (edge_of net k).to ks q f.1)

-- a walk along causes is a walk of the net, along edges of the net
leads_from_follows : (net : Net) (causes : List (Option ℕ)) → AreCauses net causes → (p : ℕ) (ks : List ℕ) (q : ℕ) → Follows net causes p ks q → Leads net p ks q
leads_from_follows net causes a p [] q f = f
leads_from_follows net causes a p (k ∷ ks) q f = ((a.starts p k f.0).start, leads_from_follows net causes a (edge_of net k).to ks q f.1)

edges_from_follows : (net : Net) (causes : List (Option ℕ)) → AreCauses net causes → (p : ℕ) (ks : List ℕ) (q : ℕ) → Follows net causes p ks q → (i d : ℕ) → i < length ks → get_or ks i d < length net.edges
edges_from_follows net causes a p [] q f i d h = absurd (omega arith)
edges_from_follows net causes a p (k ∷ ks) q f zero d h = (a.starts p k f.0).edge
edges_from_follows net causes a p (k ∷ ks) q f (suc i) d h = edges_from_follows net causes a (edge_of net k).to ks q f.1 i d (omega arith)

pub above_from_test : (a b : ℤ) → le_z a b ≡ false → b <ℤ a
above_from_test a b h = grind (arith, ints)

-- the room of a time that rises
abs_less : (m : ℕ) (a b : ℤ) → pos 0 ≤ℤ a → a <ℤ b → b ≤ℤ pos m → m - unsigned_abs b < m - unsigned_abs a
abs_less m (pos a) (pos b) z h k = omega (arith, ints, h, k)
abs_less m (pos a) (negsuc b) z h k = absurd (omega (arith, ints, h))
abs_less m (negsuc a) b z h k = absurd (omega (arith, ints, z))

-- the edge n asks more of its start than its time
module _ (net : Net) (is_net : IsWellFormed net) (times : List ℤ) (causes : List (Option ℕ)) (r : AreRising net times causes) (n : ℕ) (in_range : n < length net.edges)
    (short : time_of times (edge_of net n).from <ℤ (time_of times (edge_of net n).to -ℤ (edge_of net n).most)) where
  abbrev start : ℕ
  start = (edge_of net n).from

  abbrev times' : List ℤ
  times' = set times start (time_of times (edge_of net n).to -ℤ (edge_of net n).most)

  abbrev causes' : List (Option ℕ)
  causes' = set causes start (Some n)

  start_in : start < net.points
  start_in = (is_net.joins n (record { from = 0; to = 0; most = pos 0 }) in_range).0

  cause_same : cause_of causes' start ≡ Some n
  cause_same = let h : start < length causes = subst (λ x. start < x) (sym r.caused.each_point) start_in in get_or-set_same causes start (Some n) None h

  time_same : time_of times' start ≡ time_of times (edge_of net n).to -ℤ (edge_of net n).most
  time_same = let h : start < length times = subst (λ x. start < x) (sym r.each_point) start_in in get_or-set_same times start _ (pos 0) h

  -- the causes are as before, but that of the start
  cause_cases : (p k : ℕ) → cause_of causes' p ≡ Some k → ((p ≡ start) × (n ≡ k)) ⊎ ((p ≢ start) × (cause_of causes p ≡ Some k))
  cause_cases p k e =
      ⊎_elim (λ same. inl (same, (let now = cause_same in cc)))
      (λ other. inr (other, rw (get_or-set_other causes start p (Some n) None other) at e))
      (cases_eq p start)

  times_rise : (p : ℕ) → time_of times p ≤ℤ time_of times' p
  times_rise p =
      ⊎_elim (λ (same : p ≡ start). subst (λ x. time_of times x ≤ℤ time_of times' x) (sym same) (rw time_same (omega (arith, ints, short))))
      (λ (other : p ≢ start). rw (get_or-set_other times start p (time_of times (edge_of net n).to -ℤ (edge_of net n).most) (pos 0) other) (omega (arith, ints)))
      (cases_eq p start)

  pub caused_still : AreCauses net causes'
  caused_still = record {
    each_point = rw length-set r.caused.each_point;
    starts = λ p k e.
        ⊎_elim (λ w. subst (λ x. StartsAt net p x) w.1 (record { edge = in_range; start = sym w.0 }))
        (λ w. r.caused.starts p k w.1)
        (cause_cases p k e);
  }

  asked_still : AreAsked net times' causes'
  asked_still p k e =
      ⊎_elim
      (λ w. subst (λ x. time_of times' p ≤ℤ (time_of times' (edge_of net x).to -ℤ (edge_of net x).most)) w.1
      (subst (λ x. time_of times' x ≤ℤ (time_of times' (edge_of net n).to -ℤ (edge_of net n).most)) (sym w.0)
      (omega (arith, ints, time_same, times_rise (edge_of net n).to))))
      (λ w. omega (arith, ints, get_or-set_other times start p (time_of times (edge_of net n).to -ℤ (edge_of net n).most) (pos 0) w.0, r.asked p k w.1, times_rise (edge_of net k).to))
      (cause_cases p k e)

  -- a walk along the new causes is one along the old ones, or it asks more than the old times give
  follows_short : (p : ℕ) (ks : List ℕ) (q : ℕ) → Follows net causes' p ks q → Follows net causes p ks q ⊎ ((time_of times p +ℤ most_of net ks) <ℤ time_of times q)
  follows_short p [] q f = inl f
  follows_short p (k ∷ ks) q f =
      ⊎_elim
      (λ w.
      let more : time_of times p <ℤ (time_of times (edge_of net k).to -ℤ (edge_of net k).most) =
      subst (λ x. time_of times x <ℤ (time_of times (edge_of net k).to -ℤ (edge_of net k).most)) (sym w.0)
      (subst (λ x. time_of times start <ℤ (time_of times (edge_of net x).to -ℤ (edge_of net x).most)) w.1 short) in
      inr (⊎_elim (λ old. omega (arith, ints, more, follows_asked net times causes r.asked (edge_of net k).to ks q old))
      (λ asks. omega (arith, ints, more, asks))
      (follows_short (edge_of net k).to ks q f.1)))
      (λ w.
      ⊎_elim (λ old. inl (w.1, old))
      (λ asks. inr (omega (arith, ints, asks, r.asked p k w.1)))
      (follows_short (edge_of net k).to ks q f.1))
      (cause_cases p k f.0)

  cycles_still : (p : ℕ) (ks : List ℕ) → 0 < length ks → Follows net causes' p ks p → most_of net ks <ℤ pos 0
  cycles_still p ks some f = ⊎_elim (λ old. r.cycles p ks some old) (λ asks. omega (arith, ints, asks)) (follows_short p ks p f)

  pub cycle_closed : (ks : List ℕ) → IsLoop net causes' ks → IsNegativeCycle net ks
  cycle_closed ks loop = record {
    some = loop.some;
    edges = λ i d h. edges_from_follows net causes' caused_still loop.closed.0 ks loop.closed.0 loop.closed.1 i d h;
    closed = (loop.closed.0, leads_from_follows net causes' caused_still loop.closed.0 ks loop.closed.0 loop.closed.1);
    simple = loop.simple;
    negative = cycles_still loop.closed.0 ks loop.some loop.closed.1;
  }

  rooted_still : (p : ℕ) → p < net.points → cause_of causes' p ≡ None → p ≡ 0
  rooted_still p h e =
      ⊎_elim (λ (same : p ≡ start). let now = cause_same in absurd (cc))
      (λ (other : p ≢ start). r.rooted p h (rw (get_or-set_other causes start p (Some n) None other) at e))
      (cases_eq p start)

  early_still : IsLeast net times'
  early_still others s p h =
      ⊎_elim
      (λ (same : p ≡ start). subst (λ x. time_of times' x ≤ℤ time_of others x) (sym same)
      (omega (
        arith,
        ints,
        time_same,
        s.meets n (record { from = 0; to = 0; most = pos 0 }) in_range,
        r.early others s (edge_of net n).to (is_net.joins n (record { from = 0; to = 0; most = pos 0 }) in_range).1,
      )))
      (λ (other : p ≢ start). rw (get_or-set_other times start p (time_of times (edge_of net n).to -ℤ (edge_of net n).most) (pos 0) other) (r.early others s p h))
      (cases_eq p start)

  pub rising_still : EndsFrom net causes' start → AreRising net times' causes'
  rising_still ends =
      let last = rooted_still ends.last ends.in_range ends.uncaused in
      let root : cause_of causes' 0 ≡ None = subst (λ x. cause_of causes' x ≡ None) last ends.uncaused in
      let away : 0 ≢ start = λ e. (let now = cause_same in cc) in
      let origin : time_of times' 0 ≡ pos 0 = get_or-set_other times start 0 (time_of times (edge_of net n).to -ℤ (edge_of net n).most) (pos 0) away ∙ r.origin in
      let walk : Follows net causes' start ends.walk 0 = subst (λ x. Follows net causes' start ends.walk x) last ends.follows in
      let below : time_of times' start ≤ℤ pos (net.points * 100000000) =
      omega (arith, ints, ends.short, origin, follows_asked net times' causes' asked_still start ends.walk 0 walk, most_of_least net is_net causes' caused_still start ends.walk 0 walk) in
      let above : pos 0 ≤ℤ time_of times' start = omega (arith, ints, (r.bounded start).0, times_rise start) in
      record {
        each_point = rw length-set r.each_point;
        caused = caused_still;
        asked = asked_still;
        cycles = cycles_still;
        rooted = rooted_still;
        uncaused = root;
        origin = origin;
        bounded = λ p.
            ⊎_elim (λ (same : p ≡ start). subst (λ x. (pos 0 ≤ℤ time_of times' x) × (time_of times' x ≤ℤ pos (net.points * 100000000))) (sym same) (above, below))
            (λ (other : p ≢ start). rw (get_or-set_other times start p (time_of times (edge_of net n).to -ℤ (edge_of net n).most) (pos 0) other) (r.bounded p))
            (cases_eq p start);
        early = early_still;
      }

  pub room_less : AreRising net times' causes' → room_of net times' < room_of net times
  room_less r' =
      let h : start < length times = subst (λ x. start < x) (sym r.each_point) start_in in
      let sums = sum_by-set (λ t. net.points * 100000000 - unsigned_abs t) times start (time_of times (edge_of net n).to -ℤ (edge_of net n).most) (pos 0) h in
      let less = abs_less (net.points * 100000000) (time_of times start) (time_of times (edge_of net n).to -ℤ (edge_of net n).most) (r.bounded start).0 short
      (subst (λ x. x ≤ℤ pos (net.points * 100000000)) time_same (r'.bounded start).1) in
      omega (arith, sums, less)
