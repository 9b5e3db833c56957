-- Edges that are still to be looked at, and what stands when none is.
use Rattle.std.proofs.Common.{◌≡◌, ◌≢◌, ⊎_elim, ◌⊎◌, inl, inr, ℕ, zero, suc, ◌+◌, ◌<◌, ◌≤◌, ℤ, pos, ◌-ℤ◌, ◌≤ℤ◌, List, [], ◌∷◌, ◌++◌, length, set, replicate, Option, Some, None, refl, sym, ap, ◌∙◌, subst, arith}
use Rattle.std.specs.Prelude.{All, Contains, slice_index_or}
use Rattle.std.proofs.lemmas.Int.{ints}
use Rattle.std.proofs.lemmas.Bool.{cases_eq, cases_lt}
use Rattle.std.proofs.lemmas.List.{get_or-set_same, get_or-set_other, length-set, get_or_append_left, get_or_push, length-append, get_or_default, length-replicate}
use Rattle.pl_stn.specs.declared.net.Net.{Net}
use Rattle.pl_stn.specs.Nets.{IsSolution, Meets, edge_of, time_of}
use Rattle.pl_stn.specs.Causes.{cause_of}
use Rattle.pl_times.specs.Times.{IsHeld, IsJoined}
use Rattle.pl_times.specs.Index.{IsIndex, IsLast}
use Rattle.pl_stn.specs.Causes.{Follows}
use Rattle.pl_times.specs.declared.rising.Rising.{Rising}
use Rattle.pl_times.specs.Bounded.{IsEarly}
use Rattle.std.specs.BinaryHeap.{heap_items}
use Rattle.std.specs.List.Sorted.{IsPermutation}
use Rattle.std.proofs.lemmas.List.Sorted.{Contains-permutation, All-permutation}
use Rattle.std.proofs.lemmas.List.Elements.{All-cons, All-head, All-tail}
use Rattle.pl_times.proofs.Rises.{first_moved, rest_moved}
use Rattle.pl_times.specs.Settling.{AreRising, AreSeen, ArePoints, IsKnown, IsSeen, HavePopped, Looks, Pops, Raises, Scans, entry_of, work_of}

-- the edges below n are indexed
pub record HaveIndexed (net : Net) (heads nexts : List (Option ℕ)) (n : ℕ) : Type 0 where
  pub each_point : length heads ≡ net.points
  pub each_edge : length nexts ≡ n
  pub heads_last : (p : ℕ) → p < net.points → IsLast net p n (slice_index_or heads p None)
  pub nexts_last : (k : ℕ) → k < n → IsLast net (edge_of net k).to k (slice_index_or nexts k None)

-- an edge that ends elsewhere changes nothing
last_passed : (net : Net) (p n : ℕ) (o : Option ℕ) → (edge_of net n).to ≢ p → IsLast net p n o → IsLast net p (n + 1) o
last_passed net p n None other last = λ k lt.
    ⊎_elim (λ (one : k ≡ n). subst (λ x. (edge_of net x).to ≢ p) (sym one) other) (λ (more : k ≢ n). last k (omega arith)) (cases_eq k n)
last_passed net p n (Some j) other last = (
  omega (arith, last.0),
  last.1,
  λ k above lt.
      ⊎_elim (λ (one : k ≡ n). subst (λ x. (edge_of net x).to ≢ p) (sym one) other) (λ (more : k ≢ n). last.2 k above (omega arith)) (cases_eq k n),
)

pub indexed_more : (net : Net) (heads nexts : List (Option ℕ)) (n : ℕ) → HaveIndexed net heads nexts n → (edge_of net n).to < net.points → HaveIndexed net (set heads (edge_of net n).to (Some n)) (nexts ++ slice_index_or heads (edge_of net n).to None ∷ []) (n + 1)
indexed_more net heads nexts n h within =
    let at : (edge_of net n).to < length heads = omega (arith, h.each_point) in
    record {
      each_point = rw length-set h.each_point;
      each_edge = omega (arith, h.each_edge, length-append nexts (slice_index_or heads (edge_of net n).to None ∷ []));
      heads_last = λ p lt.
          ⊎_elim
          (λ (same : p ≡ (edge_of net n).to).
          subst (λ x. IsLast net x (n + 1) (slice_index_or (set heads (edge_of net n).to (Some n)) x None)) (sym same)
          (rw (get_or-set_same heads (edge_of net n).to (Some n) None at) (omega arith, refl, λ k above below. absurd (omega arith))))
          (λ (other : p ≢ (edge_of net n).to).
          rw (get_or-set_other heads (edge_of net n).to p (Some n) None other) (last_passed net p n (slice_index_or heads p None) (λ e. other (sym e)) (h.heads_last p lt)))
          (cases_eq p (edge_of net n).to);
      nexts_last = λ k lt.
          ⊎_elim
          (λ (one : k ≡ n).
          let same : length nexts ≡ k = omega (arith, h.each_edge) in
          rw (get_or_push nexts (slice_index_or heads (edge_of net n).to None) None k same) (subst (λ x. IsLast net (edge_of net x).to x (slice_index_or heads (edge_of net n).to None)) (sym one) (h.heads_last (edge_of net n).to within)))
          (λ (more : k ≢ n).
          let old : k < length nexts = omega (arith, h.each_edge) in
          rw get_or_append_left (h.nexts_last k (omega arith)))
          (cases_eq k n);
    }

pub indexed_all : (net : Net) (heads nexts : List (Option ℕ)) (n : ℕ) → n ≡ length net.edges → HaveIndexed net heads nexts n → IsIndex net heads nexts
indexed_all net heads nexts n all h = record {
  each_point = h.each_point;
  each_edge = h.each_edge ∙ all;
  heads_last = λ p lt. subst (λ x. IsLast net p x (slice_index_or heads p None)) all (h.heads_last p lt);
  nexts_last = λ k lt. h.nexts_last k (omega arith);
}

pub none_at : (n p : ℕ) → slice_index_or (replicate {A = Option ℕ} n None) p None ≡ None
none_at zero p = refl
none_at (suc n) zero = refl
none_at (suc n) (suc p) = none_at n p

pub indexed_none : (net : Net) (heads nexts : List (Option ℕ)) → heads ≡ replicate net.points None → nexts ≡ [] → HaveIndexed net heads nexts 0
indexed_none net heads nexts none empty = record {
  each_point = rw (none, length-replicate {A = Option ℕ} net.points None);
  each_edge = rw empty;
  heads_last = λ p lt. rw (none, none_at net.points p) (λ k below. absurd (omega arith));
  nexts_last = λ k lt. absurd (omega arith);
}

-- the edges that were looked at lie behind the cursor
abbrev pub IsBehind : Option ℕ → ℕ → Type 0
IsBehind None k = Unit {0}
IsBehind (Some j) k = j < k

abbrev pub IsInto : Net → ℕ → Option ℕ → Type 0
IsInto net p None = Unit {0}
IsInto net p (Some j) = (j < length net.edges) × ((edge_of net j).to ≡ p)

-- how many edges a cursor may still come to
abbrev pub left_of : Option ℕ → ℕ
left_of None = 0
left_of (Some j) = j + 1

pub record IsScanning (net : Net) (known : List ℤ) (old new : Rising) (point : ℕ) (cursor : Option ℕ) : Type 0 where
  pub rising : AreRising net new.floor new.times.items new.causes.items
  pub floor : new.floor ≡ old.floor
  pub points : ArePoints net (heap_items new.queue)
  pub seen : (k : ℕ) → k < length net.edges → IsSeen net known old.times.items (heap_items old.queue) k → IsSeen net known new.times.items (heap_items new.queue) k
  pub met : (k : ℕ) → k < length net.edges → (edge_of net k).to ≡ point → IsBehind cursor k → IsSeen net known new.times.items (heap_items new.queue) k
  pub work : work_of new ≤ work_of old
  pub into : IsInto net point cursor

last_into : (net : Net) (p below : ℕ) (o : Option ℕ) → below ≤ length net.edges → IsLast net p below o → IsInto net p o
last_into net p below None h last = tt
last_into net p below (Some j) h last = (omega (arith, last.0), last.1)

-- an edge into the point that lies behind the last one does not lie below
last_none : (net : Net) (p below : ℕ) (o : Option ℕ) → IsLast net p below o → (k : ℕ) → k < below → (edge_of net k).to ≡ p → IsBehind o k → ⊥
last_none net p below None last k lt to behind = last k lt to
last_none net p below (Some j) last k lt to behind = last.2 k behind lt to

pub scan_begun : (net : Net) (known : List ℤ) (r : Rising) (point : ℕ) (cursor : Option ℕ) → AreRising net r.floor r.times.items r.causes.items → ArePoints net (heap_items r.queue) → IsLast net point (length net.edges) cursor → IsScanning net known r r point cursor
scan_begun net known r point cursor rising points last = record {
  rising = rising;
  floor = refl;
  points = points;
  seen = λ k h seen. seen;
  met = λ k h to behind. absurd (last_none net point (length net.edges) cursor last k h to behind);
  work = omega arith;
  into = last_into net point (length net.edges) cursor (omega arith) last;
}

pub scan_more : (net : Net) (known : List ℤ) (old mid new : Rising) (point n : ℕ) (next : Option ℕ) → IsScanning net known old mid point (Some n) → Raises net known mid new n → IsLast net (edge_of net n).to n next → IsScanning net known old new point next
scan_more net known old mid new point n next s r last =
    let last' : IsLast net point n next = subst (λ x. IsLast net x n next) s.into.1 last in
    record {
      rising = r.rising;
      floor = r.floor ∙ s.floor;
      points = r.points;
      seen = λ k h seen. r.seen k h (s.seen k h seen);
      met = λ k h to behind.
          ⊎_elim
          (λ (one : k ≡ n). subst (λ x. IsSeen net known new.times.items (heap_items new.queue) x) (sym one) r.met)
          (λ (other : k ≢ n).
          ⊎_elim
          (λ (lt : k < n). absurd (last_none net point n next last' k lt to behind))
          (λ ge. r.seen k h (s.met k h to (omega arith)))
          (cases_lt k n))
          (cases_eq k n);
      work = omega (arith, s.work, r.work);
      into = last_into net point n next (omega (arith, s.into.0)) last';
    }

pub scan_all : (net : Net) (known : List ℤ) (old new : Rising) (point : ℕ) → IsScanning net known old new point None → Scans net known old new point
scan_all net known old new point s = record {
  rising = s.rising;
  floor = s.floor;
  points = s.points;
  seen = s.seen;
  met = λ k h to. s.met k h to tt;
  work = s.work;
}

contains_cases : (x : ℤ × ℕ) (xs : List (ℤ × ℕ)) (y : ℤ × ℕ) → Contains (x ∷ xs) y → (y ≡ x) ⊎ Contains xs y
contains_cases x xs y (zero, lt, at) = inl (sym at)
contains_cases x xs y (suc k, lt, at) = inr (k, omega arith, at)

pub popped : (net : Net) (known : List ℤ) (old new : Rising) (key : ℤ) (point : ℕ) → AreSeen net known old → Pops old (Some (key, point)) new → HavePopped net known new key point
popped net known old new key point s (floor, times, causes, moved, more) =
    let all = All-permutation (λ q. q.1 < net.points) (heap_items old.queue) ((key, point) ∷ heap_items new.queue) moved s.points in
    record {
      rising = rw (floor, times, causes) s.rising;
      points = All-tail (λ q. q.1 < net.points) (key, point) (heap_items new.queue) all;
      within = All-head (λ q. q.1 < net.points) (key, point) (heap_items new.queue) all;
      seen = λ k h.
          rw times (⊎_elim
          (λ met. inl (inl met))
          (λ held.
          ⊎_elim (λ same. inr same) (λ rest. inl (inr rest))
          (contains_cases (key, point) (heap_items new.queue) (entry_of known old.times.items (edge_of net k).to) (Contains-permutation (heap_items old.queue) ((key, point) ∷ heap_items new.queue) (entry_of known old.times.items (edge_of net k).to) moved held)))
          (s.seen k h));
    }

-- the entry was of another time: nothing is lost
stale_all : (net : Net) (known : List ℤ) (r : Rising) (key : ℤ) (point : ℕ) → HavePopped net known r key point → (key ≡ time_of r.times.items point -ℤ time_of known point → ⊥) → AreSeen net known r
stale_all net known r key point p stale = record {
  rising = p.rising;
  points = p.points;
  seen = λ k h.
      ⊎_elim (λ seen. seen)
      (λ (same : entry_of known r.times.items (edge_of net k).to ≡ (key, point)).
      let to : (edge_of net k).to ≡ point = ap (λ (x : ℤ × ℕ). x.1) same in
      let at : time_of r.times.items (edge_of net k).to -ℤ time_of known (edge_of net k).to ≡ key = ap (λ (x : ℤ × ℕ). x.0) same in
      absurd (stale (sym (subst (λ x. time_of r.times.items x -ℤ time_of known x ≡ key) to at))))
      (p.seen k h);
}

pub popped_stale : (net : Net) (known : List ℤ) (r : Rising) (key : ℤ) (point : ℕ) → HavePopped net known r key point → (key ≡ time_of r.times.items point -ℤ time_of known point → ⊥) → Looks net known r r
popped_stale net known r key point p stale = record { all = stale_all net known r key point p stale; floor = refl; work = omega arith }

scanned_all : (net : Net) (known : List ℤ) (old new : Rising) (key : ℤ) (point : ℕ) → HavePopped net known old key point → Scans net known old new point → AreSeen net known new
scanned_all net known old new key point p s = record {
  rising = s.rising;
  points = s.points;
  seen = λ k h.
      ⊎_elim (λ seen. s.seen k h seen)
      (λ (same : entry_of known old.times.items (edge_of net k).to ≡ (key, point)).
      s.met k h (ap (λ (x : ℤ × ℕ). x.1) same))
      (p.seen k h);
}

pub popped_scanned : (net : Net) (known : List ℤ) (old new : Rising) (key : ℤ) (point : ℕ) → HavePopped net known old key point → Scans net known old new point → Looks net known old new
popped_scanned net known old new key point p s = record { all = scanned_all net known old new key point p s; floor = s.floor; work = s.work }

-- nothing is to be looked at: the times are the least
module _ (net : Net) (known : List ℤ) (r : Rising) (is : IsKnown net known r.floor) (s : AreSeen net known r) (empty : heap_items r.queue ≡ []) where
  all_met : All (Meets r.times.items) net.edges
  all_met k d h =
      rw (get_or_default net.edges k d (record { from = 0; to = 0; most = pos 0 }) h)
      (⊎_elim (λ met. met) (λ (held : Contains (heap_items r.queue) (entry_of known r.times.items (edge_of net k).to)). let none = rw empty at held in absurd (omega (arith, none.1))) (s.seen k h))

  settled_solution : IsSolution net r.times.items
  settled_solution = record { each_point = s.rising.each_point; origin = s.rising.origin; meets = all_met }

  settled_held : IsHeld net r.times.items r.causes.items
  settled_held = record {
    caused = s.rising.caused;
    tight = λ p k e.
        let starts = s.rising.caused.starts p k e in
        let met = all_met k (record { from = 0; to = 0; most = pos 0 }) starts.edge in
        let at : (time_of r.times.items (edge_of net k).to -ℤ time_of r.times.items p) ≤ℤ (edge_of net k).most = subst (λ x. (time_of r.times.items (edge_of net k).to -ℤ time_of r.times.items x) ≤ℤ (edge_of net k).most) starts.start met in
        omega (arith, ints, s.rising.asked p k e, at);
    rooted = λ p h e.
        ⊎_elim (λ zero. zero)
        (λ low. absurd (let above = is.below r.times.items settled_solution p h in omega (arith, ints, above, low)))
        (s.rising.rooted p h e);
    acyclic = s.rising.acyclic;
  }

  pub settled_early : IsEarly net (record { times = r.times.items; causes = r.causes.items })
  settled_early = record { solution = settled_solution; least = s.rising.early; held = settled_held }

floor_at : (floor : ℤ) (n p : ℕ) → p < n → time_of (replicate n floor) p ≡ floor
floor_at floor zero p h = absurd (omega arith)
floor_at floor (suc n) zero h = refl
floor_at floor (suc n) (suc p) h = floor_at floor n p (omega arith)

-- the times at the start
module _ (net : Net) (known : List ℤ) (floor : ℤ) (is : IsKnown net known floor) where
  abbrev first : List ℤ
  first = set (replicate net.points floor) 0 (pos 0)

  first_zero : time_of first 0 ≡ pos 0
  first_zero = get_or-set_same (replicate net.points floor) 0 (pos 0) (pos 0) (rw (length-replicate {A = ℤ} net.points floor) is.joined.origin)

  first_other : (p : ℕ) → p < net.points → p ≢ 0 → time_of first p ≡ floor
  first_other p h other = get_or-set_other (replicate net.points floor) 0 p (pos 0) (pos 0) other ∙ floor_at floor net.points p h

  no_cause : (p k : ℕ) → cause_of (replicate net.points None) p ≡ Some k → ⊥
  no_cause p k e = let none = none_at net.points p in cc

  no_walk : (p : ℕ) (ks : List ℕ) → 0 < length ks → Follows net (replicate net.points None) p ks p → ⊥
  no_walk p [] some f = omega arith
  no_walk p (k ∷ ks) some f = no_cause p k f.0

  pub rising_first : AreRising net floor first (replicate net.points None)
  rising_first = record {
    each_point = rw length-set (length-replicate {A = ℤ} net.points floor);
    caused = record { each_point = length-replicate {A = Option ℕ} net.points None; starts = λ p k e. absurd (no_cause p k e) };
    asked = λ p k e. absurd (no_cause p k e);
    acyclic = λ p ks some f. no_walk p ks some f;
    rooted = λ p h e. ⊎_elim (λ (same : p ≡ 0). inl same) (λ (other : p ≢ 0). inr (first_other p h other)) (cases_eq p 0);
    origin = first_zero;
    uncaused = none_at net.points 0;
    above = λ p h.
        ⊎_elim
        (λ (same : p ≡ 0). subst (λ x. floor ≤ℤ time_of first x) (sym same) (omega (arith, ints, first_zero, is.solution.origin, is.below known is.solution 0 is.joined.origin)))
        (λ (other : p ≢ 0). omega (arith, ints, first_other p h other))
        (cases_eq p 0);
    early = λ others s p h.
        ⊎_elim
        (λ (same : p ≡ 0). subst (λ x. time_of first x ≤ℤ time_of others x) (sym same) (omega (arith, ints, first_zero, s.origin)))
        (λ (other : p ≢ 0). omega (arith, ints, first_other p h other, is.below others s p h))
        (cases_eq p 0);
  }

-- each point so far is in the queue
pub record HaveQueued (net : Net) (known times : List ℤ) (queue : List (ℤ × ℕ)) (n : ℕ) : Type 0 where
  pub points : ArePoints net queue
  pub each : (p : ℕ) → p < n → Contains queue (entry_of known times p)

pub queued_more : (net : Net) (known times : List ℤ) (queue queue' : List (ℤ × ℕ)) (n : ℕ) → n < net.points → HaveQueued net known times queue n → IsPermutation (entry_of known times n ∷ queue) queue' → HaveQueued net known times queue' (n + 1)
queued_more net known times queue queue' n h q moved = record {
  points = All-permutation (λ x. x.1 < net.points) (entry_of known times n ∷ queue) queue' moved (All-cons (λ x. x.1 < net.points) (entry_of known times n) queue h q.points);
  each = λ p lt.
      ⊎_elim
      (λ (same : p ≡ n). subst (λ x. Contains queue' (entry_of known times x)) (sym same) (first_moved queue queue' moved))
      (λ (other : p ≢ n). rest_moved (entry_of known times n) queue queue' moved (entry_of known times p) (q.each p (omega arith)))
      (cases_eq p n);
}

pub queued_all : (net : Net) (known : List ℤ) (r : Rising) → IsJoined net → AreRising net r.floor r.times.items r.causes.items → HaveQueued net known r.times.items (heap_items r.queue) net.points → AreSeen net known r
queued_all net known r joined rising q = record {
  rising = rising;
  points = q.points;
  seen = λ k h. inr (q.each (edge_of net k).to (joined.joins k (record { from = 0; to = 0; most = pos 0 }) h).1);
}

pub left_less : (net : Net) (p below : ℕ) (o : Option ℕ) → IsLast net p below o → left_of o ≤ below
left_less net p below None last = omega arith
left_less net p below (Some j) last = omega (arith, last.0)
