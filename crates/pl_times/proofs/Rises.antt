-- What a raise of one time leaves: times that rise still, none past a solution.
use Rattle.std.proofs.Common.{◌≡◌, ◌≢◌, ⊎_elim, inl, inr, ◌⊎◌, ℕ, suc, zero, ◌<◌, ℤ, pos, negsuc, ◌+ℤ◌, ◌-ℤ◌, ◌≤ℤ◌, ◌<ℤ◌, List, [], ◌∷◌, length, set, Option, Some, None, refl, sym, ◌∙◌, subst, arith, true, false}
use lib.Signed.{le_z}
use Rattle.std.specs.Prelude.{Contains}
use Rattle.std.specs.Int.RustNames.{unsigned_abs}
use Rattle.std.specs.List.Sorted.{IsPermutation}
use Rattle.std.proofs.lemmas.Int.{ints}
use Rattle.std.proofs.lemmas.List.{get_or-set_same, get_or-set_other, length-set, get_or_default}
use Rattle.std.proofs.lemmas.List.Sums.{sum_by-set}
use Rattle.std.proofs.lemmas.List.Sorted.{Contains-permutation, All-permutation}
use Rattle.std.proofs.lemmas.Bool.{cases_eq}
use Rattle.pl_stn.specs.declared.net.Net.{Net}
use Rattle.pl_stn.specs.Nets.{IsSolution, edge_of, most_of, time_of}
use Rattle.pl_stn.specs.Causes.{AreCauses, StartsAt, Follows, cause_of}
use Rattle.pl_times.specs.Times.{IsSmall, AreSmall}
use Rattle.pl_times.specs.Settling.{AreRising, ArePoints, IsKnown, IsPlaced, IsSeen, Raises, entry_of, room_of}
use Rattle.pl_times.specs.declared.rising.Rising.{Rising}
use Rattle.std.specs.BinaryHeap.{heap_items}
use Rattle.std.proofs.lemmas.List.Elements.{All-cons}

pub below_from_test : (a b : ℤ) → le_z a b ≡ true → a ≤ℤ b
below_from_test a b h = grind (arith, ints)

pub above_from_test : (a b : ℤ) → le_z a b ≡ false → b <ℤ a
above_from_test a b h = grind (arith, ints)

-- along causes the times differ by no less than the edges ask
follows_asked : (net : Net) (times : List ℤ) (causes : List (Option ℕ)) → ((p k : ℕ) → cause_of causes p ≡ Some k → time_of times p ≤ℤ (time_of times (edge_of net k).to -ℤ (edge_of net k).most)) → (p : ℕ) (ks : List ℕ) (q : ℕ) → Follows net causes p ks q → (time_of times p +ℤ most_of net ks) ≤ℤ time_of times q
follows_asked net times causes a p [] q f = subst (λ x. (time_of times p +ℤ pos 0) ≤ℤ time_of times x) f (omega (arith, ints))
follows_asked net times causes a p (k ∷ ks) q f =
    omega (arith, ints, a p k f.0, follows_asked net times causes a (edge_of net k).to ks q f.1)

-- along causes the times of a solution differ by no more than the edges allow
follows_meets : (net : Net) (times : List ℤ) → IsSolution net times → (causes : List (Option ℕ)) → AreCauses net causes → (p : ℕ) (ks : List ℕ) (q : ℕ) → Follows net causes p ks q → time_of times q ≤ℤ (time_of times p +ℤ most_of net ks)
follows_meets net times s causes a p [] q f = subst (λ x. time_of times x ≤ℤ (time_of times p +ℤ pos 0)) f (omega (arith, ints))
follows_meets net times s causes a p (k ∷ ks) q f =
    let starts = a.starts p k f.0 in
    let met = s.meets k (record { from = 0; to = 0; most = pos 0 }) starts.edge in
    let start : time_of times (edge_of net k).to ≤ℤ (time_of times p +ℤ (edge_of net k).most) =
    subst (λ x. time_of times (edge_of net k).to ≤ℤ (time_of times x +ℤ (edge_of net k).most)) starts.start (omega (arith, ints, met)) in
    omega (arith, ints, start, follows_meets net times s causes a (edge_of net k).to ks q f.1)

abs_rise : (x y : ℤ) → pos 0 ≤ℤ x → x <ℤ y → unsigned_abs x < unsigned_abs y
abs_rise (pos x) (pos y) z l = omega (arith, ints, l)
abs_rise (pos x) (negsuc y) z l = absurd (omega (arith, ints, l))
abs_rise (negsuc x) y z l = absurd (omega (arith, ints, z))

abs_less : (m : ℕ) (a b : ℤ) → a <ℤ b → b ≤ℤ pos m → unsigned_abs (pos m -ℤ b) < unsigned_abs (pos m -ℤ a)
abs_less m a b h k = abs_rise (pos m -ℤ b) (pos m -ℤ a) (omega (arith, ints)) (omega (arith, ints))

pub rest_moved : (x : ℤ × ℕ) (xs ys : List (ℤ × ℕ)) → IsPermutation (x ∷ xs) ys → (y : ℤ × ℕ) → Contains xs y → Contains ys y
rest_moved x xs ys moved y held = Contains-permutation (x ∷ xs) ys y moved (suc held.0, omega (arith, held.1), held.2)

pub first_moved : {x : ℤ × ℕ} (xs ys : List (ℤ × ℕ)) → IsPermutation (x ∷ xs) ys → Contains ys x
first_moved {x} xs ys moved = Contains-permutation (x ∷ xs) ys x moved (zero, omega arith, refl)

-- times that rise are small
pub rise_small : (net : Net) (known : List ℤ) (floor : ℤ) → IsKnown net known floor → (times : List ℤ) (causes : List (Option ℕ)) → AreRising net floor times causes → (p : ℕ) → p < net.points → IsSmall (time_of times p)
rise_small net known floor is times causes r p h =
    let top = is.small p (pos 0) (omega (arith, is.solution.each_point)) in
    (omega (arith, ints, is.floor_small.0, r.above p h), omega (arith, ints, top.1, r.early known is.solution p h))

pub all_small : (net : Net) (known : List ℤ) (floor : ℤ) → IsKnown net known floor → (times : List ℤ) (causes : List (Option ℕ)) → AreRising net floor times causes → AreSmall times
all_small net known floor is times causes r p d h =
    rw (get_or_default times p d (pos 0) h) (rise_small net known floor is times causes r p (omega (arith, r.each_point)))

pub known_small : (net : Net) (known : List ℤ) (floor : ℤ) → IsKnown net known floor → (p : ℕ) → p < net.points → IsSmall (time_of known p)
known_small net known floor is p h = is.small p (pos 0) (omega (arith, is.solution.each_point))

-- nothing has to rise
pub raised_none : (net : Net) (known : List ℤ) (r : Rising) (n : ℕ) → AreRising net r.floor r.times.items r.causes.items → ArePoints net (heap_items r.queue) → (time_of r.times.items (edge_of net n).to -ℤ (edge_of net n).most) ≤ℤ time_of r.times.items (edge_of net n).from → Raises net known r r n
raised_none net known r n rising points low = record {
  rising = rising;
  floor = refl;
  points = points;
  seen = λ k h seen. seen;
  met = inl (omega (arith, ints, low));
  work = omega arith;
}

-- the edge n asks more of its start than its time
module _ (net : Net) (known : List ℤ) (floor : ℤ) (is : IsKnown net known floor) (times : List ℤ) (causes : List (Option ℕ)) (r : AreRising net floor times causes) (n : ℕ) (in_range : n < length net.edges)
    (short : time_of times (edge_of net n).from <ℤ (time_of times (edge_of net n).to -ℤ (edge_of net n).most)) where
  abbrev start : ℕ
  start = (edge_of net n).from

  abbrev asked : ℤ
  asked = time_of times (edge_of net n).to -ℤ (edge_of net n).most

  abbrev times' : List ℤ
  times' = set times start asked

  abbrev causes' : List (Option ℕ)
  causes' = set causes start (Some n)

  pub start_in : start < net.points
  start_in = (is.joined.joins n (record { from = 0; to = 0; most = pos 0 }) in_range).0

  to_in : (edge_of net n).to < net.points
  to_in = (is.joined.joins n (record { from = 0; to = 0; most = pos 0 }) in_range).1

  cause_same : cause_of causes' start ≡ Some n
  cause_same = let h : start < length causes = subst (λ x. start < x) (sym r.caused.each_point) start_in in get_or-set_same causes start (Some n) None h

  pub time_same : time_of times' start ≡ asked
  time_same = let h : start < length times = subst (λ x. start < x) (sym r.each_point) start_in in get_or-set_same times start _ (pos 0) h

  time_other : (p : ℕ) → p ≢ start → time_of times' p ≡ time_of times p
  time_other p other = get_or-set_other times start p asked (pos 0) other

  -- no solution lets the start lie earlier than what is asked
  fits : (others : List ℤ) → IsSolution net others → asked ≤ℤ time_of others start
  fits others s = omega (arith, ints, s.meets n (record { from = 0; to = 0; most = pos 0 }) in_range, r.early others s (edge_of net n).to to_in)

  away : start ≢ 0
  away e =
      let least = fits known is.solution in
      let at : time_of known start ≡ pos 0 = subst (λ x. time_of known x ≡ pos 0) (sym e) is.solution.origin in
      let now : time_of times start ≡ pos 0 = subst (λ x. time_of times x ≡ pos 0) (sym e) r.origin in
      omega (arith, ints, short)

  cause_cases : (p k : ℕ) → cause_of causes' p ≡ Some k → ((p ≡ start) × (n ≡ k)) ⊎ ((p ≢ start) × (cause_of causes p ≡ Some k))
  cause_cases p k e =
      ⊎_elim (λ same. inl (same, (let now = cause_same in cc)))
      (λ other. inr (other, rw (get_or-set_other causes start p (Some n) None other) at e))
      (cases_eq p start)

  times_rise : (p : ℕ) → time_of times p ≤ℤ time_of times' p
  times_rise p =
      ⊎_elim (λ (same : p ≡ start). subst (λ x. time_of times x ≤ℤ time_of times' x) (sym same) (rw time_same (omega (arith, ints, short))))
      (λ (other : p ≢ start). rw (time_other p other) (omega (arith, ints)))
      (cases_eq p start)

  caused_still : AreCauses net causes'
  caused_still = record {
    each_point = rw length-set r.caused.each_point;
    starts = λ p k e.
        ⊎_elim (λ w. subst (λ x. StartsAt net p x) w.1 (record { edge = in_range; start = sym w.0 }))
        (λ w. r.caused.starts p k w.1)
        (cause_cases p k e);
  }

  asked_still : (p k : ℕ) → cause_of causes' p ≡ Some k → time_of times' p ≤ℤ (time_of times' (edge_of net k).to -ℤ (edge_of net k).most)
  asked_still p k e =
      ⊎_elim
      (λ w. subst (λ x. time_of times' p ≤ℤ (time_of times' (edge_of net x).to -ℤ (edge_of net x).most)) w.1
      (subst (λ x. time_of times' x ≤ℤ (time_of times' (edge_of net n).to -ℤ (edge_of net n).most)) (sym w.0)
      (omega (arith, ints, time_same, times_rise (edge_of net n).to))))
      (λ w. omega (arith, ints, time_other p w.0, r.asked p k w.1, times_rise (edge_of net k).to))
      (cause_cases p k e)

  -- a walk along the new causes is one along the old ones, or it asks more than the old times give
  follows_short : (p : ℕ) (ks : List ℕ) (q : ℕ) → Follows net causes' p ks q → Follows net causes p ks q ⊎ ((time_of times p +ℤ most_of net ks) <ℤ time_of times q)
  follows_short p [] q f = inl f
  follows_short p (k ∷ ks) q f =
      ⊎_elim
      (λ w.
      let more : time_of times p <ℤ (time_of times (edge_of net k).to -ℤ (edge_of net k).most) =
      subst (λ x. time_of times x <ℤ (time_of times (edge_of net k).to -ℤ (edge_of net k).most)) (sym w.0)
      (subst (λ x. time_of times start <ℤ (time_of times (edge_of net x).to -ℤ (edge_of net x).most)) w.1 short) in
      inr (⊎_elim (λ old. omega (arith, ints, more, follows_asked net times causes r.asked (edge_of net k).to ks q old))
      (λ asks. omega (arith, ints, more, asks))
      (follows_short (edge_of net k).to ks q f.1)))
      (λ w.
      ⊎_elim (λ old. inl (w.1, old))
      (λ asks. inr (omega (arith, ints, asks, r.asked p k w.1)))
      (follows_short (edge_of net k).to ks q f.1))
      (cause_cases p k f.0)

  acyclic_still : (p : ℕ) (ks : List ℕ) → 0 < length ks → Follows net causes' p ks p → ⊥
  acyclic_still p ks some f =
      ⊎_elim (λ old. r.acyclic p ks some old)
      (λ asks. let meets = follows_meets net known is.solution causes' caused_still p ks p f in omega (arith, ints, asks))
      (follows_short p ks p f)

  pub rising_still : AreRising net floor times' causes'
  rising_still = record {
    each_point = rw length-set r.each_point;
    caused = caused_still;
    asked = asked_still;
    acyclic = acyclic_still;
    rooted = λ p h e.
        ⊎_elim (λ (same : p ≡ start). let now = cause_same in absurd (cc))
        (λ (other : p ≢ start).
        ⊎_elim (λ zero. inl zero) (λ low. inr (time_other p other ∙ low)) (r.rooted p h (rw (get_or-set_other causes start p (Some n) None other) at e)))
        (cases_eq p start);
    origin = time_other 0 (λ e. away (sym e)) ∙ r.origin;
    uncaused = get_or-set_other causes start 0 (Some n) None (λ e. away (sym e)) ∙ r.uncaused;
    above = λ p h. omega (arith, ints, r.above p h, times_rise p);
    early = λ others s p h.
        ⊎_elim
        (λ (same : p ≡ start). subst (λ x. time_of times' x ≤ℤ time_of others x) (sym same) (rw time_same (fits others s)))
        (λ (other : p ≢ start). rw (time_other p other) (r.early others s p h))
        (cases_eq p start);
  }

  pub room_less : room_of times' < room_of times
  room_less =
      let h : start < length times = subst (λ x. start < x) (sym r.each_point) start_in in
      let top = is.small start (pos 0) (omega (arith, is.solution.each_point, start_in)) in
      let fit = fits known is.solution in
      let below : asked ≤ℤ pos 10000000000000 = omega (arith, ints, top.1, fit) in
      let sums = sum_by-set (λ t. unsigned_abs (pos 10000000000000 -ℤ t)) times start asked (pos 0) h in
      let less = abs_less 10000000000000 (time_of times start) asked short below in
      omega (arith, sums, less)

  -- what was seen is seen, and the edge itself
  pub seen_still : (queue queue' : List (ℤ × ℕ)) → IsPermutation (entry_of known times' start ∷ queue) queue' → (k : ℕ) → IsSeen net known times queue k → IsSeen net known times' queue' k
  seen_still queue queue' moved k seen =
      ⊎_elim
      (λ (same : (edge_of net k).to ≡ start). inr (subst (λ x. Contains queue' (entry_of known times' x)) (sym same) (first_moved queue queue' moved)))
      (λ (other : (edge_of net k).to ≢ start).
      ⊎_elim
      (λ met. inl (omega (arith, ints, met, time_other (edge_of net k).to other, times_rise (edge_of net k).from)))
      (λ held. inr (rw (time_other (edge_of net k).to other) (rest_moved (entry_of known times' start) queue queue' moved (entry_of known times (edge_of net k).to) held)))
      seen)
      (cases_eq (edge_of net k).to start)

  pub seen_now : (queue queue' : List (ℤ × ℕ)) → IsPermutation (entry_of known times' start ∷ queue) queue' → IsSeen net known times' queue' n
  seen_now queue queue' moved =
      ⊎_elim
      (λ (same : (edge_of net n).to ≡ start). inr (subst (λ x. Contains queue' (entry_of known times' x)) (sym same) (first_moved queue queue' moved)))
      (λ (other : (edge_of net n).to ≢ start). inl (omega (arith, ints, time_other (edge_of net n).to other, time_same)))
      (cases_eq (edge_of net n).to start)

  -- the raise, as one step
  pub asked_small : IsSmall asked
  asked_small =
      let top = is.small start (pos 0) (omega (arith, is.solution.each_point, start_in)) in
      (omega (arith, ints, is.floor_small.0, r.above start start_in, short), omega (arith, ints, top.1, fits known is.solution))

pub raised_once : (net : Net) (known : List ℤ) (old new : Rising) (n : ℕ) → IsKnown net known old.floor → AreRising net old.floor old.times.items old.causes.items → ArePoints net (heap_items old.queue) → n < length net.edges → time_of old.times.items (edge_of net n).from <ℤ (time_of old.times.items (edge_of net n).to -ℤ (edge_of net n).most) → IsPlaced known old new (edge_of net n).from (time_of old.times.items (edge_of net n).to -ℤ (edge_of net n).most) n → Raises net known old new n
raised_once net known old new n is r points in_range short placed =
    let start = (edge_of net n).from in
    let asked = time_of old.times.items (edge_of net n).to -ℤ (edge_of net n).most in
    let same : time_of (set old.times.items start asked) start ≡ asked = time_same net known old.floor is old.times.items old.causes.items r n in_range short in
    let moved : IsPermutation (entry_of known (set old.times.items start asked) start ∷ heap_items old.queue) (heap_items new.queue) = rw same placed.queue in
    let begun = start_in net known old.floor is old.times.items old.causes.items r n in_range short in
    let less = room_less net known old.floor is old.times.items old.causes.items r n in_range short in
    record {
      rising = rw (placed.floor, placed.times, placed.causes) (rising_still net known old.floor is old.times.items old.causes.items r n in_range short);
      floor = placed.floor;
      points = All-permutation (λ q. q.1 < net.points) (entry_of known (set old.times.items start asked) start ∷ heap_items old.queue) (heap_items new.queue) moved (All-cons (λ q. q.1 < net.points) (entry_of known (set old.times.items start asked) start) (heap_items old.queue) begun points);
      seen = λ k h seen. rw placed.times (seen_still net known old.floor is old.times.items old.causes.items r n in_range short (heap_items old.queue) (heap_items new.queue) moved k seen);
      met = rw placed.times (seen_now net known old.floor is old.times.items old.causes.items r n in_range short (heap_items old.queue) (heap_items new.queue) moved);
      work = rw placed.times (omega (arith, less, placed.more));
    }
