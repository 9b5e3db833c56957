-- Times that rise towards the least ones, and the points that are still to be looked at.
use Rattle.std.specs.Prelude.{ℕ, ℤ, pos, ◌+◌, ◌*◌, ◌-ℤ◌, ◌≤ℤ◌, ◌≡◌, ◌⊎◌, ◌≤◌, ◌<◌, List, [], ◌∷◌, length, Option, Some, None, Contains, sum_by, All, slice_set}
use Rattle.std.specs.List.Sorted.{IsPermutation}
use Rattle.std.specs.BinaryHeap.{heap_items, heap_len}
use Rattle.std.specs.Int.RustNames.{unsigned_abs}
use Rattle.pl_stn.specs.declared.net.Net.{Net}
use Rattle.pl_stn.specs.Nets.{IsSolution, IsLeast, Meets, edge_of, time_of}
use Rattle.pl_times.specs.Times.{IsJoined, IsSmall, AreSmall, IsBelowAll}
use Rattle.pl_stn.specs.Causes.{AreCauses, Follows, cause_of}
use Rattle.pl_times.specs.declared.rising.Rising.{Rising}

-- times that have risen from the floor, each to what its cause asks, and none past a solution
pub record AreRising (net : Net) (floor : ℤ) (times : List ℤ) (causes : List (Option ℕ)) : Type 0 where
  pub each_point : length times ≡ net.points
  pub caused : AreCauses net causes
  pub asked : (p k : ℕ) → cause_of causes p ≡ Some k → time_of times p ≤ℤ (time_of times (edge_of net k).to -ℤ (edge_of net k).most)
  pub acyclic : (p : ℕ) (ks : List ℕ) → 0 < length ks → Follows net causes p ks p → ⊥
  pub rooted : (p : ℕ) → p < net.points → cause_of causes p ≡ None → (p ≡ 0) ⊎ (time_of times p ≡ floor)
  pub origin : time_of times 0 ≡ pos 0
  pub uncaused : cause_of causes 0 ≡ None
  pub above : (p : ℕ) → p < net.points → floor ≤ℤ time_of times p
  pub early : IsLeast net times

-- what stands in the queue for a point as its time is
abbrev pub entry_of : List ℤ → List ℤ → ℕ → ℤ × ℕ
entry_of known times p = (time_of times p -ℤ time_of known p, p)

-- an edge is met, or the point where it ends is to be looked at
abbrev pub IsSeen : Net → List ℤ → List ℤ → List (ℤ × ℕ) → ℕ → Type 0
IsSeen net known times queue k = Meets times (edge_of net k) ⊎ Contains queue (entry_of known times (edge_of net k).to)

-- how far the times may still rise, and how much is to be looked at
abbrev pub room_of : List ℤ → ℕ
room_of times = sum_by (λ t. unsigned_abs (pos 10000000000000 -ℤ t)) times

abbrev pub work_of : Rising → ℕ
work_of r = 2 * room_of r.times.items + heap_len r.queue

-- each entry of the queue is a point's
abbrev pub ArePoints : Net → List (ℤ × ℕ) → Type 0
ArePoints net queue = All (λ q. q.1 < net.points) queue

-- a point has a new time and cause, and is to be looked at
pub record IsPlaced (known : List ℤ) (old new : Rising) (p : ℕ) (time : ℤ) (k : ℕ) : Type 0 where
  pub floor : new.floor ≡ old.floor
  pub times : new.times.items ≡ slice_set old.times.items p time
  pub causes : new.causes.items ≡ slice_set old.causes.items p (Some k)
  pub queue : IsPermutation ((time -ℤ time_of known p, p) ∷ heap_items old.queue) (heap_items new.queue)
  pub more : heap_len new.queue ≡ heap_len old.queue + 1

-- what a look at an edge does: the times rise still, no edge that was seen is lost, and there is no more to do than before
pub record Raises (net : Net) (known : List ℤ) (old new : Rising) (number : ℕ) : Type 0 where
  pub rising : AreRising net new.floor new.times.items new.causes.items
  pub floor : new.floor ≡ old.floor
  pub points : ArePoints net (heap_items new.queue)
  pub seen : (k : ℕ) → k < length net.edges → IsSeen net known old.times.items (heap_items old.queue) k → IsSeen net known new.times.items (heap_items new.queue) k
  pub met : IsSeen net known new.times.items (heap_items new.queue) number
  pub work : work_of new ≤ work_of old

-- what a look at a point does: all edges that end there are seen
pub record Scans (net : Net) (known : List ℤ) (old new : Rising) (point : ℕ) : Type 0 where
  pub rising : AreRising net new.floor new.times.items new.causes.items
  pub floor : new.floor ≡ old.floor
  pub points : ArePoints net (heap_items new.queue)
  pub seen : (k : ℕ) → k < length net.edges → IsSeen net known old.times.items (heap_items old.queue) k → IsSeen net known new.times.items (heap_items new.queue) k
  pub met : (k : ℕ) → k < length net.edges → (edge_of net k).to ≡ point → IsSeen net known new.times.items (heap_items new.queue) k
  pub work : work_of new ≤ work_of old

-- all edges are seen
pub record AreSeen (net : Net) (known : List ℤ) (r : Rising) : Type 0 where
  pub rising : AreRising net r.floor r.times.items r.causes.items
  pub points : ArePoints net (heap_items r.queue)
  pub seen : (k : ℕ) → k < length net.edges → IsSeen net known r.times.items (heap_items r.queue) k

-- a known solution and a floor below all
pub record IsKnown (net : Net) (known : List ℤ) (floor : ℤ) : Type 0 where
  pub joined : IsJoined net
  pub solution : IsSolution net known
  pub small : AreSmall known
  pub floor_small : IsSmall floor
  pub below : IsBelowAll net floor

-- an edge is seen, or the entry that was popped was for the point where it ends
pub record HavePopped (net : Net) (known : List ℤ) (r : Rising) (key : ℤ) (point : ℕ) : Type 0 where
  pub rising : AreRising net r.floor r.times.items r.causes.items
  pub points : ArePoints net (heap_items r.queue)
  pub within : point < net.points
  pub seen : (k : ℕ) → k < length net.edges → IsSeen net known r.times.items (heap_items r.queue) k ⊎ (entry_of known r.times.items (edge_of net k).to ≡ (key, point))

-- an entry leaves the queue, or it is empty
abbrev pub Pops : Rising → Option (ℤ × ℕ) → Rising → Type 0
Pops old None new = (new.floor ≡ old.floor) × (new.times ≡ old.times) × (new.causes ≡ old.causes) × (heap_items old.queue ≡ [])
Pops old (Some q) new = (new.floor ≡ old.floor) × (new.times ≡ old.times) × (new.causes ≡ old.causes) × IsPermutation (heap_items old.queue) (q ∷ heap_items new.queue) × (heap_len new.queue + 1 ≡ heap_len old.queue)

pub record Looks (net : Net) (known : List ℤ) (old new : Rising) : Type 0 where
  pub all : AreSeen net known new
  pub floor : new.floor ≡ old.floor
  pub work : work_of new ≤ work_of old
