-- The edge that raised each point last, and the walks along these edges.
use Rattle.std.specs.Prelude.{ℕ, ℤ, pos, ◌-ℤ◌, ◌<ℤ◌, ◌≤ℤ◌, ◌≡◌, ◌≢◌, ◌≤◌, ◌<◌, List, [], ◌∷◌, length, slice_index_or, Option, Some, None, AllPairs, ◌-◌, ◌*◌, sum_by}
use Rattle.std.specs.Int.RustNames.{unsigned_abs}
use Rattle.pl_stn.specs.declared.rising.Step.{Step}
use Rattle.pl_stn.specs.declared.rising.Step.TheVariants.{Met, Raised, Closed}
use Rattle.pl_stn.specs.declared.net.Edge.{Edge}
use Rattle.pl_stn.specs.declared.net.Net.{Net}
use Rattle.pl_stn.specs.Nets.{edge_of, most_of, time_of, IsLeast, IsNegativeCycle}

-- the number of the edge that raised a point last
abbrev pub cause_of : List (Option ℕ) → ℕ → Option ℕ
cause_of causes p = slice_index_or causes p None

-- the edge stands in the net and starts at the point
pub record StartsAt (net : Net) (p k : ℕ) : Type 0 where
  pub edge : k < length net.edges
  pub start : (edge_of net k).from ≡ p

-- each point has a place, and each cause starts at its point
pub record AreCauses (net : Net) (causes : List (Option ℕ)) : Type 0 where
  pub each_point : length causes ≡ net.points
  pub starts : (p k : ℕ) → cause_of causes p ≡ Some k → StartsAt net p k

-- each edge of the walk is the cause of the point where it starts
abbrev pub Follows : Net → List (Option ℕ) → ℕ → List ℕ → ℕ → Type 0
Follows net causes p [] q = p ≡ q
Follows net causes p (k ∷ ks) q = (cause_of causes p ≡ Some k) × Follows net causes (edge_of net k).to ks q

-- a closed walk along causes, which passes no point twice
pub record IsLoop (net : Net) (causes : List (Option ℕ)) (ks : List ℕ) : Type 0 where
  pub some : 0 < length ks
  pub closed : (p : ℕ) × Follows net causes p ks p
  pub simple : AllPairs (λ j k. (edge_of net j).from ≢ (edge_of net k).from) ks

-- a walk along causes, of no more edges than there are points, to a point without a cause
pub record EndsFrom (net : Net) (causes : List (Option ℕ)) (p : ℕ) : Type 0 where
  pub walk : List ℕ
  pub last : ℕ
  pub follows : Follows net causes p walk last
  pub short : length walk ≤ net.points
  pub in_range : last < net.points
  pub uncaused : cause_of causes last ≡ None

-- times that have risen from 0, each to what its cause asks, and none past a solution
pub record AreRising (net : Net) (times : List ℤ) (causes : List (Option ℕ)) : Type 0 where
  pub each_point : length times ≡ net.points
  pub caused : AreCauses net causes
  pub asked : (p k : ℕ) → cause_of causes p ≡ Some k → time_of times p ≤ℤ (time_of times (edge_of net k).to -ℤ (edge_of net k).most)
  pub cycles : (p : ℕ) (ks : List ℕ) → 0 < length ks → Follows net causes p ks p → most_of net ks <ℤ pos 0
  pub rooted : (p : ℕ) → p < net.points → cause_of causes p ≡ None → p ≡ 0
  pub uncaused : cause_of causes 0 ≡ None
  pub origin : time_of times 0 ≡ pos 0
  pub bounded : (p : ℕ) → (pos 0 ≤ℤ time_of times p) × (time_of times p ≤ℤ pos (net.points * 100000000))
  pub early : IsLeast net times

-- how far the times may still rise
abbrev pub room_of : Net → List ℤ → ℕ
room_of net times = sum_by (λ t. net.points * 100000000 - unsigned_abs t) times

-- what a step may do: nothing where what it looks at is met, raise times, or close a cycle
abbrev pub Tightens : Net → List ℤ → List (Option ℕ) → List ℤ → List (Option ℕ) → Type 0 → Step → Type 0
Tightens net times causes times' causes' met Met = (times' ≡ times) × (causes' ≡ causes) × met
Tightens net times causes times' causes' met Raised = AreRising net times' causes' × (room_of net times' < room_of net times)
Tightens net times causes times' causes' met (Closed ks) = IsNegativeCycle net ks.items

-- the edge keeps a point, other than the origin, from lying before the origin
abbrev pub IsAfterOrigin : Edge → Type 0
IsAfterOrigin e = (0 < e.from) × (e.to ≡ 0) × (e.most ≡ pos 0)

-- such an edge of the point
pub record IsFirstCause (net : Net) (p k : ℕ) : Type 0 where
  pub starts : StartsAt net p k
  pub after : IsAfterOrigin (edge_of net k)

-- each point but the origin has an edge as its cause that keeps it from lying before the origin
pub record AreFirstCauses (net : Net) (causes : List (Option ℕ)) : Type 0 where
  pub each_point : length causes ≡ net.points
  pub first : (p k : ℕ) → cause_of causes p ≡ Some k → IsFirstCause net p k
  pub rooted : (p : ℕ) → p < net.points → cause_of causes p ≡ None → p ≡ 0
