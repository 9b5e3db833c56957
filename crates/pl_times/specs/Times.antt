-- Nets that are joined, times that are small, what holds each point at its time, and the paths that show it.
use Rattle.std.specs.Prelude.{ℕ, ℤ, pos, negsuc, ◌-ℤ◌, ◌≤ℤ◌, ◌<ℤ◌, ◌≡◌, ◌≢◌, ◌≤◌, ◌<◌, int_le, Bool, List, [], ◌∷◌, length, map, All, AllPairs, Option, Some, None}
use Rattle.pl_stn.specs.declared.net.Edge.{Edge}
use Rattle.pl_stn.specs.declared.net.Net.{Net}
use Rattle.pl_stn.specs.Nets.{IsSolution, Leads, most_of, edge_of, time_of}
use Rattle.pl_stn.specs.Causes.{AreCauses, Follows, cause_of}

-- the edges join the points, and no bound is large
pub record IsJoined (net : Net) : Type 0 where
  pub origin : 0 < net.points
  pub few_points : net.points ≤ 20001
  pub few_edges : length net.edges ≤ 1000000
  pub joins : All (λ e. (e.from < net.points) × (e.to < net.points)) net.edges
  pub small : All (λ e. (negsuc 99999999 ≤ℤ e.most) × (e.most ≤ℤ pos 100000000)) net.edges

abbrev pub IsSmall : ℤ → Type 0
IsSmall z = (negsuc 9999999999999 ≤ℤ z) × (z ≤ℤ pos 10000000000000)

abbrev pub AreSmall : List ℤ → Type 0
AreSmall times = All IsSmall times

-- no solution has a time so low
abbrev pub IsBelowAll : Net → ℤ → Type 0
IsBelowAll net floor = (times : List ℤ) → IsSolution net times → (p : ℕ) → p < net.points → floor <ℤ time_of times p

-- no solution has a time so high
abbrev pub IsAboveAll : Net → ℤ → Type 0
IsAboveAll net ceiling = (times : List ℤ) → IsSolution net times → (p : ℕ) → p < net.points → time_of times p <ℤ ceiling

-- at no point earlier than any solution
abbrev pub IsGreatest : Net → List ℤ → Type 0
IsGreatest net times = (others : List ℤ) → IsSolution net others → (p : ℕ) → p < net.points → time_of others p ≤ℤ time_of times p

-- whether the times are as far apart as the edge allows
abbrev pub is_met : List ℤ → Edge → Bool
is_met times e = int_le (time_of times e.to -ℤ time_of times e.from) e.most

-- each point but the origin has an edge that keeps it from lying earlier, and along these no walk comes back
pub record IsHeld (net : Net) (times : List ℤ) (causes : List (Option ℕ)) : Type 0 where
  pub caused : AreCauses net causes
  pub tight : (p k : ℕ) → cause_of causes p ≡ Some k → time_of times p ≡ time_of times (edge_of net k).to -ℤ (edge_of net k).most
  pub rooted : (p : ℕ) → p < net.points → cause_of causes p ≡ None → p ≡ 0
  pub acyclic : (p : ℕ) (ks : List ℕ) → 0 < length ks → Follows net causes p ks p → ⊥

-- ---- paths

-- the points that a walk along the edges of these numbers passes, its first and its last among them
abbrev pub points_of : Net → ℕ → List ℕ → List ℕ
points_of net p [] = p ∷ []
points_of net p (k ∷ ks) = p ∷ points_of net (edge_of net k).to ks

-- A path along edges of the net that passes no point twice. By its edges the last point is at most so long after the first.
pub record IsPath (net : Net) (from to : ℕ) (most : ℤ) (ks : List ℕ) : Type 0 where
  pub edges : All (λ k. k < length net.edges) ks
  pub leads : Leads net from ks to
  pub simple : AllPairs (λ one other. one ≢ other) (points_of net from ks)
  pub sum : most_of net ks ≡ most

-- the edges of these numbers
abbrev pub edges_of : Net → List ℕ → List Edge
edges_of net ks = map (edge_of net) ks

-- these edges make up such a path
abbrev pub ArePath : Net → ℕ → ℕ → ℤ → List Edge → Type 0
ArePath net from to most es = (ks : List ℕ) × (es ≡ edges_of net ks) × IsPath net from to most ks
