-- Simple temporal networks, their solutions, and the negative cycles that show that there is none.
use Rattle.std.specs.Prelude.{ℕ, zero, suc, ℤ, pos, negsuc, ◌+ℤ◌, ◌-ℤ◌, ◌≤ℤ◌, ◌<ℤ◌, ◌≡◌, ◌≢◌, ◌≤◌, ◌<◌, ◌*◌, List, [], ◌∷◌, ◌++◌, length, slice_index_or, All, AllPairs, Contains}
use Rattle.pl_stn.specs.declared.net.Edge.{Edge}
use Rattle.pl_stn.specs.declared.net.Net.{Net}

-- a net that can be solved: it has an origin, its edges join its points, and no point may lie before the origin
pub record IsWellFormed (net : Net) : Type 0 where
  pub origin : 0 < net.points
  pub few_points : net.points ≤ 20001
  pub few_edges : length net.edges ≤ 1000000
  pub joins : All (λ e. (e.from < net.points) × (e.to < net.points)) net.edges
  pub small : All (λ e. (negsuc 99999999 ≤ℤ e.most) × (e.most ≤ℤ pos 100000000)) net.edges
  pub after_origin : (p : ℕ) → 0 < p → p < net.points → Contains net.edges (record { from = p; to = 0; most = pos 0 })

-- the edges that keep the points 1 to n from lying before the origin
abbrev pub edges_to_origin : ℕ → List Edge
edges_to_origin zero = []
edges_to_origin (suc n) = edges_to_origin n ++ record { from = suc n; to = 0; most = pos 0 } ∷ []

-- the time of a point
abbrev pub time_of : List ℤ → ℕ → ℤ
time_of times p = slice_index_or times p (pos 0)

-- the times are as far apart as the edge allows
abbrev pub Meets : List ℤ → Edge → Type 0
Meets times e = (time_of times e.to -ℤ time_of times e.from) ≤ℤ e.most

-- a time for each point, the origin at 0, and each edge met
pub record IsSolution (net : Net) (times : List ℤ) : Type 0 where
  pub each_point : length times ≡ net.points
  pub origin : time_of times 0 ≡ pos 0
  pub meets : All (Meets times) net.edges

-- at no point later than any solution
abbrev pub IsLeast : Net → List ℤ → Type 0
IsLeast net times = (others : List ℤ) → IsSolution net others → (p : ℕ) → p < net.points → time_of times p ≤ℤ time_of others p

-- no time lies before the origin, or farther from it than 10^8 for each point
abbrev pub AreBounded : Net → List ℤ → Type 0
AreBounded net times = (p : ℕ) → (pos 0 ≤ℤ time_of times p) × (time_of times p ≤ℤ pos (net.points * 100000000))

abbrev pub HasNoSolution : Net → Type 0
HasNoSolution net = (times : List ℤ) → IsSolution net times → ⊥

-- the edge of a number
abbrev pub edge_of : Net → ℕ → Edge
edge_of net k = slice_index_or net.edges k (record { from = 0; to = 0; most = pos 0 })

-- the edges of these numbers lead from one point to another, each starting where the one before ends
abbrev pub Leads : Net → ℕ → List ℕ → ℕ → Type 0
Leads net p [] q = p ≡ q
Leads net p (k ∷ ks) q = ((edge_of net k).from ≡ p) × Leads net (edge_of net k).to ks q

-- how far after the first point the edges let the last one be
abbrev pub most_of : Net → List ℕ → ℤ
most_of net [] = pos 0
most_of net (k ∷ ks) = (edge_of net k).most +ℤ most_of net ks

-- a closed walk along edges that passes no point twice, and at whose end the point would be before itself
pub record IsNegativeCycle (net : Net) (ks : List ℕ) : Type 0 where
  pub some : 0 < length ks
  pub edges : All (λ k. k < length net.edges) ks
  pub closed : (p : ℕ) × Leads net p ks p
  pub simple : AllPairs (λ j k. (edge_of net j).from ≢ (edge_of net k).from) ks
  pub negative : most_of net ks <ℤ pos 0
