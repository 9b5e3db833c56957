-- Walks of which no two edges start at one point.
use Rattle.std.specs.Prelude.{◌≡◌, ◌≢◌, ℕ, ℤ, ◌+ℤ◌, ◌<◌, Bool, true, false, List, length, All, AllPairs, slice_index_or, slice_set}
use Rattle.pl_stn.specs.declared.net.Net.{Net}
use Rattle.pl_stn.specs.Nets.{Leads, edge_of, most_of}

-- a walk from one point to another, along which the bounds add up to a sum
pub record IsWalk (net : Net) (from : ℕ) (ks : List ℕ) (to : ℕ) (sum : ℤ) : Type 0 where
  pub edges : All (λ k. k < length net.edges) ks
  pub leads : Leads net from ks to
  pub simple : AllPairs (λ j k. (edge_of net j).from ≢ (edge_of net k).from) ks
  pub adds : most_of net ks ≡ sum

-- an edge leads on from the end of a walk, where no edge of the walk started; the point is marked
pub record Steps (net : Net) (marks marks' : List Bool) (at : ℕ) (sum : ℤ) (k : ℕ) (to : ℕ) (sum' : ℤ) : Type 0 where
  pub edge : k < length net.edges
  pub from : (edge_of net k).from ≡ at
  pub within : at < length marks
  pub free : slice_index_or marks at false ≡ false
  pub marked : marks' ≡ slice_set marks at true
  pub leads : to ≡ (edge_of net k).to
  pub adds : sum' ≡ sum +ℤ (edge_of net k).most
