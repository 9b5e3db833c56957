-- No times meet a negative cycle.
use Rattle.std.proofs.Common.{ℕ, ◌<◌, ℤ, pos, ◌+ℤ◌, ◌≤ℤ◌, List, [], ◌∷◌, length, subst, arith}
use Rattle.std.specs.Prelude.{All}
use Rattle.std.proofs.lemmas.Int.{ints}
use Rattle.std.proofs.lemmas.List.Elements.{All-head, All-tail}
use Rattle.pl_stn.specs.declared.net.Net.{Net}
use Rattle.pl_stn.specs.Nets.{IsSolution, IsNegativeCycle, HasNoSolution, Leads, edge_of, most_of, time_of}

-- along a walk the times differ by no more than its edges allow
leads_meets : (net : Net) (times : List ℤ) → IsSolution net times → (p : ℕ) (ks : List ℕ) (q : ℕ) → All (λ k. k < length net.edges) ks → Leads net p ks q → time_of times q ≤ℤ (time_of times p +ℤ most_of net ks)
leads_meets net times s p [] q a w = subst (λ x. time_of times x ≤ℤ (time_of times p +ℤ pos 0)) w (omega (arith, ints))
leads_meets net times s p (k ∷ ks) q a w =
    let edge = s.meets k (record { from = 0; to = 0; most = pos 0 }) (All-head (λ j. j < length net.edges) k ks a) in
    let more = leads_meets net times s (edge_of net k).to ks q (All-tail (λ j. j < length net.edges) k ks a) w.1 in
    let start : time_of times (edge_of net k).to ≤ℤ (time_of times p +ℤ (edge_of net k).most) =
    subst (λ x. time_of times (edge_of net k).to ≤ℤ (time_of times x +ℤ (edge_of net k).most)) w.0 (omega (arith, ints, edge)) in
    omega (arith, ints, more, start)

pub cycle_excludes : (net : Net) (edges : List ℕ) (times : List ℤ) → IsNegativeCycle net edges → IsSolution net times → ⊥
cycle_excludes net edges times c s = omega (arith, ints, c.negative, leads_meets net times s c.closed.0 edges c.closed.0 c.edges c.closed.1)

pub none_from_cycle : (net : Net) (edges : List ℕ) → IsNegativeCycle net edges → HasNoSolution net
none_from_cycle net edges c times s = cycle_excludes net edges times c s
