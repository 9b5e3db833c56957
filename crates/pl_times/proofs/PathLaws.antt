-- Along a path the times of a solution differ by no more than the edges allow.
use Rattle.std.proofs.Common.{ℕ, ◌<◌, ℤ, pos, ◌+ℤ◌, ◌≤ℤ◌, List, [], ◌∷◌, length, subst, arith}
use Rattle.std.specs.Prelude.{All}
use Rattle.std.proofs.lemmas.Int.{ints}
use Rattle.std.proofs.lemmas.List.Elements.{All-head, All-tail}
use Rattle.pl_stn.specs.declared.net.Edge.{Edge}
use Rattle.pl_stn.specs.declared.net.Net.{Net}
use Rattle.pl_stn.specs.Nets.{IsSolution, Leads, edge_of, most_of, time_of}
use Rattle.pl_times.specs.Times.{ArePath}

module _ (net : Net) (times : List ℤ) (solution : IsSolution net times) where
  leads_meets : (p : ℕ) (ks : List ℕ) (q : ℕ) → All (λ k. k < length net.edges) ks → Leads net p ks q → time_of times q ≤ℤ (time_of times p +ℤ most_of net ks)
  leads_meets p [] q within leads = subst (λ x. time_of times x ≤ℤ (time_of times p +ℤ pos 0)) leads (omega (arith, ints))
  leads_meets p (k ∷ ks) q within leads =
      let met = solution.meets k (record { from = 0; to = 0; most = pos 0 }) (All-head (λ j. j < length net.edges) k ks within) in
      let first : time_of times (edge_of net k).to ≤ℤ (time_of times p +ℤ (edge_of net k).most) =
      subst (λ x. time_of times (edge_of net k).to ≤ℤ (time_of times x +ℤ (edge_of net k).most)) leads.0 (omega (arith, ints, met)) in
      omega (arith, ints, first, leads_meets (edge_of net k).to ks q (All-tail (λ j. j < length net.edges) k ks within) leads.1)

  pub path_meets : (from to : ℕ) (most : ℤ) (es : List Edge) → ArePath net from to most es → time_of times to ≤ℤ (time_of times from +ℤ most)
  path_meets from to most es (ks, same, path) = omega (arith, ints, leads_meets from ks to path.edges path.leads, path.sum)
