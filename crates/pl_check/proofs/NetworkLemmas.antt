-- How many edges a network has.
use Rattle.std.proofs.Common.{◌≡◌, ℕ, ◌+◌, ◌*◌, ◌-◌, ◌≤◌, ℤ, ◌++◌, length, ap, ◌∙◌, arith}
use Rattle.std.proofs.lemmas.List.{length-append}
use Rattle.pl_stn.specs.declared.net.Edge.{Edge}
use Rattle.pl_stn.specs.declared.net.Net.{Net}
use Rattle.pl_stn.specs.Nets.{edges_to_origin}
use Rattle.pl_stn.proofs.Additions.{length-edges_to_origin}
use Rattle.pl_check.specs.Networks.{distance_edges}

pub origin_room : (net : Net) (slots : ℕ) → net.edges ≡ edges_to_origin (2 * slots + 2 - 1) → slots ≤ 16 → length net.edges + 2 ≤ 1000000
origin_room net slots e few =
    let n : length net.edges ≡ 2 * slots + 2 - 1 = ap length e ∙ length-edges_to_origin (2 * slots + 2 - 1) in omega (arith, n, few)

pub parent_room : (net : Net) (slots : ℕ) (from to : ℕ) (low high : ℤ) → net.edges ≡ edges_to_origin (2 * slots + 2 - 1) ++ distance_edges from to low high → slots ≤ 16 → length net.edges ≤ 100
parent_room net slots from to low high e few =
    let n : length net.edges ≡ length (edges_to_origin (2 * slots + 2 - 1) ++ distance_edges from to low high) = ap length e in
    omega (arith, n, few, length-append {A = Edge}, length-edges_to_origin (2 * slots + 2 - 1))
