-- No parameter depends on itself, and no kind contains itself: only a scan contains others, and these are shots.
use Rattle.std.proofs.Common.{◌≡◌, ℕ, zero, suc, ◌<◌, [], ◌∷◌, All, Contains, get_or, refl, sym, subst, arith}
use Rattle.std.proofs.lemmas.List.Elements.{All-from_recursion}
use Rattle.pl_check.specs.declared.drafts.DraftKind.{DraftKind}
use Rattle.pl_check.specs.Cycles.{Graph, successors, Walk, Reaches, IsAcyclic}
use Rattle.pl_check.specs.Dependencies.{param_graph, IsWellFounded, AreWellFounded, AreUncontained}
use Rattle.pl_check.proofs.CycleLemmas.{none_below}
use Rattle.pl_report.proofs.AboutDemonstration.Drafts.{obs_kind, shot_kind, charge_kind, scan_kind, draft_kinds}

-- ---- parameters: there are none

no_params : (k : DraftKind) → param_graph k ≡ [] → IsWellFounded k
no_params k none = record { acyclic = subst IsAcyclic (sym none) (none_below []) }

pub demo_well_founded : AreWellFounded draft_kinds
demo_well_founded = All-from_recursion IsWellFounded draft_kinds (no_params obs_kind refl, (no_params shot_kind refl, (no_params charge_kind refl, (no_params scan_kind refl, tt))))

-- ---- kinds

abbrev demo_graph : Graph
demo_graph = [] ∷ [] ∷ [] ∷ (1 ∷ 1 ∷ []) ∷ []

in_pair : (k b : ℕ) → k < 2 → get_or (1 ∷ 1 ∷ []) k b ≡ b → b ≡ 1
in_pair zero b less is = sym is
in_pair (suc zero) b less is = sym is
in_pair (suc (suc k)) b less is = absurd (omega (arith, less))

edge_is : (c b : ℕ) → Contains (successors demo_graph c) b → (c ≡ 3) × (b ≡ 1)
edge_is zero b edge = absurd (omega (arith, edge.1))
edge_is (suc zero) b edge = absurd (omega (arith, edge.1))
edge_is (suc (suc zero)) b edge = absurd (omega (arith, edge.1))
edge_is (suc (suc (suc zero))) b edge = (refl, in_pair edge.0 b edge.1 edge.2)
edge_is (suc (suc (suc (suc c)))) b edge = absurd (omega (arith, edge.1))

-- no edges lead from a shot to a scan
no_way : (edges a c : ℕ) → Walk demo_graph a edges c → a ≡ 1 → c ≡ 3 → ⊥
no_way zero a c walk one three = omega (arith, walk, one, three)
no_way (suc edges) a c walk one three = omega (arith, (edge_is walk.0 c walk.2).1, three)

no_loop : (a : ℕ) → Reaches demo_graph a a → ⊥
no_loop a loop =
    let last = edge_is loop.walk.0 a loop.walk.2 in
    no_way loop.edges a loop.walk.0 loop.walk.1 last.1 last.0

pub demo_uncontained : AreUncontained draft_kinds
demo_uncontained = record { each = λ a less loop. no_loop a loop }
