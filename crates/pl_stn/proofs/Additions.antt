-- The net of the edges to the origin is well formed, and stays so when an edge is added.
use Rattle.std.proofs.Common.{◌≡◌, ◌≢◌, ⊎_elim, ℕ, suc, zero, ◌-◌, ◌<◌, ◌≤◌, pos, negsuc, ◌≤ℤ◌, [], ◌∷◌, ◌++◌, length, refl, sym, subst, arith}
use Rattle.std.specs.Prelude.{All, Contains}
use Rattle.std.proofs.lemmas.Int.{ints}
use Rattle.std.proofs.lemmas.Bool.{cases_eq}
use Rattle.std.proofs.lemmas.List.{length-append}
use Rattle.std.proofs.lemmas.List.Elements.{All-nil, All-push, Contains-push, Contains-append_left}
use Rattle.pl_stn.specs.declared.net.Edge.{Edge}
use Rattle.pl_stn.specs.declared.net.Net.{Net}
use Rattle.pl_stn.specs.Nets.{IsWellFormed, edges_to_origin}

pub well_formed_more : (net : Net) (e : Edge) → IsWellFormed net → length net.edges < 1000000 → (e.from < net.points) × (e.to < net.points) → (negsuc 99999999 ≤ℤ e.most) × (e.most ≤ℤ pos 100000000) → IsWellFormed (record { points = net.points; edges = net.edges ++ e ∷ [] })
well_formed_more net e w room joins small = record {
  origin = w.origin;
  few_points = w.few_points;
  few_edges = rw length-append (omega arith);
  joins = All-push (λ x. (x.from < net.points) × (x.to < net.points)) net.edges e w.joins joins;
  small = All-push (λ x. (negsuc 99999999 ≤ℤ x.most) × (x.most ≤ℤ pos 100000000)) net.edges e w.small small;
  after_origin = λ p away within. Contains-append_left net.edges (e ∷ []) _ (w.after_origin p away within);
}

pub length-edges_to_origin : (n : ℕ) → length (edges_to_origin n) ≡ n
length-edges_to_origin zero = refl
length-edges_to_origin (suc n) = omega (arith, length-append (edges_to_origin n) (record { from = suc n; to = 0; most = pos 0 } ∷ []), length-edges_to_origin n)

joins_to_origin : (n points : ℕ) → n < points → All (λ e. (e.from < points) × (e.to < points)) (edges_to_origin n)
joins_to_origin zero points h = All-nil (λ e. (e.from < points) × (e.to < points))
joins_to_origin (suc n) points h = All-push (λ e. (e.from < points) × (e.to < points)) (edges_to_origin n) (record { from = suc n; to = 0; most = pos 0 }) (joins_to_origin n points (omega arith)) (h, omega arith)

small_to_origin : (n : ℕ) → All (λ e. (negsuc 99999999 ≤ℤ e.most) × (e.most ≤ℤ pos 100000000)) (edges_to_origin n)
small_to_origin zero = All-nil (λ e. (negsuc 99999999 ≤ℤ e.most) × (e.most ≤ℤ pos 100000000))
small_to_origin (suc n) = All-push (λ e. (negsuc 99999999 ≤ℤ e.most) × (e.most ≤ℤ pos 100000000)) (edges_to_origin n) (record { from = suc n; to = 0; most = pos 0 }) (small_to_origin n) (omega (arith, ints), omega (arith, ints))

contains_to_origin : (n p : ℕ) → 0 < p → p ≤ n → Contains (edges_to_origin n) (record { from = p; to = 0; most = pos 0 })
contains_to_origin zero p a h = absurd (omega arith)
contains_to_origin (suc n) p a h =
    ⊎_elim
    (λ (same : p ≡ suc n). subst (λ x. Contains (edges_to_origin (suc n)) (record { from = x; to = 0; most = pos 0 })) (sym same) (Contains-push (edges_to_origin n) _))
    (λ (other : p ≢ suc n). Contains-append_left (edges_to_origin n) _ _ (contains_to_origin n p a (omega arith)))
    (cases_eq p (suc n))

pub well_formed_first : (points : ℕ) → 0 < points → points ≤ 20001 → IsWellFormed (record { points = points; edges = edges_to_origin (points - 1) })
well_formed_first points some few = record {
  origin = some;
  few_points = few;
  few_edges = omega (arith, length-edges_to_origin (points - 1));
  joins = joins_to_origin (points - 1) points (omega arith);
  small = small_to_origin (points - 1);
  after_origin = λ p away within. contains_to_origin (points - 1) p away (omega arith);
}
