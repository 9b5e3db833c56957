-- Walks that grow by an edge, and marks at the points where their edges start.
use Rattle.std.proofs.Common.{◌≡◌, ◌≢◌, ⊎_elim, ℕ, ◌<◌, ℤ, pos, ◌+ℤ◌, ◌<ℤ◌, List, [], ◌∷◌, ◌++◌, length, set, true, false, Bool, refl, sym, ◌∙◌, subst, arith}
use Rattle.std.specs.Prelude.{All, slice_index_or, replicate}
use Rattle.std.proofs.lemmas.Int.{ints}
use Rattle.std.proofs.lemmas.Bool.{cases_eq}
use Rattle.std.proofs.lemmas.List.{get_or-set_same, get_or-set_other, length-set, length-replicate}
use Rattle.std.proofs.lemmas.List.Elements.{All-nil, All-push, All-weaker}
use Rattle.std.proofs.lemmas.List.Quantifiers.{all_pairs_push}
use Rattle.pl_stn.specs.declared.net.Net.{Net}
use Rattle.pl_stn.specs.Nets.{IsNegativeCycle, Leads, edge_of}
use Rattle.pl_times.specs.Walks.{IsWalk, Steps}
use Rattle.pl_times.proofs.Turning.{leads_push, most_push}

-- the point where each edge of the walk starts is marked
pub record HasMarked (net : Net) (start : ℕ) (marks : List Bool) (ks : List ℕ) (at : ℕ) (sum : ℤ) : Type 0 where
  pub each_point : length marks ≡ net.points
  pub walk : IsWalk net start ks at sum
  pub marked : All (λ k. slice_index_or marks (edge_of net k).from false ≡ true) ks

pub marked_none : (net : Net) (start : ℕ) (marks : List Bool) → marks ≡ replicate net.points false → HasMarked net start marks [] start (pos 0)
marked_none net start marks none = record {
  each_point = rw none (length-replicate {A = Bool} net.points false);
  walk = record { edges = All-nil (λ k. k < length net.edges); leads = refl; simple = λ i j d before within. absurd (omega arith); adds = refl };
  marked = All-nil (λ k. slice_index_or marks (edge_of net k).from false ≡ true);
}

marked_more : (net : Net) (start : ℕ) (marks : List Bool) (ks : List ℕ) (at : ℕ) (sum : ℤ) (k : ℕ) → HasMarked net start marks ks at sum → k < length net.edges → (edge_of net k).from ≡ at → at < length marks → slice_index_or marks at false ≡ false → HasMarked net start (set marks at true) (ks ++ k ∷ []) (edge_of net k).to (sum +ℤ (edge_of net k).most)
marked_more net start marks ks at sum k h within from in_range free = record {
  each_point = rw length-set h.each_point;
  walk = record {
    edges = All-push (λ j. j < length net.edges) ks k h.walk.edges within;
    leads = leads_push net start ks at k h.walk.leads from;
    simple = all_pairs_push (λ j i. (edge_of net j).from ≢ (edge_of net i).from) ks k h.walk.simple
        (All-weaker (λ j. slice_index_or marks (edge_of net j).from false ≡ true) (λ j. (edge_of net j).from ≢ (edge_of net k).from)
        (λ j is same. let there : slice_index_or marks at false ≡ true = subst (λ p. slice_index_or marks p false ≡ true) (same ∙ from) is in absurd (cc))
        ks h.marked);
    adds = omega (arith, ints, most_push net ks k, h.walk.adds);
  };
  marked = All-push (λ j. slice_index_or (set marks at true) (edge_of net j).from false ≡ true) ks k
      (All-weaker (λ j. slice_index_or marks (edge_of net j).from false ≡ true) (λ j. slice_index_or (set marks at true) (edge_of net j).from false ≡ true)
      (λ j is.
      ⊎_elim
      (λ (same : (edge_of net j).from ≡ at). subst (λ p. slice_index_or (set marks at true) p false ≡ true) (sym same) (get_or-set_same marks at true false in_range))
      (λ (other : (edge_of net j).from ≢ at). get_or-set_other marks at (edge_of net j).from true false other ∙ is)
      (cases_eq (edge_of net j).from at))
      ks h.marked)
      (subst (λ p. slice_index_or (set marks at true) p false ≡ true) (sym from) (get_or-set_same marks at true false in_range));
}

pub marked_step : (net : Net) (start : ℕ) (marks marks' : List Bool) (ks : List ℕ) (at : ℕ) (sum : ℤ) (k to : ℕ) (sum' : ℤ) → HasMarked net start marks ks at sum → Steps net marks marks' at sum k to sum' → HasMarked net start marks' (ks ++ k ∷ []) to sum'
marked_step net start marks marks' ks at sum k to sum' h s =
    rw (s.marked, s.leads, s.adds) (marked_more net start marks ks at sum k h s.edge s.from s.within s.free)

pub cycle_from : (net : Net) (start : ℕ) (ks : List ℕ) (at : ℕ) (sum : ℤ) → 0 < length ks → IsWalk net start ks at sum → at ≡ start → sum <ℤ pos 0 → IsNegativeCycle net ks
cycle_from net start ks at sum some w round negative = record {
  some = some;
  edges = w.edges;
  closed = (start, subst (λ p. Leads net start ks p) round w.leads);
  simple = w.simple;
  negative = omega (arith, ints, w.adds, negative);
}
