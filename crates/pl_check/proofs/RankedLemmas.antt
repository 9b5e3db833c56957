-- The parameters of a kind and the kinds of a model have ranks, where none depends on itself or contains itself.
use Rattle.std.proofs.Common.{◌≡◌, ℕ, ◌<◌, ℤ, List, [], ◌∷◌, Contains, All, length, map, get_or, sym, ap, subst, ◌∙◌, arith}
use Rattle.std.specs.Prelude.{option_map}
use Rattle.std.specs.List.{flat_map}
use Rattle.std.proofs.lemmas.List.{length-map, get_or-map}
use Rattle.std.proofs.lemmas.List.Elements.{All-nil, All-cons, All-weaker, All-contains_itself, Contains-append_left, Contains-append_right}
use Rattle.std.proofs.lemmas.Option.{slice_get-get_or, slice_get-map, get_or_from_slice_get}
use Rattle.pl_model.specs.declared.parameters.Origin.{Origin}
use Rattle.pl_model.specs.declared.parameters.Origin.TheVariants.{Free, Dependent}
use Rattle.pl_model.specs.declared.alternatives.Slot.{Slot}
use Rattle.pl_model.specs.declared.alternatives.Alternative.{Alternative}
use Rattle.pl_model.specs.declared.kinds.Kind.{Kind}
use Rattle.pl_model.specs.Checked.{IsOrigin, IsCheckedParam, IsOriginRanked, AreParamsRanked, IsSlotRanked, IsAlternativeRanked, AreKindsRanked}
use Rattle.pl_check.specs.declared.drafts.DraftAlternative.{DraftAlternative}
use Rattle.pl_check.specs.declared.drafts.DraftKind.{DraftKind}
use Rattle.pl_check.specs.Cycles.{Graph, successors}
use Rattle.pl_check.specs.Dependencies.{needs_of, param_needs, param_graph, slot_kind, alternative_kinds, contained_kinds, kind_graph, IsWellFounded, AreUncontained}
use Rattle.pl_lists.specs.Lists.{Pairwise}
use Rattle.pl_check.specs.Networks.{FinishesAlternative, FinishesKind, span_of}
use Rattle.pl_lists.proofs.Listing.{pairwise_length}
use Rattle.pl_check.proofs.PairLemmas.{pair_all, pair_back, all_both}
use Rattle.pl_check.proofs.RankLemmas.{rank_of, rank_below, rank_falls}
use Rattle.pl_check.proofs.ExpressionLemmas.{names_ranked}

-- ---- parameters

origin_ranked : (rank : ℕ → ℕ) (r n : ℕ) (low high : ℤ) (o : Origin) → IsOrigin n low high o → ((q : ℕ) → q < n → Contains (needs_of o) q → rank q < r) → IsOriginRanked rank r o
origin_ranked rank r n low high (Free default) h f = tt
origin_ranked rank r n low high (Dependent e) h f = names_ranked rank r n e h f

pub params_ranked : (k : DraftKind) → IsWellFounded k → All (IsCheckedParam (length k.params)) k.params → AreParamsRanked k.params
params_ranked k w all =
    let graph : Graph = param_graph k in
    let many : length graph ≡ length k.params = length-map k.params param_needs in
    record {
      rank = rank_of graph;
      below = λ p lt. let found = rank_below graph w.acyclic p (omega (arith, lt, many)) in omega (arith, found, many);
      falls = λ p d lt.
          let param = get_or k.params p d in
          let row : successors graph p ≡ param_needs param = get_or-map param_needs k.params p d [] lt in
          origin_ranked (rank_of graph) (rank_of graph p) (length k.params) param.low param.high param.origin (all p d lt).origin
          (λ q lt_q at. rank_falls graph w.acyclic p q (omega (arith, lt_q, many)) (subst (λ ps. Contains ps q) (sym row) at));
    }

-- ---- kinds

mapped_contains : {X : Type 0} (f : X → ℕ) (xs : List X) → All (λ x. Contains (map f xs) (f x)) xs
mapped_contains f xs = λ k d lt.
    let many : length (map f xs) ≡ length xs = length-map xs f in
    subst (λ n. Contains (map f xs) n) (get_or-map f xs k d (f d) lt) (All-contains_itself (map f xs) k (f d) (omega (arith, lt, many)))

slots_contained : (alternatives : List DraftAlternative) → All (λ a. All (λ s. Contains (flat_map alternative_kinds alternatives) (slot_kind s)) a.slots) alternatives
slots_contained [] = All-nil (λ a. All (λ s. Contains (flat_map alternative_kinds []) (slot_kind s)) a.slots)
slots_contained (a ∷ alternatives) =
    All-cons (λ x. All (λ s. Contains (flat_map alternative_kinds (a ∷ alternatives)) (slot_kind s)) x.slots) a alternatives
    (All-weaker (λ s. Contains (alternative_kinds a) (slot_kind s)) (λ s. Contains (flat_map alternative_kinds (a ∷ alternatives)) (slot_kind s)) (λ s c. Contains-append_left (alternative_kinds a) (flat_map alternative_kinds alternatives) (slot_kind s) c) a.slots (mapped_contains slot_kind a.slots))
    (All-weaker (λ x. All (λ s. Contains (flat_map alternative_kinds alternatives) (slot_kind s)) x.slots) (λ x. All (λ s. Contains (flat_map alternative_kinds (a ∷ alternatives)) (slot_kind s)) x.slots)
    (λ x h. All-weaker (λ s. Contains (flat_map alternative_kinds alternatives) (slot_kind s)) (λ s. Contains (flat_map alternative_kinds (a ∷ alternatives)) (slot_kind s)) (λ s c. Contains-append_right (alternative_kinds a) (flat_map alternative_kinds alternatives) (slot_kind s) c) x.slots h)
    alternatives (slots_contained alternatives))

-- each slot of the kind has a kind below n
abbrev pub HasSlotsBelow : ℕ → Kind → Type 0
HasSlotsBelow n m = All (λ (a : Alternative). All (λ (s : Slot). s.kind < n) a.slots) m.alternatives

module _ (horizon : ℤ) (spans : List (ℤ × ℤ)) where
  kind_contains : (d : DraftKind) (m : Kind) → FinishesKind horizon spans d m → All (λ (a : Alternative). All (λ (s : Slot). Contains (contained_kinds d) s.kind) a.slots) m.alternatives
  kind_contains d m f =
      pair_all (FinishesAlternative spans (span_of horizon d)) (λ a. All (λ s. Contains (contained_kinds d) (slot_kind s)) a.slots) (λ a. All (λ s. Contains (contained_kinds d) s.kind) a.slots)
      (λ a b h g. subst (All (λ s. Contains (contained_kinds d) s.kind)) (sym g.slots) h) d.alternatives m.alternatives (slots_contained d.alternatives) f.alternatives

  pub kinds_ranked : (drafts : List DraftKind) (kinds : List Kind) → AreUncontained drafts → Pairwise (FinishesKind horizon spans) drafts kinds → All (HasSlotsBelow (length kinds)) kinds → AreKindsRanked kinds
  kinds_ranked drafts kinds u pairs all =
      let graph : Graph = kind_graph drafts in
      let many : length graph ≡ length drafts = length-map drafts contained_kinds in
      let same : length kinds ≡ length drafts = pairwise_length (FinishesKind horizon spans) drafts kinds pairs in
      record {
        rank = rank_of graph;
        below = λ k lt. let found = rank_below graph u k (omega (arith, lt, many, same)) in omega (arith, found, many, same);
        falls = λ k x lt.
            let m = get_or kinds k x in
            let d = pair_back (FinishesKind horizon spans) drafts kinds k m pairs (slice_get-get_or kinds k x lt) in
            let row : successors graph k ≡ contained_kinds d.0 = get_or_from_slice_get graph k (contained_kinds d.0) [] (slice_get-map contained_kinds drafts k ∙ ap (option_map contained_kinds) d.1) in
            All-weaker (λ a. All (λ s. Contains (contained_kinds d.0) s.kind) a.slots × All (λ s. s.kind < length kinds) a.slots) (IsAlternativeRanked (rank_of graph) (rank_of graph k))
            (λ a both. All-weaker (λ s. Contains (contained_kinds d.0) s.kind × (s.kind < length kinds)) (IsSlotRanked (rank_of graph) (rank_of graph k))
            (λ s h. rank_falls graph u k s.kind (omega (arith, h.1, many, same)) (subst (λ ks. Contains ks s.kind) (sym row) h.0)) a.slots (all_both (λ s. Contains (contained_kinds d.0) s.kind) (λ s. s.kind < length kinds) a.slots both.0 both.1))
            m.alternatives (all_both (λ a. All (λ s. Contains (contained_kinds d.0) s.kind) a.slots) (λ a. All (λ s. s.kind < length kinds) a.slots) m.alternatives (kind_contains d.0 m d.2) (all k x lt));
      }
