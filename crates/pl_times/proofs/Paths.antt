-- Walks along causes, which come back to no point.
use Rattle.std.proofs.Common.{◌≡◌, ◌≢◌, ℕ, ◌+◌, ◌<◌, ◌≤◌, ℤ, pos, ◌+ℤ◌, List, [], ◌∷◌, ◌++◌, length, Option, Some, None, refl, sym, subst, arith}
use Rattle.std.specs.Prelude.{All, AllPairs, neg_ℤ}
use Rattle.std.proofs.lemmas.Int.{ints}
use Rattle.std.proofs.lemmas.Bool.{eqb-true}
use Rattle.std.proofs.lemmas.Bool.Decides.{Decides-eqb}
use Rattle.std.proofs.lemmas.List.{length-append}
use Rattle.std.proofs.lemmas.List.Elements.{All-nil, All-cons, All-contains}
use Rattle.std.proofs.lemmas.List.Kept.{AllPairs-cons}
use Rattle.std.proofs.lemmas.Map.Made.{IsDistinct-from_AllPairs}
use Rattle.std.proofs.lemmas.Map.Views.{Contains-from_any}
use Rattle.std.proofs.lemmas.Map.Steps.{length-le_from_distinct_below}
use Rattle.pl_stn.proofs.Walks.{follows_push}
use Rattle.pl_stn.specs.declared.net.Net.{Net}
use Rattle.pl_stn.specs.Nets.{Leads, edge_of, most_of, time_of}
use Rattle.pl_stn.specs.Causes.{Follows, cause_of}
use Rattle.pl_times.specs.Times.{IsHeld, IsJoined, IsPath, points_of}

pub record HasTraced (net : Net) (causes : List (Option ℕ)) (start : ℕ) (walk : List ℕ) (at : ℕ) : Type 0 where
  pub follows : Follows net causes start walk at
  pub within : at < net.points
  pub short : length walk < net.points

length-points : (net : Net) (p : ℕ) (ks : List ℕ) → length (points_of net p ks) ≡ length ks + 1
length-points net p [] = refl
length-points net p (k ∷ ks) = omega (arith, length-points net (edge_of net k).to ks)

module _ (net : Net) (times : List ℤ) (causes : List (Option ℕ)) (joined : IsJoined net) (held : IsHeld net times causes) where
  -- a walk leads to each point that it passes
  reach : (p : ℕ) (ks : List ℕ) (q : ℕ) → Follows net causes p ks q → All (λ x. (w : List ℕ) × Follows net causes p w x) (points_of net p ks)
  reach p [] q f = All-cons (λ x. (w : List ℕ) × Follows net causes p w x) p [] ([], refl) (All-nil (λ x. (w : List ℕ) × Follows net causes p w x))
  reach p (k ∷ ks) q f =
      All-cons (λ x. (w : List ℕ) × Follows net causes p w x) p (points_of net (edge_of net k).to ks) ([], refl)
      (λ i d h. let r = reach (edge_of net k).to ks q f.1 i d h in (k ∷ r.0, (f.0, r.1)))

  -- and passes none twice
  simple : (p : ℕ) (ks : List ℕ) (q : ℕ) → Follows net causes p ks q → AllPairs (λ one other. one ≢ other) (points_of net p ks)
  simple p [] q f = λ i j d before within. absurd (omega arith)
  simple p (k ∷ ks) q f =
      AllPairs-cons (λ one other. one ≢ other) p (points_of net (edge_of net k).to ks)
      (λ i d h same.
      let r = reach (edge_of net k).to ks q f.1 i d h in
      held.acyclic p (k ∷ r.0) (omega arith) (f.0, subst (λ x. Follows net causes (edge_of net k).to r.0 x) (sym same) r.1))
      (simple (edge_of net k).to ks q f.1)

  below : (p : ℕ) (ks : List ℕ) (q : ℕ) → Follows net causes p ks q → q < net.points → All (λ x. x < net.points) (points_of net p ks)
  below p [] q f h = All-cons (λ x. x < net.points) p [] (subst (λ x. x < net.points) (sym f) h) (All-nil (λ x. x < net.points))
  below p (k ∷ ks) q f h =
      let starts = held.caused.starts p k f.0 in
      All-cons (λ x. x < net.points) p (points_of net (edge_of net k).to ks)
      (subst (λ x. x < net.points) starts.start (joined.joins k (record { from = 0; to = 0; most = pos 0 }) starts.edge).0)
      (below (edge_of net k).to ks q f.1 h)

  -- so a walk has fewer edges than there are points
  few : (p : ℕ) (ks : List ℕ) (q : ℕ) → Follows net causes p ks q → q < net.points → length ks < net.points
  few p ks q f h =
      let most : length (points_of net p ks) ≤ net.points =
      length-le_from_distinct_below (points_of net p ks) net.points (IsDistinct-from_AllPairs Decides-eqb (points_of net p ks) (simple p ks q f))
      (λ x found. All-contains (λ y. y < net.points) (points_of net p ks) x (below p ks q f h) (Contains-from_any (λ a b. eqb-true a b) x (points_of net p ks) found)) in
      omega (arith, length-points net p ks, most)

  -- along causes the times differ by just what the edges allow
  exact : (p : ℕ) (ks : List ℕ) (q : ℕ) → Follows net causes p ks q → (time_of times p +ℤ most_of net ks) ≡ time_of times q
  exact p [] q f = subst (λ x. (time_of times p +ℤ pos 0) ≡ time_of times x) f (omega (arith, ints))
  exact p (k ∷ ks) q f = omega (arith, ints, held.tight p k f.0, exact (edge_of net k).to ks q f.1)

  leads : (p : ℕ) (ks : List ℕ) (q : ℕ) → Follows net causes p ks q → Leads net p ks q
  leads p [] q f = f
  leads p (k ∷ ks) q f = ((held.caused.starts p k f.0).start, leads (edge_of net k).to ks q f.1)

  edges : (p : ℕ) (ks : List ℕ) (q : ℕ) → Follows net causes p ks q → All (λ k. k < length net.edges) ks
  edges p [] q f = All-nil (λ k. k < length net.edges)
  edges p (k ∷ ks) q f = All-cons (λ k. k < length net.edges) k ks (held.caused.starts p k f.0).edge (edges (edge_of net k).to ks q f.1)

  pub traced_more : (start : ℕ) (walk : List ℕ) (at k : ℕ) → HasTraced net causes start walk at → cause_of causes at ≡ Some k → HasTraced net causes start (walk ++ k ∷ []) (edge_of net k).to × (length walk + 1 < net.points)
  traced_more start walk at k t e =
      let more = follows_push net causes start walk at k t.follows e in
      let within = (joined.joins k (record { from = 0; to = 0; most = pos 0 }) (held.caused.starts at k e).edge).1 in
      let short = few start (walk ++ k ∷ []) (edge_of net k).to more within in
      (record { follows = more; within = within; short = short }, omega (arith, short, length-append walk (k ∷ [])))

  pub traced_all : (start : ℕ) (walk : List ℕ) (at : ℕ) → time_of times 0 ≡ pos 0 → HasTraced net causes start walk at → cause_of causes at ≡ None → IsPath net start 0 (neg_ℤ (time_of times start)) walk
  traced_all start walk at begins t e =
      let root = held.rooted at t.within e in
      let follows = subst (λ x. Follows net causes start walk x) root t.follows in
      record {
        edges = edges start walk 0 follows;
        leads = leads start walk 0 follows;
        simple = simple start walk 0 follows;
        sum = omega (arith, ints, exact start walk 0 follows, begins);
      }

pub traced_none : (net : Net) (causes : List (Option ℕ)) (p : ℕ) (walk : List ℕ) → walk ≡ [] → p < net.points → HasTraced net causes p walk p
traced_none net causes p walk none h = rw none (record { follows = refl; within = h; short = omega arith })
