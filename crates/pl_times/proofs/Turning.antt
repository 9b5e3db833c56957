-- A path of a mirrored net, read backwards, is a path of the net.
use Rattle.std.proofs.Common.{◌≡◌, ◌≢◌, ℕ, zero, suc, ◌-◌, ◌<◌, ℤ, pos, ◌+ℤ◌, List, [], ◌∷◌, ◌++◌, length, get_or, map, refl, sym, ap, ◌∙◌, subst, arith}
use Rattle.std.specs.Prelude.{AllPairs, reverse}
use Rattle.std.proofs.lemmas.Int.{ints}
use Rattle.std.proofs.lemmas.Grind.{reverse_onto}
use Rattle.std.proofs.lemmas.List.{length-map, length-reverse, get_or-reverse}
use Rattle.std.proofs.lemmas.List.Sorted.{IsPermutation-reverse, All-permutation}
use Rattle.pl_stn.specs.declared.net.Edge.{Edge}
use Rattle.pl_stn.specs.declared.net.Net.{Net}
use Rattle.pl_stn.specs.Nets.{Leads, edge_of, most_of}
use Rattle.pl_times.specs.Times.{IsPath, points_of}
use Rattle.pl_times.specs.Mirror.{mirrored, turn}

edge_in : (es : List Edge) (k : ℕ) → get_or (map turn es) k (record { from = 0; to = 0; most = pos 0 }) ≡ turn (get_or es k (record { from = 0; to = 0; most = pos 0 }))
edge_in [] k = refl
edge_in (e ∷ es) zero = refl
edge_in (e ∷ es) (suc k) = edge_in es k

pub edge_turned : (net : Net) (k : ℕ) → edge_of (mirrored net) k ≡ turn (edge_of net k)
edge_turned net k = edge_in net.edges k

from_turned : (net : Net) (k : ℕ) → (edge_of (mirrored net) k).from ≡ (edge_of net k).to
from_turned net k = ap (λ (e : Edge). e.from) (edge_turned net k)

pub to_turned : (net : Net) (k : ℕ) → (edge_of (mirrored net) k).to ≡ (edge_of net k).from
to_turned net k = ap (λ (e : Edge). e.to) (edge_turned net k)

most_turned : (net : Net) (k : ℕ) → (edge_of (mirrored net) k).most ≡ (edge_of net k).most
most_turned net k = ap (λ (e : Edge). e.most) (edge_turned net k)

-- ---- a walk with one more edge

pub leads_push : (net : Net) (p : ℕ) (ks : List ℕ) (q k : ℕ) → Leads net p ks q → (edge_of net k).from ≡ q → Leads net p (ks ++ k ∷ []) (edge_of net k).to
leads_push net p [] q k l e = (e ∙ sym l, refl)
leads_push net p (j ∷ ks) q k l e = (l.0, leads_push net (edge_of net j).to ks q k l.1 e)

points_push : (net : Net) (p : ℕ) (ks : List ℕ) (k : ℕ) → points_of net p (ks ++ k ∷ []) ≡ points_of net p ks ++ (edge_of net k).to ∷ []
points_push net p [] k = refl
points_push net p (j ∷ ks) k = ap (λ xs. p ∷ xs) (points_push net (edge_of net j).to ks k)

pub most_push : (net : Net) (ks : List ℕ) (k : ℕ) → most_of net (ks ++ k ∷ []) ≡ (edge_of net k).most +ℤ most_of net ks
most_push net [] k = refl
most_push net (j ∷ ks) k = omega (arith, ints, most_push net ks k)

-- ---- a walk read backwards

leads_back : (net : Net) (p : ℕ) (ks : List ℕ) (q : ℕ) → Leads (mirrored net) p ks q → Leads net q (reverse ks) p
leads_back net p [] q l = sym l
leads_back net p (k ∷ ks) q l =
    let rest : Leads net q (reverse ks) (edge_of (mirrored net) k).to = leads_back net (edge_of (mirrored net) k).to ks q l.1 in
    let more = leads_push net q (reverse ks) (edge_of (mirrored net) k).to k rest (sym (to_turned net k)) in
    rw (reverse_onto ks k []) (subst (λ x. Leads net q (reverse ks ++ k ∷ []) x) (sym (from_turned net k) ∙ l.0) more)

points_back : (net : Net) (p : ℕ) (ks : List ℕ) (q : ℕ) → Leads (mirrored net) p ks q → points_of net q (reverse ks) ≡ reverse (points_of (mirrored net) p ks)
points_back net p [] q l = ap (λ x. x ∷ []) (sym l)
points_back net p (k ∷ ks) q l =
    let rest = points_back net (edge_of (mirrored net) k).to ks q l.1 in
    let last : (edge_of net k).to ≡ p = sym (from_turned net k) ∙ l.0 in
    rw (reverse_onto ks k [], reverse_onto (points_of (mirrored net) (edge_of (mirrored net) k).to ks) p [])
    (points_push net q (reverse ks) k ∙ ap (λ xs. xs ++ (edge_of net k).to ∷ []) rest ∙ ap (λ x. reverse (points_of (mirrored net) (edge_of (mirrored net) k).to ks) ++ x ∷ []) last)

most_back : (net : Net) (ks : List ℕ) → most_of net (reverse ks) ≡ most_of (mirrored net) ks
most_back net [] = refl
most_back net (k ∷ ks) =
    rw (reverse_onto ks k []) (omega (arith, ints, most_push net (reverse ks) k, most_back net ks, most_turned net k))

pairs_back : (xs : List ℕ) → AllPairs (λ one other. one ≢ other) xs → AllPairs (λ one other. one ≢ other) (reverse xs)
pairs_back xs apart i j d before within same =
    let short : j < length xs = rw length-reverse at within in
    let first = get_or-reverse xs i d (omega arith) in
    let second = get_or-reverse xs j d short in
    apart (length xs - 1 - j) (length xs - 1 - i) d (omega arith) (omega arith) (sym second ∙ sym same ∙ first)

pub path_back : (net : Net) (p q : ℕ) (most : ℤ) (ks : List ℕ) → IsPath (mirrored net) p q most ks → IsPath net q p most (reverse ks)
path_back net p q most ks path = record {
  edges = All-permutation (λ k. k < length net.edges) ks (reverse ks) (IsPermutation-reverse ks) (λ i d h. subst (λ n. get_or ks i d < n) (length-map {A = Edge} {B = Edge} net.edges turn) (path.edges i d h));
  leads = leads_back net p ks q path.leads;
  simple = subst (λ xs. AllPairs (λ one other. one ≢ other) xs) (sym (points_back net p ks q path.leads)) (pairs_back (points_of (mirrored net) p ks) path.simple);
  sum = most_back net ks ∙ path.sum;
}
