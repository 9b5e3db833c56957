-- All solutions of a well-formed net lie between a floor and a ceiling.
use Rattle.std.proofs.Common.{◌≡◌, ◌≢◌, ⊎_elim, ◌<◌, ℤ, pos, negsuc, ◌-ℤ◌, ◌<ℤ◌, true, length, List, sym, subst, arith}
use Rattle.std.proofs.lemmas.Int.{ints}
use Rattle.std.proofs.lemmas.Bool.{cases_eq}
use Rattle.std.proofs.lemmas.List.{get_or_default}
use Rattle.std.specs.List.{list_all}
use Rattle.std.proofs.lemmas.List.Elements.{All-contains, All-weaker}
use Rattle.std.proofs.lemmas.List.Sums.{AllPass-from_list_all}
use Rattle.pl_lists.proofs.Numbers.{le_from_test}
use Rattle.pl_stn.specs.declared.net.Net.{Net}
use Rattle.pl_stn.specs.Nets.{IsWellFormed, IsSolution, Meets, time_of}
use Rattle.pl_times.specs.Times.{IsJoined, IsSmall, AreSmall, IsAboveAll, IsBelowAll, is_met}
use Rattle.pl_times.specs.Settling.{IsKnown}
use Rattle.pl_times.specs.Mirror.{IsKnownBelow}

pub joined_from : (net : Net) → IsWellFormed net → IsJoined net
joined_from net w = record { origin = w.origin; few_points = w.few_points; few_edges = w.few_edges; joins = w.joins; small = w.small }

pub below_all : (net : Net) → IsWellFormed net → IsBelowAll net (negsuc 0)
below_all net w times s p h =
    ⊎_elim
    (λ (same : p ≡ 0). subst (λ x. negsuc 0 <ℤ time_of times x) (sym same) (omega (arith, ints, s.origin)))
    (λ (other : p ≢ 0).
    let met = All-contains (Meets times) net.edges (record { from = p; to = 0; most = pos 0 }) s.meets (w.after_origin p (omega arith) h) in
    omega (arith, ints, met, s.origin))
    (cases_eq p 0)

-- times that pass all tests are a solution
pub solution_from_tests : (net : Net) (times : List ℤ) → length times ≡ net.points → time_of times 0 ≡ pos 0 → list_all (is_met times) net.edges ≡ true → IsSolution net times
solution_from_tests net times each_point origin passes = record {
  each_point = each_point;
  origin = origin;
  meets =
      All-weaker (λ e. is_met times e ≡ true) (Meets times)
      (λ e met. le_from_test (time_of times e.to -ℤ time_of times e.from) e.most met)
      net.edges (AllPass-from_list_all (is_met times) net.edges passes);
}

small_known : (net : Net) (known : List ℤ) (ceiling : ℤ) → IsWellFormed net → IsSolution net known → IsSmall ceiling → IsAboveAll net ceiling → AreSmall known
small_known net known ceiling w s small above p d h =
    let within : p < net.points = omega (arith, s.each_point) in
    let low = below_all net w known s p within in
    let high = above known s p within in
    rw (get_or_default known p d (pos 0) h) (omega (arith, ints, low), omega (arith, ints, high, small.1))

pub known_from : (net : Net) (known : List ℤ) (ceiling : ℤ) → IsWellFormed net → IsSolution net known → IsSmall ceiling → IsAboveAll net ceiling → IsKnown net known (negsuc 0)
known_from net known ceiling w s small above = record {
  joined = joined_from net w;
  solution = s;
  small = small_known net known ceiling w s small above;
  floor_small = (omega (arith, ints), omega (arith, ints));
  below = below_all net w;
}

pub known_below_from : (net : Net) (known : List ℤ) (ceiling : ℤ) → IsWellFormed net → IsSolution net known → IsSmall ceiling → IsAboveAll net ceiling → IsKnownBelow net known ceiling
known_below_from net known ceiling w s small above = record {
  joined = joined_from net w;
  solution = s;
  small = small_known net known ceiling w s small above;
  ceiling_small = small;
  above = above;
}
