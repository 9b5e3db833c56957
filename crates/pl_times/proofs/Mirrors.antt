-- The solutions of a mirrored net are those of the net, negated.
use Rattle.std.proofs.Common.{◌≡◌, ℕ, zero, suc, ◌<◌, ◌≤◌, ℤ, pos, negsuc, ◌≤ℤ◌, List, [], ◌∷◌, map, refl, sym, ap, ◌∙◌, subst, arith}
use Rattle.std.specs.Prelude.{All, neg_ℤ}
use Rattle.std.proofs.lemmas.Int.{ints}
use Rattle.std.proofs.lemmas.List.{length-map}
use Rattle.pl_stn.specs.declared.net.Edge.{Edge}
use Rattle.pl_stn.specs.declared.net.Net.{Net}
use Rattle.pl_stn.specs.Nets.{IsSolution, IsLeast, Meets, time_of}
use Rattle.pl_times.specs.Times.{AreSmall}
use Rattle.pl_times.specs.Settling.{IsKnown}
use Rattle.pl_times.specs.Mirror.{IsKnownBelow, mirrored, negated, turn}
use Rattle.pl_times.specs.Times.{IsGreatest, IsJoined}
use Rattle.pl_times.specs.declared.timing.Timing.{Timing}
use Rattle.pl_times.specs.Bounded.{IsEarly, IsLate}

pub time-negated : (ts : List ℤ) (p : ℕ) → time_of (negated ts) p ≡ neg_ℤ (time_of ts p)
time-negated [] p = refl
time-negated (t ∷ ts) zero = refl
time-negated (t ∷ ts) (suc p) = time-negated ts p

meets-turned : (ts : List ℤ) (es : List Edge) → All (Meets ts) es → All (Meets (negated ts)) (map turn es)
meets-turned ts [] a k d h = absurd (omega (arith, h))
meets-turned ts (e ∷ es) a zero d h =
    omega (arith, ints, a zero e (omega arith), time-negated ts e.from, time-negated ts e.to)
meets-turned ts (e ∷ es) a (suc k) d h = meets-turned ts es (λ i x l. a (suc i) x (omega (arith, l))) k d (omega (arith, h))

pub turned-turned : (es : List Edge) → map turn (map turn es) ≡ es
turned-turned [] = refl
turned-turned (e ∷ es) = ap (λ l. e ∷ l) (turned-turned es)

pub solution-mirrored : (net : Net) (ts : List ℤ) → IsSolution net ts → IsSolution (mirrored net) (negated ts)
solution-mirrored net ts s = record {
  each_point = length-map {A = ℤ} {B = ℤ} ts neg_ℤ ∙ s.each_point;
  origin = omega (arith, ints, time-negated ts 0, s.origin);
  meets = meets-turned ts net.edges s.meets;
}

pub solution-back : (net : Net) (ts : List ℤ) → IsSolution (mirrored net) ts → IsSolution net (negated ts)
solution-back net ts s =
    let twice = solution-mirrored (mirrored net) ts s in
    record { each_point = twice.each_point; origin = twice.origin; meets = subst (λ es. All (Meets (negated ts)) es) (turned-turned net.edges) twice.meets }

pub greatest-back : (net : Net) (ts : List ℤ) → IsLeast (mirrored net) ts → IsGreatest net (negated ts)
greatest-back net ts least others s p h =
    omega (arith, ints, least (negated others) (solution-mirrored net others s) p h, time-negated others p, time-negated ts p)

joined-turned : (n : ℕ) (es : List Edge) → All (λ e. (e.from < n) × (e.to < n)) es → All (λ e. (e.from < n) × (e.to < n)) (map turn es)
joined-turned n [] a k d h = absurd (omega (arith, h))
joined-turned n (e ∷ es) a zero d h = let one = a zero e (omega arith) in (one.1, one.0)
joined-turned n (e ∷ es) a (suc k) d h = joined-turned n es (λ i x l. a (suc i) x (omega (arith, l))) k d (omega (arith, h))

small-turned : (es : List Edge) → All (λ e. (negsuc 99999999 ≤ℤ e.most) × (e.most ≤ℤ pos 100000000)) es → All (λ e. (negsuc 99999999 ≤ℤ e.most) × (e.most ≤ℤ pos 100000000)) (map turn es)
small-turned [] a k d h = absurd (omega (arith, h))
small-turned (e ∷ es) a zero d h = a zero e (omega arith)
small-turned (e ∷ es) a (suc k) d h = small-turned es (λ i x l. a (suc i) x (omega (arith, l))) k d (omega (arith, h))

small-negated : (ts : List ℤ) → AreSmall ts → AreSmall (negated ts)
small-negated [] a k d h = absurd (omega (arith, h))
small-negated (t ∷ ts) a zero d h = let one = a zero t (omega arith) in (omega (arith, ints, one.1), omega (arith, ints, one.0))
small-negated (t ∷ ts) a (suc k) d h = small-negated ts (λ i x l. a (suc i) x (omega (arith, l))) k d (omega (arith, h))

pub joined-mirrored : (net : Net) → IsJoined net → IsJoined (mirrored net)
joined-mirrored net joined = record {
  origin = joined.origin;
  few_points = joined.few_points;
  few_edges = subst (λ n. n ≤ 1000000) (sym (length-map {A = Edge} {B = Edge} net.edges turn)) joined.few_edges;
  joins = joined-turned net.points net.edges joined.joins;
  small = small-turned net.edges joined.small;
}

pub known-mirrored : (net : Net) (known : List ℤ) (ceiling : ℤ) → IsKnownBelow net known ceiling → IsKnown (mirrored net) (negated known) (neg_ℤ ceiling)
known-mirrored net known ceiling is = record {
  joined = joined-mirrored net is.joined;
  solution = solution-mirrored net known is.solution;
  small = small-negated known is.small;
  floor_small = (omega (arith, ints, is.ceiling_small.1), omega (arith, ints, is.ceiling_small.0));
  below = λ ts s p h. omega (arith, ints, is.above (negated ts) (solution-back net ts s) p h, time-negated ts p);
}

pub negated-twice : (ts : List ℤ) → negated (negated ts) ≡ ts
negated-twice [] = refl
negated-twice (t ∷ ts) = let twice : neg_ℤ (neg_ℤ t) ≡ t = omega (arith, ints) in rw (twice, negated-twice ts) refl

-- the earliest times of the mirror, negated, are the latest ones
pub late-from : (net : Net) (early late : Timing) → IsEarly (mirrored net) early → late.times ≡ negated early.times → late.causes ≡ early.causes → IsLate net late
late-from net early late is times causes = record {
  solution = rw times (solution-back net early.times is.solution);
  greatest = rw times (greatest-back net early.times is.least);
  held = rw (times, causes, negated-twice early.times) is.held;
}
