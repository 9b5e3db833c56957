-- The least schedule of a scan: its two shots follow each other at once.
use Rattle.std.proofs.Common.{◌≡◌, ℕ, zero, suc, ◌+◌, ◌*◌, ◌<◌, ◌≤◌, ℤ, pos, negsuc, ◌≤ℤ◌, List, [], ◌∷◌, slice_index, refl, arith, lit<, lit≤}
use Rattle.std.proofs.lemmas.Int.{ints}
use Rattle.std.proofs.lemmas.List.Elements.{All-from_recursion}
use Rattle.pl_model.specs.Schedules.{IsOffset}
use Rattle.pl_stn.specs.declared.net.Edge.{Edge}
use Rattle.pl_stn.specs.declared.net.Net.{Net}
use Rattle.pl_stn.specs.Nets.{time_of, Meets, IsSolution, IsLeast}
use Rattle.pl_check.specs.Networks.{apart, net_of, HasOffsets}
use Rattle.pl_report.proofs.AboutDemonstration.Drafts.{scan_draft, lasting, demo_spans}

-- the points are the starts and the ends of the scan, of the first shot and of the second
abbrev pub scan_net : Net
scan_net = net_of demo_spans (lasting 10) scan_draft

-- when they lie
abbrev scan_times : List ℤ
scan_times = pos 0 ∷ pos 10 ∷ pos 0 ∷ pos 4 ∷ pos 4 ∷ pos 8 ∷ []

-- nothing lies before the scan's start, the scan and its shots last as long as they do, and the shots are in order
abbrev scan_edges : List Edge
scan_edges =
    apart 1 0 (pos 0) ∷ apart 2 0 (pos 0) ∷ apart 3 0 (pos 0) ∷ apart 4 0 (pos 0) ∷ apart 5 0 (pos 0)
    ∷ apart 0 1 (pos 10) ∷ apart 1 0 (negsuc 9)
    ∷ apart 2 3 (pos 4) ∷ apart 3 2 (negsuc 3)
    ∷ apart 4 5 (pos 4) ∷ apart 5 4 (negsuc 3)
    ∷ apart 3 4 (pos 3) ∷ apart 4 3 (pos 0)
    ∷ []

-- a bound that the times keep
met : (e : Edge) → Meets scan_times e → Meets scan_times e
met e is = is

scan_solution : IsSolution scan_net scan_times
scan_solution = record {
  each_point = refl;
  origin = refl;
  meets = All-from_recursion (Meets scan_times) scan_edges (
    met (apart 1 0 (pos 0)) (omega (arith, ints)),
    (
      met (apart 2 0 (pos 0)) (omega (arith, ints)),
      (
        met (apart 3 0 (pos 0)) (omega (arith, ints)),
        (
          met (apart 4 0 (pos 0)) (omega (arith, ints)),
          (
            met (apart 5 0 (pos 0)) (omega (arith, ints)),
            (
              met (apart 0 1 (pos 10)) (omega (arith, ints)),
              (
                met (apart 1 0 (negsuc 9)) (omega (arith, ints)),
                (
                  met (apart 2 3 (pos 4)) (omega (arith, ints)),
                  (
                    met (apart 3 2 (negsuc 3)) (omega (arith, ints)),
                    (
                      met (apart 4 5 (pos 4)) (omega (arith, ints)),
                      (
                        met (apart 5 4 (negsuc 3)) (omega (arith, ints)),
                        (
                          met (apart 3 4 (pos 3)) (omega (arith, ints)),
                          (
                            met (apart 4 3 (pos 0)) (omega (arith, ints)),
                            tt,
                          ),
                        ),
                      ),
                    ),
                  ),
                ),
              ),
            ),
          ),
        ),
      ),
    ),
  );
}

-- any other schedule is later at each point, or as early
module _ (others : List ℤ) (s : IsSolution scan_net others) where
  none : Edge
  none = apart 0 0 (pos 0)

  starts_after : Meets others (apart 2 0 (pos 0))
  starts_after = s.meets 1 none (lit< tt)

  scan_lasts : Meets others (apart 1 0 (negsuc 9))
  scan_lasts = s.meets 6 none (lit< tt)

  first_lasts : Meets others (apart 3 2 (negsuc 3))
  first_lasts = s.meets 8 none (lit< tt)

  second_lasts : Meets others (apart 5 4 (negsuc 3))
  second_lasts = s.meets 10 none (lit< tt)

  second_follows : Meets others (apart 4 3 (pos 0))
  second_follows = s.meets 12 none (lit< tt)

  earliest : (p : ℕ) → p < 6 → time_of scan_times p ≤ℤ time_of others p
  earliest zero less = omega (arith, ints, s.origin)
  earliest (suc zero) less = omega (arith, ints, s.origin, scan_lasts)
  earliest (suc (suc zero)) less = omega (arith, ints, s.origin, starts_after)
  earliest (suc (suc (suc zero))) less = omega (arith, ints, s.origin, starts_after, first_lasts)
  earliest (suc (suc (suc (suc zero)))) less = omega (arith, ints, s.origin, starts_after, first_lasts, second_follows)
  earliest (suc (suc (suc (suc (suc zero))))) less = omega (arith, ints, s.origin, starts_after, first_lasts, second_follows, second_lasts)
  earliest (suc (suc (suc (suc (suc (suc p)))))) less = absurd (omega (arith, less))

scan_least : IsLeast scan_net scan_times
scan_least others s p less = earliest others s p less

scan_starts : (i : ℕ) → i < 2 → pos (slice_index (0 ∷ 4 ∷ []) i) ≡ time_of scan_times (2 * i + 2)
scan_starts zero less = refl
scan_starts (suc zero) less = refl
scan_starts (suc (suc i)) less = absurd (omega (arith, less))

pub scan_offsets : HasOffsets scan_net 2 (0 ∷ 4 ∷ [])
scan_offsets = record {
  times = scan_times;
  solution = scan_solution;
  least = scan_least;
  each_slot = refl;
  near = All-from_recursion IsOffset (0 ∷ 4 ∷ []) (lit≤ tt, (lit≤ tt, tt));
  starts = scan_starts;
}
