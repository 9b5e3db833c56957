-- Walks from a point to the origin against the edges that hold it at its latest time.
use Rattle.std.proofs.Common.{◌≡◌, ℕ, ◌+◌, ◌<◌, pos, List, [], ◌∷◌, ◌++◌, length, Some, None, subst, arith}
use Rattle.std.specs.Prelude.{neg_ℤ}
use Rattle.std.proofs.lemmas.Int.{ints}
use Rattle.std.proofs.lemmas.List.{length-map}
use Rattle.pl_stn.specs.declared.net.Edge.{Edge}
use Rattle.pl_stn.specs.declared.net.Net.{Net}
use Rattle.pl_stn.specs.Nets.{edge_of, time_of}
use Rattle.pl_stn.specs.Causes.{cause_of}
use Rattle.pl_times.specs.declared.timing.Timing.{Timing}
use Rattle.pl_times.specs.Times.{IsJoined, IsPath}
use Rattle.pl_times.specs.Mirror.{mirrored, negated, turn}
use Rattle.pl_times.specs.Bounded.{IsLate}
use Rattle.pl_times.proofs.Paths.{HasTraced, traced_more, traced_all}
use Rattle.pl_times.proofs.Mirrors.{joined-mirrored, time-negated}
use Rattle.pl_times.proofs.Turning.{to_turned}

module _ (net : Net) (late : Timing) (joined : IsJoined net) (is : IsLate net late) where
  pub back_edge : (at k : ℕ) → cause_of late.causes at ≡ Some k → k < length net.edges
  back_edge at k e = subst (λ n. k < n) (length-map {A = Edge} {B = Edge} net.edges turn) (is.held.caused.starts at k e).edge

  pub back_more : (start : ℕ) (walk : List ℕ) (at k : ℕ) → HasTraced (mirrored net) late.causes start walk at → cause_of late.causes at ≡ Some k → HasTraced (mirrored net) late.causes start (walk ++ k ∷ []) (edge_of net k).from × (length walk + 1 < net.points)
  back_more start walk at k t e =
      let more = traced_more (mirrored net) (negated late.times) late.causes (joined-mirrored net joined) is.held start walk at k t e in
      (subst (λ x. HasTraced (mirrored net) late.causes start (walk ++ k ∷ []) x) (to_turned net k) more.0, more.1)

  pub back_all : (start : ℕ) (walk : List ℕ) (at : ℕ) → HasTraced (mirrored net) late.causes start walk at → cause_of late.causes at ≡ None → IsPath (mirrored net) start 0 (time_of late.times start) walk
  back_all start walk at t e =
      let begins : time_of (negated late.times) 0 ≡ pos 0 = omega (arith, ints, time-negated late.times 0, is.solution.origin) in
      let twice : neg_ℤ (time_of (negated late.times) start) ≡ time_of late.times start = omega (arith, ints, time-negated late.times start) in
      subst (λ m. IsPath (mirrored net) start 0 m walk) twice
      (traced_all (mirrored net) (negated late.times) late.causes (joined-mirrored net joined) is.held start walk at begins t e)
