-- The earliest and the latest times of a net, each with what holds the points there.
use Rattle.std.specs.Prelude.{◌≡◌, ℕ, List}
use Rattle.pl_stn.specs.declared.net.Edge.{Edge}
use Rattle.pl_stn.specs.declared.net.Net.{Net}
use Rattle.pl_stn.specs.Nets.{IsSolution, IsLeast, IsNegativeCycle, HasNoSolution}
use Rattle.pl_times.specs.declared.timing.Timing.{Timing}
use Rattle.pl_times.specs.declared.bounds.Bounds.{Bounds}
use Rattle.pl_times.specs.declared.bounds.Bounds.TheVariants.{Between, Cycle}
use Rattle.pl_times.specs.Times.{IsGreatest, IsHeld, edges_of}
use Rattle.pl_times.specs.Mirror.{mirrored, negated}

-- a solution that is at no point later than any other, and what keeps each point from lying earlier
pub record IsEarly (net : Net) (t : Timing) : Type 0 where
  pub solution : IsSolution net t.times
  pub least : IsLeast net t.times
  pub held : IsHeld net t.times t.causes

-- a solution that is at no point earlier than any other, and what keeps each point from lying later
pub record IsLate (net : Net) (t : Timing) : Type 0 where
  pub solution : IsSolution net t.times
  pub greatest : IsGreatest net t.times
  pub held : IsHeld (mirrored net) (negated t.times) t.causes

-- no solution, and the edges of a negative cycle, in turn
pub record HasCycle (net : Net) (es : List Edge) : Type 0 where
  pub cycle : (ks : List ℕ) × (es ≡ edges_of net ks) × IsNegativeCycle net ks
  pub none : HasNoSolution net

-- both times, or a negative cycle where there is no solution
abbrev pub AreBounds : Net → Bounds → Type 0
AreBounds net (Between early late) = IsEarly net early × IsLate net late
AreBounds net (Cycle es) = HasCycle net es
