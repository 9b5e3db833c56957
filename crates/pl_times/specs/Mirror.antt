-- A net with its edges turned, and times negated.
use Rattle.std.specs.Prelude.{ℤ, List, map, neg_ℤ}
use Rattle.pl_stn.specs.declared.net.Edge.{Edge}
use Rattle.pl_stn.specs.declared.net.Net.{Net}
use Rattle.pl_stn.specs.Nets.{IsSolution}
use Rattle.pl_times.specs.Times.{IsJoined, IsSmall, AreSmall, IsAboveAll}

abbrev pub turn : Edge → Edge
turn e = record { from = e.to; to = e.from; most = e.most }

abbrev pub mirrored : Net → Net
mirrored net = record { points = net.points; edges = map turn net.edges }

abbrev pub negated : List ℤ → List ℤ
negated times = map neg_ℤ times

-- a known solution and a ceiling above all
pub record IsKnownBelow (net : Net) (known : List ℤ) (ceiling : ℤ) : Type 0 where
  pub joined : IsJoined net
  pub solution : IsSolution net known
  pub small : AreSmall known
  pub ceiling_small : IsSmall ceiling
  pub above : IsAboveAll net ceiling
