-- What the windows of a plan are seen as, and what holds of them.
use Rattle.std.specs.Prelude.{◌≡◌, ◌<◌, ℤ, pos, ◌≤ℤ◌, List, All}
use Rattle.pl_stn.specs.declared.net.Net.{Net}
use Rattle.pl_stn.specs.Nets.{time_of}
use Rattle.pl_times.specs.declared.timing.Timing.{Timing}
use Rattle.pl_times.specs.Times.{IsJoined}
use Rattle.pl_times.specs.Bounded.{IsEarly, IsLate}
use Rattle.pl_flex.specs.declared.window.Window.{Window}

-- a network, the windows of activities, and the earliest and the latest time of each point
pub record FlexValue : Type 0 where
  pub net : Net
  pub windows : List Window
  pub early : List ℤ
  pub late : List ℤ

-- times of a plan's network: from 0 to twice the greatest horizon
abbrev pub AreMoments : List ℤ → Type 0
AreMoments times = All (λ t. (pos 0 ≤ℤ t) × (t ≤ℤ pos 20000000)) times

-- the window lies between the earliest and the latest time of its point
pub record IsWindowOf (net : Net) (early late : List ℤ) (w : Window) : Type 0 where
  pub within : w.point < net.points
  pub low : pos w.least ≡ time_of early w.point
  pub high : pos w.greatest ≡ time_of late w.point

pub record AreTimed (net : Net) (windows : List Window) (early late : Timing) : Type 0 where
  pub joined : IsJoined net
  pub earliest : IsEarly net early
  pub latest : IsLate net late
  pub each : All (IsWindowOf net early.times late.times) windows
