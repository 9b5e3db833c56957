-- What is answered of a plan: the windows, a negative cycle of its network, or that the network is too large.
use Rattle.std.specs.Prelude.{◌≡◌, ◌<◌, ◌≤◌, length}
use Rattle.pl_stn.specs.declared.net.Net.{Net}
use Rattle.pl_stn.specs.Nets.{IsSolution, IsLeast}
use Rattle.pl_semantics.specs.declared.plan_state.PlanState.{PlanState}
use Rattle.pl_times.specs.Times.{IsGreatest}
use Rattle.pl_times.specs.Bounded.{HasCycle}
use Rattle.pl_flex.specs.declared.flexed.Flexed.{Flexed}
use Rattle.pl_flex.specs.declared.flexed.Flexed.TheVariants.{Windows, NoSchedule, TooMany}
use Rattle.pl_flex.specs.State.{FlexValue}
use Rattle.pl_flex.specs.FlexNets.{flex_net}
use Rattle.pl_flex.specs.Windows.{windows_of}

-- the network of the plan, its earliest and its latest schedule, and the windows between them
pub record AreWindowsOf (s : PlanState) (f : FlexValue) : Type 0 where
  pub net : f.net ≡ flex_net s
  pub early : IsSolution (flex_net s) f.early
  pub least : IsLeast (flex_net s) f.early
  pub late : IsSolution (flex_net s) f.late
  pub greatest : IsGreatest (flex_net s) f.late
  pub windows : f.windows ≡ windows_of s f.early f.late

abbrev pub HasFewEdges : Net → Type 0
HasFewEdges net = length net.edges ≤ 1000000

-- Windows where the network has a schedule, a negative cycle where it has none, and the number of its edges where it has
-- more than a million.
abbrev pub IsAnswer : PlanState → Flexed → Type 0
IsAnswer s (Windows f) = HasFewEdges (flex_net s) × AreWindowsOf s f
IsAnswer s (NoSchedule es) = HasFewEdges (flex_net s) × HasCycle (flex_net s) es
IsAnswer s (TooMany n) = (n ≡ length (flex_net s).edges) × (1000000 < n)
