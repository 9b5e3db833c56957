use Rattle.std.proofs.Common.{◌-◌, length}
use Rattle.pl_times.specs.Mirror.{mirrored}
use Rattle.pl_times.proofs.Paths.{HasTraced}
use Rattle.pl_times.proofs.tracing.walk_back.Given as goal

-- the causes lead from the point along the walk
abbrev pub invariant-steps : goal.invariant-steps
invariant-steps l = HasTraced (mirrored l.net) l.causes l.point l.walk.items l.at

abbrev pub decreases-steps : goal.decreases-steps
decreases-steps l = l.net.points - length l.walk.items
