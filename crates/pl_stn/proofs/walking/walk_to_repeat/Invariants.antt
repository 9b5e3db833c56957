use Rattle.std.proofs.Common.{◌-◌, length}
use Rattle.pl_stn.proofs.Walks.{HasWalked}
use Rattle.pl_stn.proofs.walking.walk_to_repeat.Given as goal

-- each point that the walk has passed has its place on it
abbrev pub invariant-steps : goal.invariant-steps
invariant-steps l = HasWalked l.net l.causes l.start l.places.items l.walk.items l.point

abbrev pub decreases-steps : goal.decreases-steps
decreases-steps l = l.net.points - length l.walk.items
