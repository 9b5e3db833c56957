use Rattle.pl_times.proofs.Looking.{IsScanning, left_of}
use Rattle.pl_times.proofs.settling.scan.Given as goal

-- the edges into the point behind the cursor are seen
abbrev pub invariant-edges : goal.invariant-edges
invariant-edges l = IsScanning l.net l.known l.fn.rising l.rising l.point l.cursor

abbrev pub decreases-edges : goal.decreases-edges
decreases-edges l = left_of l.cursor
