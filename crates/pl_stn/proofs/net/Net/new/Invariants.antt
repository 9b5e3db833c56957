use Rattle.std.proofs.Common.{◌≡◌}
use Rattle.pl_stn.specs.Nets.{edges_to_origin}
use Rattle.pl_stn.proofs.net.Net.new.Given as goal

-- the edges of the earlier points
abbrev pub invariant-loop-earlier : goal.invariant-loop-earlier
invariant-loop-earlier l = l.edges ≡ edges_to_origin l.earlier
