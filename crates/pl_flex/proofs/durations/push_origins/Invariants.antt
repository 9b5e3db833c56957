use Rattle.std.proofs.Common.{◌≡◌, ◌++◌}
use Rattle.pl_stn.specs.Nets.{edges_to_origin}
use Rattle.pl_flex.proofs.durations.push_origins.Given as goal

abbrev pub invariant-loop-earlier : goal.invariant-loop-earlier
invariant-loop-earlier l = l.edges.items ≡ l.initial.edges.items ++ edges_to_origin l.earlier
