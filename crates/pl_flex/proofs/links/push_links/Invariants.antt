use Rattle.std.proofs.Common.{◌≡◌, ◌++◌, drop}
use Rattle.std.specs.List.{flat_map}
use Rattle.pl_semantics.specs.PlanStates.{numbered}
use Rattle.pl_flex.specs.FlexNets.{edges_of_links}
use Rattle.pl_flex.proofs.links.push_links.Given as goal

-- the edges so far and those of the other activities
abbrev pub invariant-loop-place : goal.invariant-loop-place
invariant-loop-place l = l.edges.items ++ flat_map (edges_of_links l.s l.firm) (numbered l.place (drop l.place l.firm)) ≡ l.initial.edges.items ++ flat_map (edges_of_links l.s l.firm) (numbered 0 l.firm)
