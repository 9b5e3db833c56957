use Rattle.std.proofs.Common.{◌≡◌, ◌++◌, drop}
use Rattle.std.specs.List.{flat_map}
use Rattle.pl_links.specs.Broken.{links_of}
use Rattle.pl_flex.specs.FlexNets.{edges_of_link}
use Rattle.pl_flex.proofs.links.push_links_of.Given as goal

-- the edges so far and those of the other links
abbrev pub invariant-loop-link : goal.invariant-loop-link
invariant-loop-link l = l.edges.items ++ flat_map (edges_of_link l.firm (l.place, l.own)) (drop l.link-index l.link-items) ≡ l.initial.edges.items ++ flat_map (edges_of_link l.firm (l.place, l.own)) (links_of l.s.model l.own)
