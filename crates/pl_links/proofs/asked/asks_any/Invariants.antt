use Rattle.std.proofs.Common.{◌≡◌, drop}
use Rattle.std.specs.List.{list_any}
use Rattle.pl_links.specs.Asked.{asks}
use Rattle.pl_links.proofs.asked.asks_any.Given as goal

abbrev pub invariant-loop-link : goal.invariant-loop-link
invariant-loop-link l = list_any (asks l.point l.kind l.own) (drop l.link-index l.links) ≡ list_any (asks l.point l.kind l.own) l.links
