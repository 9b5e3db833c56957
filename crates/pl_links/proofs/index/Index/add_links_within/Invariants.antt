use Rattle.std.proofs.Common.{◌≡◌, ◌++◌, filter, map}
use Rattle.pl_links.specs.Keys.{lies, link_at}
use Rattle.pl_links.proofs.index.Index.add_links_within.Given as goal

abbrev pub invariant-loop-key : goal.invariant-loop-key
invariant-loop-key l = l.near.items ++ map (link_at l.index) l.key-iterator ≡ l.initial.near.items ++ map (link_at l.index) (filter (lies l.group l.from l.to) l.self)
