-- what was listed, with what the rest gives, is all
use Rattle.std.proofs.Common.{◌≡◌, ◌++◌}
use Rattle.std.specs.List.{flat_map}
use Rattle.pl_bounds.specs.Remaining.{listed_if, listed_links}
use Rattle.pl_bounds.proofs.link_conflicts.listed_links.Given as goal

abbrev pub invariant-loop-conflict : goal.invariant-loop-conflict
invariant-loop-conflict l = (l.all.items ++ flat_map (listed_if l.board.state) l.conflict-iterator) ≡ listed_links l.board.state
