-- what was counted and what the rest may be
use Rattle.std.proofs.Common.{◌+◌, ◌≤◌, drop, filter, length}
use Rattle.pl_links.specs.Broken.{lacks_partner}
use Rattle.pl_semantics.specs.Links.{placed_in}
use Rattle.pl_bounds.proofs.ties.lone_of.Given as goal

abbrev pub invariant-loop-link : goal.invariant-loop-link
invariant-loop-link l = (l.count + length (filter (lacks_partner (placed_in l.board.state) l.own) (drop l.link-index l.links))) ≤ length (filter (lacks_partner (placed_in l.board.state) l.own) l.links)
