use Rattle.std.proofs.Common.{◌≡◌, drop}
use Rattle.pl_check.specs.Judgements.{each}
use Rattle.pl_check.specs.Ranges.{range_in_link}
use Rattle.pl_check.proofs.distances.judge_links.Given as goal

-- the rest gives the whole
abbrev pub invariant-loop-link : goal.invariant-loop-link
invariant-loop-link l = each (range_in_link l.horizon) (drop l.link-index l.links) ≡ each (range_in_link l.horizon) l.links
