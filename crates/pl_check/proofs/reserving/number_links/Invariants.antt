use Rattle.std.proofs.Common.{◌≡◌, drop}
use Rattle.pl_check.specs.Judgements.{each_made}
use Rattle.pl_check.proofs.LoopLemmas.{each_made_from}
use Rattle.pl_check.specs.Numbering.{numbered_link}
use Rattle.pl_check.proofs.reserving.number_links.Given as goal

-- the rest gives the whole
abbrev pub invariant-loop-link : goal.invariant-loop-link
invariant-loop-link l = each_made_from (numbered_link l.items) l.all (drop l.link-index l.links) ≡ each_made (numbered_link l.items) l.links
