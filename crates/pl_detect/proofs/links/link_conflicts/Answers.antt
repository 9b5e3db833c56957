use Rattle.std.proofs.Common.{◌∙◌, ◌++◌, ap}
use Rattle.pl_detect.proofs.BrokenConflicts.{link_conflicts_are}
use Rattle.pl_detect.proofs.links.link_conflicts.Goals as goal

pub returns : goal.returns
returns c =
    c.in_ok-add_all_broken.ensures
    ∙ ap (λ ks. c.args.out.now.items ++ ks)
    (link_conflicts_are c.args.s.now c.requires.rising c.get.result.now c.get.ensures c.in_ok-links.links c.in_ok-links.ensures c.as_slice.result.now (c.as_slice.ensures.value ∙ c.in_ok-broken.ensures.broken))
