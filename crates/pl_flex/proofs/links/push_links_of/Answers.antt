use Rattle.pl_flex.specs.FlexNets.{edges_of_link}
use Rattle.pl_flex.proofs.Members.{pushed_more}
use Rattle.pl_flex.proofs.links.push_links_of.Goals as goal

pub loop-link-preserved : goal.loop-link-preserved
loop-link-preserved c =
    pushed_more (edges_of_link c.args.firm.now (c.args.place, c.args.own.now)) c.near_links-link-items.result.now c.loop-link.link-index _
    c.loop-link.edges.items c.push_link.new.edges.items _ c.loop-link-test.true c.in_ok-push_link.ensures c.loop-link.invariant
