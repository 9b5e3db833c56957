use Rattle.std.proofs.Common.{◌∙◌, false}
use Rattle.pl_links.specs.declared.broken.Broken.{Broken}
use Rattle.pl_links.specs.Sets.{has}
use Rattle.pl_links.proofs.BrokenLaws.{broken}
use Rattle.pl_links.proofs.Exchanging.{removed_more}
use Rattle.pl_links.proofs.exchange.remove_all.Goals as goal

pub loop-broken-preserved : goal.loop-broken-preserved
loop-broken-preserved c = record {
  members = λ b. c.remove.ensures.updates.0 b
      ∙ removed_more c.args.listed.now.keys c.args.went.now c.loop-broken.broken-index (broken 0 0 false) b (has b c.loop-broken.listed.keys) c.loop-broken-test.true (c.loop-broken.invariant.members b);
  ordered = c.remove.ensures.ordered;
}
