use Rattle.std.proofs.Common.{◌∙◌}
use Rattle.pl_memo.proofs.Changing.{one_comes, none_comes}
use Rattle.pl_memo.proofs.noting.all_come.Goals as goal

pub loop-a-preserved : goal.loop-a-preserved
loop-a-preserved c = λ d rest.
    c.loop-a.invariant d
    (one_comes c.args.more.now c.loop-a.a-index c.loop-a.reached c.in_ok-reached.reached d c.a-item.result _ c.loop-a-test.true (c.in_ok-copy.ensures ∙ c.a-item.is) c.in_ok-reached.ensures rest)

pub returns : goal.returns
returns c = c.loop-a.invariant c.loop-a.reached (none_comes c.args.more.now c.loop-a.a-index c.loop-a.reached c.loop-a-test.false)
