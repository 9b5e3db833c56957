use Rattle.std.proofs.Common.{arith}
use Rattle.pl_stn.proofs.Passes.{all_met}
use Rattle.pl_stn.proofs.solving.tighten_all.Goals as goal

pub returns-else-raised : goal.returns-else-raised
returns-else-raised c =
    let h = c.loop-number.invariant in (
      h.still_times c.if-raised.false,
      h.still_causes c.if-raised.false,
      all_met c.args.net.now _ (λ k lt. h.still_met c.if-raised.false k (omega arith)),
    )
