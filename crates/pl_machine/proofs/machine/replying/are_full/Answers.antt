use Rattle.std.proofs.Common.{◌<◌, ◌^◌, nat_le, length, arith, ◌∙◌, ap}
use Rattle.pl_machine.proofs.Inputs.{counted}
use Rattle.pl_machine.proofs.machine.replying.are_full.Goals as goal

pub returns : goal.returns
returns c =
    let lt : c.args.limit < 2 ^ 32 = omega arith in
    ap (nat_le c.args.limit) c.len.ensures.len ∙ counted c.args.limit (length c.args.goals.now) lt
