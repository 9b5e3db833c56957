use Rattle.std.proofs.Common.{◌≤◌, length, arith}
use Rattle.pl_rate.proofs.Gained.{numbered_at, numbered_past, leaves_more, leaves_none}
use Rattle.pl_rate.proofs.effects.push_effects.Goals as goal

pub loop-number-preserved : goal.loop-number-preserved
loop-number-preserved c = λ id.
    let n = c.loop-number.number in
    let r = c.index-reservations-number.result in
    leaves_more _ _ _ _ _ _ _ (n, r) (numbered_at c.args.reservations.now n r c.loop-number-test.true c.index-reservations-number.is) (c.loop-number.invariant id) (c.in_ok-push_effect.ensures id n)

pub returns : goal.returns
returns c = λ id.
    let past : length c.args.reservations.now ≤ c.loop-number.number = omega arith in
    leaves_none _ _ _ _ _ (numbered_past c.args.reservations.now c.loop-number.number past) (c.loop-number.invariant id)
