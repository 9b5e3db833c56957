use Rattle.std.proofs.Common.{◌≡◌, ◌+◌, get_or, true, false, ◌∙◌, rules}
use Rattle.pl_moves.specs.Sides.{lies_on}
use Rattle.pl_moves.proofs.Slots.{first_here, first_later}
use Rattle.pl_moves.proofs.starts.first_child.Goals as goal

pub returns-then-lies_on : goal.returns-then-lies_on
returns-then-lies_on c =
    let test : lies_on c.args.s.now c.args.side (c.args.parent.now.start + get_or c.args.offsets.now c.loop-number.number 0) ≡ true = search rules in
    first_here c.args.s.now c.args.side c.args.parent.now c.args.slots.now c.args.offsets.now c.loop-number.number c.loop-number-test.true c.requires.paired.each test ∙ c.loop-number.invariant

pub loop-number-preserved : goal.loop-number-preserved
loop-number-preserved c =
    let test : lies_on c.args.s.now c.args.side (c.args.parent.now.start + get_or c.args.offsets.now c.loop-number.number 0) ≡ false = search rules in
    first_later c.args.s.now c.args.side c.args.parent.now c.args.slots.now c.args.offsets.now c.loop-number.number c.loop-number-test.true c.requires.paired.each test ∙ c.loop-number.invariant
