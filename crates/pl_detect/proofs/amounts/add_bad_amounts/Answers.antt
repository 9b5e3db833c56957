use Rattle.std.proofs.Common.{length}
use Rattle.pl_detect.proofs.Named.{amount_named}
use Rattle.pl_detect.proofs.amounts.add_bad_amounts.Goals as goal

pub is_bad_amount-holds-requires : goal.is_bad_amount-holds-requires
is_bad_amount-holds-requires c =
    amount_named c.args.s.now.model c.args.kind.now c.requires.checked (length c.args.own.now) c.requires.len c.as_slice-reservations.result.now c.as_slice-reservations.ensures
    c.loop-number.number c.index-reservations-number.result c.loop-number-test.true c.index-reservations-number.is
