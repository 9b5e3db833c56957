use Rattle.std.proofs.Common.{List, length, ap, arith}
use Rattle.pl_entry.specs.declared.entry.Entry.{Entry}
use Rattle.pl_pair.proofs.Passing.{round_short}
use Rattle.pl_pair.proofs.rounds.write_round.Goals as goal

pub write_entries-requires : goal.write_entries-requires
write_entries-requires g c =
    let round = c.closed_round.ensures in
    let short = round_short c.args.plan.now c.args.from c.args.pass.now c.closed_round.new.pass c.in_ok-part.part c.requires.from round.looks round.own c.in_ok-part.ensures.round in
    let same = ap (λ (es : List Entry). length es) c.as_slice.ensures in
    omega (arith, short, same)

pub stage_of-requires : goal.stage_of-requires
stage_of-requires g c =
    let round = c.closed_round.ensures in
    round_short c.args.plan.now c.args.from c.args.pass.now c.closed_round.new.pass c.in_ok-part.part c.requires.from round.looks round.own c.in_ok-part.ensures.round
