use Rattle.std.proofs.Common.{arith}
use Rattle.pl_journal.proofs.AboutWriting.{adds_entry, front_entry, front_stops}
use Rattle.pl_journal.proofs.writing.write_entries.Goals as goal

pub loop-entry-preserved : goal.loop-entry-preserved
loop-entry-preserved g c = record {
  front = adds_entry _ _ _ c.args.model.now c.loop-entry.number c.loop-entry.entry-index c.args.entries.now c.entry-item.result _ c.loop-entry-test.true c.entry-item.is c.loop-entry.invariant.front c.in_ok-write_entry.ensures.text;
  count = omega (arith, c.loop-entry.invariant.count);
  later = omega (arith, c.loop-entry.invariant.later, c.write_entry.ensures.later);
}

pub returns-in_err-write_entry-clause-front : goal.returns-in_err-write_entry-clause-front
returns-in_err-write_entry-clause-front g c =
    front_stops _ _ _ _ (front_entry _ _ _ c.args.model.now c.loop-entry.number c.loop-entry.entry-index c.args.entries.now c.entry-item.result _ c.loop-entry-test.true c.entry-item.is c.loop-entry.invariant.front c.in_err-write_entry.ensures.front)
