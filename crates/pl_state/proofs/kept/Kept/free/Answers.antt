use Rattle.std.proofs.Common.{false, ap}
use Rattle.pl_state.specs.declared.change.Change.TheVariants.{Free}
use Rattle.pl_state.specs.Timelines.{make}
use Rattle.pl_state.proofs.Changing.{broken_sorted, free_right}
use Rattle.pl_state.proofs.Renewed.{made}
use Rattle.pl_state.proofs.kept.Kept.free.Goals as goal

pub mend_must-requires-clause-sorted : goal.mend_must-requires-clause-sorted
mend_must-requires-clause-sorted c =
    let k = c.args.self.now in
    broken_sorted k.present k.sets k.musts k.told.broken.items c.requires.musts c.remove.ensures.sorted

pub mend_must-requires-clause-right : goal.mend_must-requires-clause-right
mend_must-requires-clause-right c =
    let k = c.args.self.now in
    free_right k.present k.sets c.args.must c.key.result k.musts c.remove.new.self k.told.broken.items c.requires.musts c.remove.ensures.sorted c.remove.ensures.gone c.key.ensures

pub mend_must-requires-clause-time : goal.mend_must-requires-clause-time
mend_must-requires-clause-time c = c.requires.in_time

pub mend_must-requires-clause-based : goal.mend_must-requires-clause-based
mend_must-requires-clause-based c = c.requires.based

pub mend_must-requires-clause-ordered : goal.mend_must-requires-clause-ordered
mend_must-requires-clause-ordered c = c.requires.ordered

pub mend_must-requires-clause-steps : goal.mend_must-requires-clause-steps
mend_must-requires-clause-steps c = c.requires.sets

pub mend_must-requires-clause-steps_sorted : goal.mend_must-requires-clause-steps_sorted
mend_must-requires-clause-steps_sorted c = c.requires.sorted

pub returns : goal.returns
returns c =
    let k = c.args.self.now in
    let p = k.present in
    made (Free c.args.must) k c.mend_must.new.self k.sets c.remove.new.self p c.in_ok-told.told c.requires c.in_ok-told.ensures
    (ap (λ l. make false p.horizon k.any k.steps.items p.moment p.base p.value k.sets l) c.remove.ensures.gone)
