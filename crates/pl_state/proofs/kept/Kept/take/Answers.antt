use Rattle.std.proofs.Common.{false, ap, refl}
use Rattle.pl_state.specs.declared.change.Change.TheVariants.{Take}
use Rattle.pl_state.specs.Timelines.{make}
use Rattle.pl_state.proofs.Changing.{take_right}
use Rattle.pl_state.proofs.Renewed.{made}
use Rattle.pl_state.proofs.kept.Kept.take.Goals as goal

pub mend_near-requires-clause-right : goal.mend_near-requires-clause-right
mend_near-requires-clause-right c =
    let k = c.args.self.now in
    take_right k.any k.steps.items k.steps.items k.present c.args.set k.sets c.remove_set-near.new.sets k.musts k.told.broken.items k.told.bad.items c.remove_set-near.result
    c.requires.ordered refl c.remove_set-near.ensures.from c.remove_set-near.ensures.to c.remove_set-near.ensures.items c.requires.musts c.requires.sets

pub mend_near-requires-clause-time : goal.mend_near-requires-clause-time
mend_near-requires-clause-time c = c.requires.in_time

pub mend_near-requires-clause-based : goal.mend_near-requires-clause-based
mend_near-requires-clause-based c = c.requires.based

pub mend_near-requires-clause-sorted : goal.mend_near-requires-clause-sorted
mend_near-requires-clause-sorted c = c.requires.sorted

pub returns : goal.returns
returns c =
    let k = c.args.self.now in
    let p = k.present in
    made (Take c.args.set) k c.mend_near.new.self c.remove_set-near.new.sets k.musts p c.in_ok-told.told c.requires c.in_ok-told.ensures
    (ap (λ l. make false p.horizon k.any k.steps.items p.moment p.base p.value l k.musts) c.remove_set-near.ensures.items)
