use Rattle.std.proofs.Common.{false, ap, refl}
use Rattle.pl_state.specs.declared.change.Change.TheVariants.{Put}
use Rattle.pl_state.specs.Timelines.{make}
use Rattle.pl_state.proofs.Changing.{put_right}
use Rattle.pl_state.proofs.Renewed.{made}
use Rattle.pl_state.proofs.kept.Kept.put.Goals as goal

pub mend_near-requires-clause-right : goal.mend_near-requires-clause-right
mend_near-requires-clause-right c =
    let k = c.args.self.now in
    put_right k.any k.steps.items k.steps.items k.present c.args.set k.sets c.insert_set.new.sets k.musts k.told.broken.items k.told.bad.items c.in_ok-near.near
    c.requires.kept.ordered refl c.in_ok-near.ensures.from c.in_ok-near.ensures.to c.in_ok-near.ensures.items c.requires.kept.musts c.requires.kept.sets

pub mend_near-requires-clause-time : goal.mend_near-requires-clause-time
mend_near-requires-clause-time c = c.requires.kept.in_time

pub mend_near-requires-clause-based : goal.mend_near-requires-clause-based
mend_near-requires-clause-based c = c.requires.kept.based

pub mend_near-requires-clause-sorted : goal.mend_near-requires-clause-sorted
mend_near-requires-clause-sorted c = c.requires.kept.sorted

pub returns : goal.returns
returns c =
    let k = c.args.self.now in
    let p = k.present in
    made (Put c.args.set) k c.mend_near.new.self c.insert_set.new.sets k.musts p c.in_ok-told.told c.requires.kept c.in_ok-told.ensures
    (ap (λ l. make false p.horizon k.any k.steps.items p.moment p.base p.value l k.musts) c.in_ok-near.ensures.items)
