use Rattle.std.proofs.Common.{arith, refl}
use Rattle.pl_state.specs.declared.change.Change.TheVariants.{Advance}
use Rattle.pl_state.specs.Present.{present_of}
use Rattle.pl_state.proofs.Changing.{advance_right}
use Rattle.pl_state.proofs.Renewed.{made}
use Rattle.pl_state.proofs.kept.Kept.advance.Goals as goal

pub mend_near-requires-clause-right : goal.mend_near-requires-clause-right
mend_near-requires-clause-right c =
    let k = c.args.self.now in
    let p = k.present in
    advance_right k.any k.steps.items k.steps.items p.moment c.args.now p.horizon p.base p.value k.sets k.musts k.told.broken.items k.told.bad.items
    c.requires.kept.ordered refl c.requires.kept.in_time c.requires.timely.0 c.requires.kept.musts c.requires.kept.sets

pub mend_near-requires-clause-time : goal.mend_near-requires-clause-time
mend_near-requires-clause-time c = c.requires.timely.1

pub mend_near-requires-clause-based : goal.mend_near-requires-clause-based
mend_near-requires-clause-based c = omega (arith, c.requires.kept.based, c.requires.timely.0)

pub mend_near-requires-clause-sorted : goal.mend_near-requires-clause-sorted
mend_near-requires-clause-sorted c = c.requires.kept.sorted

pub returns : goal.returns
returns c =
    let k = c.args.self.now in
    made (Advance c.args.now) k c.mend_near.new.self k.sets k.musts (present_of c.args.now k.present.horizon k.present.base k.present.value) c.in_ok-told.told c.requires.kept c.in_ok-told.ensures refl
