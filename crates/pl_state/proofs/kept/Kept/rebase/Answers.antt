use Rattle.std.proofs.Common.{◌≡◌, arith, refl}
use Rattle.pl_state.specs.declared.change.Change.TheVariants.{Rebase}
use Rattle.pl_lists.specs.Lists.{back}
use Rattle.pl_state.specs.Sets.{is_passed}
use Rattle.pl_state.specs.Near.{next_moment}
use Rattle.pl_state.specs.Present.{present_of}
use Rattle.pl_state.proofs.Changing.{rebase_right}
use Rattle.pl_state.proofs.Renewed.{made}
use Rattle.pl_state.proofs.kept.Kept.rebase.Goals as goal

pub end_of_base-requires : goal.end_of_base-requires
end_of_base-requires c = c.requires.in_time

pub mend_near-requires-clause-right : goal.mend_near-requires-clause-right
mend_near-requires-clause-right c =
    let k = c.args.self.now in
    let p = k.present in
    let to : c.end_of_base.result ≡ next_moment p.horizon (back (is_passed p.moment) k.sets) = c.end_of_base.ensures.end in
    rebase_right k.any k.steps.items k.steps.items p.moment p.horizon p.base p.value c.args.state c.end_of_base.result k.sets k.musts k.told.broken.items k.told.bad.items
    c.requires.ordered refl c.requires.in_time c.requires.based c.end_of_base.ensures.later to c.requires.musts c.requires.sets

pub mend_near-requires-clause-time : goal.mend_near-requires-clause-time
mend_near-requires-clause-time c = c.requires.in_time

pub mend_near-requires-clause-based : goal.mend_near-requires-clause-based
mend_near-requires-clause-based c = omega arith

pub mend_near-requires-clause-sorted : goal.mend_near-requires-clause-sorted
mend_near-requires-clause-sorted c = c.requires.sorted

pub returns : goal.returns
returns c =
    let k = c.args.self.now in
    made (Rebase c.args.state) k c.mend_near.new.self k.sets k.musts (present_of k.present.moment k.present.horizon k.present.moment c.args.state) c.in_ok-told.told c.requires c.in_ok-told.ensures refl
