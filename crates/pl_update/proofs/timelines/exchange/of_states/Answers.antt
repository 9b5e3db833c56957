use Rattle.std.proofs.Common.{◌++◌}
use Rattle.std.specs.Prelude.{map}
use Rattle.pl_semantics.specs.Timelines.{unmet_must, bad_step}
use Rattle.pl_update.proofs.AboutTimelines.Members.{states_exchanged, told, told_more, exchanged_by}
use Rattle.pl_update.proofs.timelines.exchange.of_states.Goals as goal

pub returns : goal.returns
returns c = λ broken broken' bad bad' is.
    let unmet = unmet_must c.args.s.now in
    let step = bad_step c.args.s.now in
    let change = c.args.change.now in
    exchanged_by (map unmet broken ++ map step bad) (map unmet broken' ++ map step bad')
    (map unmet change.musts_went ++ map step change.steps_went) (map unmet change.musts_came ++ map step change.steps_came) c.add_bad_steps.new.out.items c.add_bad_steps-2.new.out.items
    (told_more step change.steps_went c.as_slice-2.result.now (map unmet change.musts_went) c.add_musts.new.out.items c.add_bad_steps.new.out.items
    (told unmet change.musts_went c.as_slice.result.now c.new-went.result.items c.add_musts.new.out.items c.new-went.ensures.items c.as_slice.ensures c.in_ok-add_musts.ensures) c.as_slice-2.ensures c.in_ok-add_bad_steps.ensures)
    (told_more step change.steps_came c.as_slice-4.result.now (map unmet change.musts_came) c.add_musts-2.new.out.items c.add_bad_steps-2.new.out.items
    (told unmet change.musts_came c.as_slice-3.result.now c.new-came.result.items c.add_musts-2.new.out.items c.new-came.ensures.items c.as_slice-3.ensures c.in_ok-add_musts-2.ensures) c.as_slice-4.ensures c.in_ok-add_bad_steps-2.ensures)
    (states_exchanged c.args.s.now broken broken' bad bad' change is)
