use Rattle.std.proofs.Common.{refl}
use Rattle.pl_state.proofs.Renewed.{mended, answered, none_left}
use Rattle.pl_state.proofs.kept.Kept.mend_must.Goals as goal

pub returns : goal.returns
returns c =
    let k = c.args.self.now in
    mended k (record k { told = record { broken = c.renew.new.broken; bad = k.told.bad } }) k.steps.items k.present c.answer.result
    c.requires.time c.requires.based c.requires.ordered refl refl c.in_ok-of_musts.ensures.broken c.requires.steps c.requires.steps_sorted
    (answered k.told.broken.items c.renew.new.broken.items c.in_ok-of_musts.of_musts.went c.in_ok-of_musts.of_musts.came k.told.bad.items k.told.bad.items c.no_steps.result.went c.no_steps.result.came c.answer.result
    c.answer.ensures c.in_ok-of_musts.ensures.went c.in_ok-of_musts.ensures.came (none_left k.told.bad.items c.no_steps.result.went c.no_steps.ensures.went) (none_left k.told.bad.items c.no_steps.result.came c.no_steps.ensures.came))
