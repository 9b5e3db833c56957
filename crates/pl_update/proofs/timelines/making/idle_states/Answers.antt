use Rattle.std.proofs.Common.{ap, sym, ◌∙◌}
use Rattle.pl_model.specs.declared.whole.Model.{Model}
use Rattle.pl_update.proofs.AboutTimelines.MovingOne.{ok_then}
use Rattle.pl_update.proofs.AboutTimelines.MovingTime.{since_first, same_state}
use Rattle.pl_update.proofs.timelines.making.idle_states.Goals as goal

pub returns : goal.returns
returns c = ok_then c.new.result c.new.ensures (λ l e.
    e ∙ same_state c.args.any c.args.steps.now (ap (λ (m : Model). m.horizon) c.get.ensures) (sym c.requires.first) (sym (since_first c.args.s.now c.args.line 32 c.requires.first c.requires.base)) c.told_state-state.ensures)
