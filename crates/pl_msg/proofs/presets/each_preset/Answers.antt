use Rattle.std.proofs.Common.{sym, ◌∙◌}
use Rattle.std.proofs.lemmas.Bool.{eqb-true}
use Rattle.std.proofs.lemmas.Result.{err_from_is_err_and}
use Rattle.pl_msg.proofs.Loops.{preset_goes_on, preset_fails, preset_done, some_left}
use Rattle.pl_msg.proofs.presets.each_preset.Goals as goal

pub returns-in_err-preset : goal.returns-in_err-preset
returns-in_err-preset c =
    let p = err_from_is_err_and c.from_residual.result c.from_residual.ensures.1 in
    rw (p.1, p.2) (preset_fails c.args.line.now c.presets.presets c.presets.rest.now c.in_err-preset.field-0.0 _ (some_left c.presets.rest.now (sym c.is_empty.ensures ∙ c.presets-test.true)) c.in_err-preset.ensures.preset c.presets.invariant)

pub presets-preserved : goal.presets-preserved
presets-preserved c =
    rw c.in_ok-push.ensures.ok (preset_goes_on c.args.line.now c.presets.presets c.presets.rest.now c.in_ok-preset.more.now c.in_ok-preset.preset _ c.in_ok-preset.ensures.preset c.presets.invariant)

pub returns : goal.returns
returns c = preset_done c.args.line.now c.presets.presets c.presets.rest.now _ (eqb-true _ _ (sym c.is_empty.ensures ∙ c.presets-test.false)) c.presets.invariant
