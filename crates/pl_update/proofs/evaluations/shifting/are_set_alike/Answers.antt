use Rattle.std.proofs.Common.{sym, ◌∙◌}
use Rattle.pl_update.proofs.AboutEvaluations.Alike.{sets_alike}
use Rattle.pl_update.proofs.evaluations.shifting.are_set_alike.Goals as goal

pub returns : goal.returns
returns c =
    let alike = sets_alike c.as_slice.result.now c.as_slice-2.result.now c.eq.result c.eq.ensures in
    ((λ holds. sym (sym c.as_slice.ensures ∙ alike.0 holds ∙ c.as_slice-2.ensures)), (λ same. alike.1 (c.as_slice.ensures ∙ sym same ∙ sym c.as_slice-2.ensures)))
