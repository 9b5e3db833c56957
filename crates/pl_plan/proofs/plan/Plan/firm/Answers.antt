use Rattle.std.proofs.Common.{◌≡◌, length, ◌∙◌, rules}
use Rattle.pl_plan.proofs.FirmSteps.{checked_kind, amounts_named, firm_is}
use Rattle.pl_plan.proofs.plan.Plan.firm.Goals as goal

pub is_firm-requires-clause-amounts : goal.is_firm-requires-clause-amounts
is_firm-requires-clause-amounts c =
    let kind = c.kind_in-kind.result.now in
    let len : length c.as_slice.result.now ≡ length kind.params = search rules in
    amounts_named c.args.model.now kind (checked_kind c.args.model.now c.requires.checked c.fitted.result.now.kind kind c.kind_in-kind.ensures) (length c.as_slice.result.now) len

pub returns : goal.returns
returns c = c.is_firm.ensures ∙ firm_is c.args.model.now c.args.self.now.activities c.args.id c.fitted.result.now c.kind_in-kind.result.now c.as_slice.result.now c.fitted.ensures.here c.kind_in-kind.ensures (c.as_slice.ensures.value ∙ c.row.ensures.value)
