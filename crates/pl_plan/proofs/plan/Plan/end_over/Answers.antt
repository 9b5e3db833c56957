use Rattle.std.proofs.Common.{◌≡◌, ◌↔◌, IsNone, false, length, subst, ◌∙◌, rules}
use Rattle.pl_plan.proofs.FirmSteps.{checked_kind, amounts_named, firm_is, end_is}
use Rattle.pl_plan.proofs.plan.Plan.end_over.Goals as goal

pub end_from-requires-clause-amounts : goal.end_from-requires-clause-amounts
end_from-requires-clause-amounts c =
    let kind = c.kind_in-kind.result.now in
    let len : length c.args.values.now ≡ length kind.params = search rules in
    amounts_named c.args.model.now kind (checked_kind c.args.model.now c.requires.checked c.fitted-activity.result.now.kind kind c.kind_in-kind.ensures) (length c.args.values.now) len

pub returns-clause-value : goal.returns-clause-value
returns-clause-value c = c.end_from.ensures.value ∙ end_is c.args.model.now c.args.self.now.activities c.args.id c.fitted-activity.result.now c.kind_in-kind.result.now c.args.values.now c.fitted-activity.ensures.here c.kind_in-kind.ensures c.requires.values

pub returns-clause-none : goal.returns-clause-none
returns-clause-none c =
    let same = firm_is c.args.model.now c.args.self.now.activities c.args.id c.fitted-activity.result.now c.kind_in-kind.result.now c.args.values.now c.fitted-activity.ensures.here c.kind_in-kind.ensures c.requires.values in
    subst (λ b. IsNone c.end_from.result ↔ (b ≡ false)) same c.end_from.ensures.none
