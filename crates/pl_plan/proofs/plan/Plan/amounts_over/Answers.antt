use Rattle.std.proofs.Common.{◌≡◌, length, IfOk, List, ap, ◌∙◌, subst, rules}
use Rattle.pl_model.specs.declared.reservations.Reservation.{Reservation}
use Rattle.pl_plan.specs.Values.{Row}
use Rattle.pl_plan.specs.Firm.{amounts_with}
use Rattle.pl_plan.proofs.FirmSteps.{checked_kind, amounts_named, amounts_are}
use Rattle.pl_plan.proofs.plan.Plan.amounts_over.Goals as goal

pub amounts_with-requires : goal.amounts_with-requires
amounts_with-requires c =
    let kind = c.kind_in-kind.result.now in
    let len : length c.args.values.now ≡ length kind.params = search rules in
    rw (c.as_slice.ensures) (amounts_named c.args.model.now kind (checked_kind c.args.model.now c.requires.checked c.fitted.result.now.kind kind c.kind_in-kind.ensures) (length c.args.values.now) len)

pub returns : goal.returns
returns c =
    let is = amounts_are c.args.model.now c.args.self.now.activities c.args.id c.fitted.result.now c.kind_in-kind.result.now c.args.values.now c.fitted.ensures.here c.kind_in-kind.ensures c.requires.values in
    let all = ap (λ (rs : List Reservation). amounts_with c.args.values.now rs) c.as_slice.ensures ∙ is in
    let P : Row → Type 0 = λ o. IfOk c.amounts_with.result (λ row. row ≡ o) in
    subst P all c.amounts_with.ensures
