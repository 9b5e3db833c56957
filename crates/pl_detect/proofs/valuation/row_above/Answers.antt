use Rattle.std.proofs.Common.{◌≡◌, length, All, option_and_then}
use Rattle.std.proofs.lemmas.Result.{IfOk-weaker}
use Rattle.pl_model.specs.Checked.{params_of}
use Rattle.pl_plan.specs.Activities.{activity_of}
use Rattle.pl_plan.specs.Fitting.{kind_of}
use Rattle.pl_plan.specs.Values.{BindsBelow}
use Rattle.pl_semantics.specs.Activities.{bindings_of}
use Rattle.pl_semantics.proofs.Found.{parent_live}
use Rattle.pl_detect.proofs.Named.{row_named}
use Rattle.pl_detect.proofs.valuation.row_above.Goals as goal

pub values-requires-clause-live : goal.values-requires-clause-live
values-requires-clause-live c = parent_live c.args.s.now c.requires.whole c.args.a.now c.requires.live (c.in-Some.parent, c.in-Some.field-0-1) c.in-Some.is

pub returns-in-Some-clause-named : goal.returns-in-Some-clause-named
returns-in-Some-clause-named c =
    let s = c.args.s.now in
    let a = c.args.a.now in
    let model = c.get.result.now in
    IfOk-weaker c.values.result
    (λ row. length row ≡ length (params_of (option_and_then (kind_of model) (activity_of c.in-Some.parent s.plan.activities))))
    (λ row. All (BindsBelow (length row)) (bindings_of s a))
    (λ row len. row_named s c.requires.whole.checked a (c.in-Some.parent, c.in-Some.field-0-1) c.in-Some.is model c.get.ensures row len)
    c.values.ensures.len
