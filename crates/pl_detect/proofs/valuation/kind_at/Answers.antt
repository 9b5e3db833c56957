use Rattle.std.proofs.Common.{◌≡◌, ◌∙◌, ap}
use Rattle.pl_model.specs.declared.whole.Model.{Model}
use Rattle.pl_plan.proofs.FirmSteps.{checked_kind}
use Rattle.pl_semantics.proofs.Found.{kind_here, kind_within}
use Rattle.pl_detect.proofs.valuation.kind_at.Goals as goal

pub bounds-as_slice-a : goal.bounds-as_slice-a
bounds-as_slice-a c =
    let all : c.as_slice.result.now ≡ c.args.s.now.model.kinds = c.as_slice.ensures ∙ ap (λ (m : Model). m.kinds) c.get.ensures in
    kind_within c.args.s.now c.requires.whole c.args.a.now c.requires.live c.as_slice.result.now all

pub returns-clause-kind : goal.returns-clause-kind
returns-clause-kind c =
    let all : c.as_slice.result.now ≡ c.args.s.now.model.kinds = c.as_slice.ensures ∙ ap (λ (m : Model). m.kinds) c.get.ensures in
    kind_here c.args.s.now c.requires.whole c.args.a.now c.requires.live c.as_slice.result.now all c.index-as_slice-a.result c.index-as_slice-a.is

pub returns-clause-checked : goal.returns-clause-checked
returns-clause-checked c =
    let s = c.args.s.now in
    let all : c.as_slice.result.now ≡ s.model.kinds = c.as_slice.ensures ∙ ap (λ (m : Model). m.kinds) c.get.ensures in
    checked_kind s.model c.requires.whole.checked c.args.a.now.kind c.index-as_slice-a.result
    (kind_here s c.requires.whole c.args.a.now c.requires.live c.as_slice.result.now all c.index-as_slice-a.result c.index-as_slice-a.is)
