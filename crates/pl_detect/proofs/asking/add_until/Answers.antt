use Rattle.std.proofs.Common.{◌≡◌, ◌++◌, List, map, refl, ap, ◌∙◌}
use Rattle.pl_plan.specs.Fitting.{kind_of}
use Rattle.pl_semantics.specs.declared.demand.Demand.{Demand}
use Rattle.pl_semantics.specs.PlanStates.{numbered, reservations_in, row_of}
use Rattle.pl_detect.specs.Amounts.{asked_by}
use Rattle.pl_detect.proofs.Bounded.{may_ask}
use Rattle.pl_detect.proofs.Giving.{given, amounts_are, asked_of_all}
use Rattle.pl_detect.proofs.asking.add_until.Goals as goal

pub add_demands-requires : goal.add_demands-requires
add_demands-requires c =
    let s = c.args.s.now in
    let a = c.args.a.now in
    let asks = may_ask s c.requires.whole a c.args.end c.requires.live c.requires.end in
    rw (c.reservations_in-reservations.ensures, c.get.ensures, c.requires.amounts, amounts_are s a c.requires.live) (record { few = asks.few; amounts = given (row_of s a) (reservations_in (kind_of s.model a)) asks.amounts })

pub returns : goal.returns
returns c =
    let s = c.args.s.now in
    let a = c.args.a.now in
    let rs = c.reservations_in-reservations.result.now in
    let of_kind : rs ≡ reservations_in (kind_of s.model a) = rw (c.reservations_in-reservations.ensures, c.get.ensures) refl in
    let asked = asked_of_all s a c.args.end c.requires.live c.args.amounts.now c.requires.amounts rs of_kind in
    c.in_ok-add_demands.ensures
    ∙ (ap (λ (ds : List Demand). ds ++ map (asked_by a.id a.start c.args.end c.args.amounts.now) (numbered 0 rs)) c.in_ok-reserve.ensures.items
    ∙ ap (λ (ds : List Demand). c.args.out.now.items ++ ds) asked)
