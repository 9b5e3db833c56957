use Rattle.std.proofs.Common.{◌≡◌, ◌∙◌, Some, false, sym, rules}
use Rattle.pl_semantics.specs.PlanStates.{end_at}
use Rattle.std.specs.List.{list_any}
use Rattle.pl_plan.specs.Fitting.{kind_of}
use Rattle.pl_semantics.specs.PlanStates.{reservations_in}
use Rattle.pl_cand.specs.Tests.{may_take}
use Rattle.pl_cand.proofs.Playing.{amounts_here, takes_never, takes_some}
use Rattle.pl_cand.proofs.users.takes_in.Goals as goal

pub any_uses-requires : goal.any_uses-requires
any_uses-requires c = rw (c.reservations_of-reservations.ensures.value, c.as_slice.ensures, c.in_ok-evaluated.ensures.values, c.get.ensures) (amounts_here c.args.state.now c.requires.whole c.args.x.now c.requires.live)

pub returns-in-Some : goal.returns-in-Some
returns-in-Some c =
    let e : end_at c.args.state.now c.args.x.now ≡ Some c.in-Some.end = cc (c.get.ensures, c.in_ok-evaluated.ensures.end, c.in-Some.is) in
    c.any_uses.ensures
    ∙ rw (c.reservations_of-reservations.ensures.value, c.as_slice.ensures, c.in_ok-evaluated.ensures.values, c.get.ensures)
    (sym (takes_some c.args.state.now c.args.timeline c.args.a c.args.b c.args.x.now c.in-Some.end e))

pub returns-then-not-any_may_take : goal.returns-then-not-any_may_take
returns-then-not-any_may_take c =
    let s = c.args.state.now in
    let x = c.args.x.now in
    let fails : c.any_may_take.result ≡ false = search rules in
    let none : list_any (may_take c.args.timeline c.args.b x.start) (reservations_in (kind_of s.model x)) ≡ false = rw c.reservations_of-reservations.ensures.value at (sym c.any_may_take.ensures ∙ fails) in
    sym (takes_never s c.args.timeline c.args.a c.args.b x none)
