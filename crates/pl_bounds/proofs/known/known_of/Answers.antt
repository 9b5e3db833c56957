use Rattle.std.proofs.Common.{sym, subst, arith}
use Rattle.std.specs.Prelude.{IfOk}
use Rattle.pl_semantics.specs.declared.plan_state.PlanState.{PlanState}
use Rattle.pl_semantics.specs.Whole.{IsWhole}
use Rattle.pl_bounds.specs.Known.{IsKnownOf}
use Rattle.pl_bounds.specs.declared.known.Known.{Known}
use Rattle.pl_bounds.proofs.Knowing.{known_other, valueless_left}
use Rattle.pl_bounds.proofs.known.known_of.Goals as goal

pub returns-in-Assign-clause-known : goal.returns-in-Assign-clause-known
returns-in-Assign-clause-known c =
    let s = c.args.board.now.state in
    let whole : IsWhole s = subst (λ (t : PlanState). IsWhole t) c.state-s.ensures.value (c.state-s.ensures.whole c.requires.unspoiled) in
    subst (λ (k : Known). IsKnownOf s k) (sym c.known_of_other.ensures)
    (rw c.in-Assign.is (known_other s _ c.args.standing.now.valueless (valueless_left s whole c.requires.next c.args.standing.now c.requires.standing c.in-Assign.id c.in-Assign.param c.in-Assign.value)))

pub returns-in_default-clause-known : goal.returns-in_default-clause-known
returns-in_default-clause-known c =
    let s = c.args.board.now.state in
    subst (λ (k : Known). IsKnownOf s k) (sym c.known_of_other-in_default.ensures) (known_other s c.args.mv.now 0 (λ m can alike. omega arith))

pub returns-in-Add-clause-known : goal.returns-in-Add-clause-known
returns-in-Add-clause-known c = subst (λ (t : PlanState). IfOk c.known_of_new.result (λ k. IsKnownOf t k)) c.state-s.ensures.value c.known_of_new.ensures.known
