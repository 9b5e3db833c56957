use Rattle.std.proofs.Common.{sym, subst}
use Rattle.pl_semantics.specs.declared.plan_state.PlanState.{PlanState}
use Rattle.pl_semantics.specs.Whole.{IsWhole}
use Rattle.pl_moves.specs.Changes.{IsNamedLive}
use Rattle.pl_moves.proofs.Made.{IsMadeBy, named_live, near_if, made, can_replace}
use Rattle.pl_moves.proofs.application.replace_by.Goals as goal

pub change_of-requires-clause-named : goal.change_of-requires-clause-named
change_of-requires-clause-named g c = subst (λ (s : PlanState). IsNamedLive s c.args.mv.now) (sym c.state.ensures.value) (named_live c.args.board.now.state c.args.mv.now c.requires.proper)

pub change_of-requires-clause-near : goal.change_of-requires-clause-near
change_of-requires-clause-near g c = near_if c.args.board.now.state (subst IsWhole c.state.ensures.value (c.state.ensures.whole c.requires.unspoiled)) c.args.mv.now c.requires.proper c.requires.allowed

pub make_change-requires : goal.make_change-requires
make_change-requires g c =
    let whole : IsWhole c.args.board.now.state = subst IsWhole c.state.ensures.value (c.state.ensures.whole c.requires.unspoiled) in
    let by : IsMadeBy c.args.board.now.state c.args.mv.now = made c.args.board.now.state whole c.args.mv.now c.requires.activities c.requires.proper c.requires.allowed in
    record { unspoiled = c.requires.unspoiled; can = rw (c.in-Ok.ensures.gone, c.in-Ok.ensures.placed, c.state.ensures.value) (can_replace c.args.board.now.state whole c.requires.next c.args.mv.now by) }

pub returns-in-Ok-clause-ok : goal.returns-in-Ok-clause-ok
returns-in-Ok-clause-ok g c =
    let whole : IsWhole c.args.board.now.state = subst IsWhole c.state.ensures.value (c.state.ensures.whole c.requires.unspoiled) in
    let by : IsMadeBy c.args.board.now.state c.args.mv.now = made c.args.board.now.state whole c.args.mv.now c.requires.activities c.requires.proper c.requires.allowed in
    rw (c.in-Ok.ensures.gone, c.in-Ok.ensures.placed, c.state.ensures.value, by.is) at c.make_change.ensures.ok
