use Rattle.std.proofs.Common.{◌∙◌, ap, subst, refl}
use Rattle.pl_semantics.specs.declared.plan_state.PlanState.{PlanState}
use Rattle.pl_semantics.specs.Demands.{demands_of}
use Rattle.pl_semantics.specs.Whole.{IsWhole}
use Rattle.pl_bounds.proofs.Chosen.{exchanged, whole_alone}
use Rattle.pl_bounds.proofs.choosing.asked_by_choice.Goals as goal

pub demands-requires : goal.demands-requires
demands-requires c =
    let s = c.args.board.now.state in
    let whole : IsWhole s = subst (λ (t : PlanState). IsWhole t) c.state-state.ensures.value (c.state-state.ensures.whole c.requires.unspoiled) in
    rw c.requires.alone (whole_alone s whole c.requires.next c.args.root.now c.requires.live c.requires.root c.args.alternative c.requires.allowed)

pub returns : goal.returns
returns c =
    let s = c.args.board.now.state in
    let whole : IsWhole s = subst (λ (t : PlanState). IsWhole t) c.state-state.ensures.value (c.state-state.ensures.whole c.requires.unspoiled) in
    record {
      exchange = exchanged s whole c.requires.next c.args.root.now c.requires.live c.requires.root c.args.alternative c.requires.allowed c.in_ok-going.going.items c.in_ok-coming.coming.items c.in_ok-going.ensures (c.in_ok-coming.ensures ∙ ap demands_of c.requires.alone);
      start = refl;
    }
