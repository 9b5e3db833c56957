use Rattle.std.proofs.Common.{◌≡◌, ◌∙◌, ap, sym, subst}
use Rattle.pl_semantics.specs.declared.plan_state.PlanState.{PlanState}
use Rattle.pl_semantics.specs.Demands.{demands_of}
use Rattle.pl_semantics.specs.Whole.{IsWhole}
use Rattle.pl_bounds.specs.Askings.{root_alone}
use Rattle.pl_bounds.proofs.Adding.{addition_asks, whole_alone}
use Rattle.pl_bounds.proofs.exchange.asking_of_new.Goals as goal

pub added-requires : goal.added-requires
added-requires c =
    let s : PlanState = c.args.board.now.state in
    let whole : IsWhole s = subst IsWhole c.state.ensures.value (c.state.ensures.whole c.requires.unspoiled) in
    let is : c.in_ok-alone.alone ≡ root_alone s c.args.kind c.args.start c.args.goal = c.in_ok-alone.ensures ∙ ap (λ (t : PlanState). root_alone t c.args.kind c.args.start c.args.goal) c.state.ensures.value in
    subst IsWhole (sym is) (whole_alone s whole c.requires.next c.args.kind c.args.start c.args.goal c.requires.allowed)

pub returns : goal.returns
returns c =
    let s : PlanState = c.args.board.now.state in
    let whole : IsWhole s = subst IsWhole c.state.ensures.value (c.state.ensures.whole c.requires.unspoiled) in
    let is : c.in_ok-alone.alone ≡ root_alone s c.args.kind c.args.start c.args.goal = c.in_ok-alone.ensures ∙ ap (λ (t : PlanState). root_alone t c.args.kind c.args.start c.args.goal) c.state.ensures.value in
    addition_asks s whole c.requires.next c.args.kind c.args.start c.args.goal c.requires.allowed
    c.in_ok-asking.asking c.in_ok-asking.ensures.going (c.in_ok-asking.ensures.coming ∙ ap demands_of is) c.in_ok-asking.ensures.start
