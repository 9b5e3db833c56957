use Rattle.std.proofs.Common.{◌≡◌, ap, ◌∙◌, subst, arith}
use Rattle.std.specs.Prelude.{IfSome}
use Rattle.std.proofs.lemmas.Grind.{common_steps}
use Rattle.pl_plan.specs.declared.activity.Activity.{Activity}
use Rattle.pl_semantics.specs.declared.plan_state.PlanState.{PlanState}
use Rattle.pl_semantics.specs.PlanStates.{found}
use Rattle.pl_semantics.specs.Whole.{IsWhole}
use Rattle.pl_update.specs.Timelines.Laws.{gone_from}
use Rattle.pl_bounds.specs.declared.asking.Asking.{Asking}
use Rattle.pl_bounds.proofs.Shifting.{shift_asks}
use Rattle.pl_bounds.proofs.asking.shifted.Goals as goal

pub returns : goal.returns
returns c = λ start.
    let s = c.args.board.now.state in
    let is = c.state-s.ensures.value in
    let whole : IsWhole s = subst (λ (t : PlanState). IsWhole t) is (c.state-s.ensures.whole c.requires.unspoiled) in
    let from = subst (λ (t : PlanState). IfSome (found t c.args.id) (λ (top : Activity). c.start_at.result ≡ top.start)) is c.start_at.ensures in
    let a : Asking = record { going = c.in_ok-going.going; coming = c.in_ok-coming.coming; start = c.start_at.result } in
    let same : c.in_ok-coming.coming.items ≡ c.in_ok-going.going.items = grind (arith, common_steps) in
    let going = c.in_ok-going.ensures ∙ ap (gone_from s) c.requires.subtree in
    shift_asks s whole c.requires.next c.args.id start c.requires.live a going (same ∙ going) from
