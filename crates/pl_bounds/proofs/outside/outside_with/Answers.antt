use Rattle.std.proofs.Common.{◌≡◌, ℤ, List, Some, ap, ◌∙◌, sym, subst, arith}
use Rattle.std.proofs.lemmas.Int.{ints}
use mir.Val.{to_z, of_z}
use mir.Syntax.{w64}
use Rattle.pl_semantics.specs.declared.plan_state.PlanState.{PlanState}
use Rattle.pl_semantics.specs.Demands.{since}
use Rattle.pl_bounds.specs.Sides.{AreRight}
use Rattle.pl_bounds.specs.declared.outside.Look.{Look}
use Rattle.pl_bounds.proofs.outside.outside_with.Goals as goal

pub returns-clause-of_plan : goal.returns-clause-of_plan
returns-clause-of_plan c =
    let s = c.args.board.now.state in
    let side = c.args.side in
    let line = c.args.line in
    let whole : c.args.limit ≡ to_z w64 (of_z w64 c.args.limit) = omega (arith, ints) in
    let looks = c.in_ok-looks.ensures in
    let right : AreRight s side line c.as_slice.result.now = subst (λ (ls : List Look). AreRight s side line ls) (sym c.as_slice.ensures.value) looks.right in
    record {
      limit = c.requires.limited ∙ ap (λ (z : ℤ). Some z) whole;
      since = c.since.ensures ∙ ap (λ (t : PlanState). since t line) c.state-s.ensures.value;
      moments = looks.rising;
      right = looks.right;
      times = c.times_now-times.ensures line right;
    }
