use Rattle.std.proofs.Common.{◌≡◌, get_or, None, ◌∙◌}
use Rattle.std.proofs.lemmas.List.{get_or-map}
use Rattle.pl_plan.specs.declared.repair.RepairMove.{RepairMove}
use Rattle.pl_plan.specs.declared.repair.RepairMove.TheVariants.{Add}
use Rattle.pl_semantics.specs.Legal.{left_after}
use Rattle.pl_moves.specs.Runs.{counted}
use Rattle.pl_choose.proofs.Trying.{next_tried, all_tried}
use Rattle.pl_choose.proofs.tries.best_among.Goals as goal

pub exact-requires-clause-allowed : goal.exact-requires-clause-allowed
exact-requires-clause-allowed c = rw c.loop-place.invariant.same (c.requires.allowed c.loop-place.place _ c.loop-place-test.true)

pub exact-requires-clause-count : goal.exact-requires-clause-count
exact-requires-clause-count c = rw (c.loop-place.invariant.same, c.requires.counts) (get_or-map (counted c.args.board.now.state) c.args.moves.now c.loop-place.place _ _ c.loop-place-test.true)

pub loop-place-preserved : goal.loop-place-preserved
loop-place-preserved c =
    let next : RepairMove = get_or c.args.moves.now c.loop-place.place (Add 0 0 None) in
    let left : c.in_ok-left.left ≡ left_after c.args.board.now.state next = rw c.loop-place.invariant.same at c.in_ok-left.ensures.count in
    record {
      same = c.in_ok-left.ensures.same ∙ c.loop-place.invariant.same;
      leads = next_tried (left_after c.args.board.now.state) c.args.moves.now c.loop-place.place c.in_ok-left.left (Add 0 0 None) c.loop-place.best c.better-best.result _ c.loop-place-test.true left c.better-best.ensures c.loop-place.invariant.leads;
    }

pub returns-clause-best : goal.returns-clause-best
returns-clause-best c = all_tried (left_after c.args.board.now.state) c.args.moves.now c.loop-place.place c.loop-place.best _ c.loop-place-test.false c.loop-place.invariant.leads
