use Rattle.std.proofs.Common.{◌≡◌, ◌<◌, ◌≤◌, ◌-◌, ◌∙◌, List, length, take, drop, ℕ, arith}
use Rattle.std.proofs.lemmas.List.{take_rest, length-drop}
use Rattle.pl_plan.specs.declared.repair.RepairMove.{RepairMove}
use Rattle.pl_semantics.specs.Legal.{left_after}
use Rattle.pl_choose.specs.declared.best.Best.{Best}
use Rattle.pl_choose.specs.Tried.{best_of, AreHopes}
use Rattle.pl_choose.proofs.Trying.{least_drop, run_tried}
use Rattle.pl_choose.proofs.bounded.best_by_bounds.Goals as goal

pub hopes_of-requires-in-runs-clause-least : goal.hopes_of-requires-in-runs-clause-least
hopes_of-requires-in-runs-clause-least c = rw (c.in_ok-tried.ensures.same, c.runs.invariant.same, c.deref-in-runs.ensures.value, c.deref-in-runs-2.ensures.value, take_rest, take_rest) (least_drop (left_after c.args.board.now.state) c.in_ok-tried.tried.count c.runs.hopes.moves.items c.runs.hopes.bounds.items c.runs.invariant.least)

pub runs-smaller : goal.runs-smaller
runs-smaller c =
    let moves : List RepairMove = c.runs.hopes.moves.items in
    let k : ℕ = c.in_ok-tried.tried.count in
    let few : length c.in_ok-hopes-2.hopes.moves.items ≤ length (drop k moves) = rw (c.deref-in-runs.ensures.value, take_rest) at c.in_ok-hopes-2.ensures.hopes.few in
    let within : k ≤ length moves = rw c.deref.ensures.value at c.in_ok-tried.ensures.few in
    let room : length (drop k moves) ≡ length moves - k = length-drop k moves in
    let less : length c.in_ok-hopes-2.hopes.moves.items < length moves = omega (arith, few, within, room, c.in_ok-tried.ensures.tried) in
    less

pub runs-preserved : goal.runs-preserved
runs-preserved c =
    let s = c.args.board.now.state in
    let moves : List RepairMove = c.runs.hopes.moves.items in
    let k : ℕ = c.in_ok-tried.tried.count in
    let best : Best = c.in_ok-tried.tried.best in
    let same = c.in_ok-tried.ensures.same ∙ c.runs.invariant.same in
    let tried : best ≡ best_of (left_after s) c.runs.best (take k moves) = rw (c.runs.invariant.same, c.deref.ensures.value) at c.in_ok-tried.ensures.best in
    let others : AreHopes s best (drop k moves) c.in_ok-hopes-2.hopes.moves.items c.in_ok-hopes-2.hopes.bounds.items = rw (same, c.deref-in-runs.ensures.value, take_rest) at c.in_ok-hopes-2.ensures.hopes in
    record {
      same = c.in_ok-hopes-2.ensures.same ∙ same;
      allowed = others.allowed;
      least = others.least;
      count = others.count;
      leads = others.best_is ∙ run_tried (left_after s) moves k c.runs.best best (best_of (left_after s) c.args.first c.args.moves.now) tried c.runs.invariant.leads;
    }
