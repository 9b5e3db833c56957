use Rattle.std.proofs.Common.{◌≡◌, ◌<◌, ◌≤◌, ◌-◌, ◌∙◌, List, length, take, drop, ℕ, arith}
use Rattle.std.proofs.lemmas.List.{take_rest, length-drop}
use Rattle.pl_plan.specs.declared.repair.RepairMove.{RepairMove}
use Rattle.pl_semantics.specs.Legal.{left_after}
use Rattle.pl_bounds.specs.Bounds.{AreLeastBesideStates, left_beside_states}
use Rattle.pl_bounds.proofs.Pushing.{least_of_beside}
use Rattle.pl_choose.specs.declared.best.Best.{Best}
use Rattle.pl_choose.specs.Tried.{best_of, AreHopes}
use Rattle.pl_choose.proofs.Trying.{least_drop, least_take, run_tried}
use Rattle.pl_choose.proofs.runs.best_by_runs.Goals as goal

pub hopes_of-requires-clause-least : goal.hopes_of-requires-clause-least
hopes_of-requires-clause-least c = least_of_beside c.args.board.now.state c.args.moves.now c.args.bounds.now c.requires.beside

pub best_of_run-requires-clause-beside : goal.best_of_run-requires-clause-beside
best_of_run-requires-clause-beside c =
    rw (c.runs.invariant.same, c.deref-in-runs.ensures.value, c.deref-in-runs-2.ensures.value) (least_take (left_beside_states c.args.board.now.state) c.front_length-count.result c.runs.hopes.moves.items c.runs.hopes.bounds.items c.runs.invariant.beside)

pub hopes_of-requires-in-runs-clause-least : goal.hopes_of-requires-in-runs-clause-least
hopes_of-requires-in-runs-clause-least c =
    let s = c.args.board.now.state in
    let k : ℕ = c.front_length-count.result in
    let moves : List RepairMove = c.runs.hopes.moves.items in
    let bounds : List ℕ = c.runs.hopes.bounds.items in
    rw (c.in_ok-best.ensures.same, c.runs.invariant.same, c.deref-in-runs-3.ensures.value, c.deref-in-runs-4.ensures.value, take_rest, take_rest) (least_of_beside s (drop k moves) (drop k bounds) (least_drop (left_beside_states s) k moves bounds c.runs.invariant.beside))

pub runs-smaller : goal.runs-smaller
runs-smaller c =
    let moves : List RepairMove = c.runs.hopes.moves.items in
    let k : ℕ = c.front_length-count.result in
    let few : length c.in_ok-hopes-2.hopes.moves.items ≤ length (drop k moves) = rw (c.deref-in-runs-3.ensures.value, take_rest) at c.in_ok-hopes-2.ensures.hopes.few in
    let within : k ≤ length moves = rw c.deref.ensures.value at c.front_length-count.ensures.few in
    let room : length (drop k moves) ≡ length moves - k = length-drop k moves in
    let less : length c.in_ok-hopes-2.hopes.moves.items < length moves = omega (arith, few, within, room, c.front_length-count.ensures.some) in
    less

pub runs-preserved : goal.runs-preserved
runs-preserved c =
    let s = c.args.board.now.state in
    let moves : List RepairMove = c.runs.hopes.moves.items in
    let bounds : List ℕ = c.runs.hopes.bounds.items in
    let k : ℕ = c.front_length-count.result in
    let best : Best = c.in_ok-best.best in
    let same = c.in_ok-best.ensures.same ∙ c.runs.invariant.same in
    let tried : best ≡ best_of (left_after s) c.runs.best (take k moves) = rw (c.runs.invariant.same, c.deref-in-runs.ensures.value) at c.in_ok-best.ensures.best in
    let others : AreHopes s best (drop k moves) c.in_ok-hopes-2.hopes.moves.items c.in_ok-hopes-2.hopes.bounds.items = rw (same, c.deref-in-runs-3.ensures.value, take_rest) at c.in_ok-hopes-2.ensures.hopes in
    let left : AreLeastBesideStates s (drop k moves) (drop k bounds) = least_drop (left_beside_states s) k moves bounds c.runs.invariant.beside in
    let beside : AreLeastBesideStates s (drop k moves) (drop k bounds) → AreLeastBesideStates s c.in_ok-hopes-2.hopes.moves.items c.in_ok-hopes-2.hopes.bounds.items = rw (same, c.deref-in-runs-3.ensures.value, c.deref-in-runs-4.ensures.value, take_rest, take_rest) at c.in_ok-hopes-2.ensures.beside in
    record {
      same = c.in_ok-hopes-2.ensures.same ∙ same;
      allowed = others.allowed;
      beside = beside left;
      count = others.count;
      leads = others.best_is ∙ run_tried (left_after s) moves k c.runs.best best (best_of (left_after s) c.args.first c.args.moves.now) tried c.runs.invariant.leads;
    }
