use Rattle.std.proofs.Common.{◌≡◌, ◌≤◌, ◌-◌, List, length, take, drop, ℕ, ◌∙◌, arith}
use Rattle.std.proofs.lemmas.List.{take_rest, length-drop}
use Rattle.pl_plan.specs.declared.repair.RepairMove.{RepairMove}
use Rattle.pl_semantics.specs.Legal.{left_after}
use Rattle.pl_choose.specs.Tried.{best_of}
use Rattle.pl_choose.proofs.Trying.{tried_on}
use Rattle.pl_choose.proofs.tries.try_until_better.Goals as goal

pub runs-preserved : goal.runs-preserved
runs-preserved c =
    let s = c.args.board.now.state in
    let moves : List RepairMove = c.args.moves.now in
    let k : ℕ = c.runs.tried.count in
    let n : ℕ = c.in_ok-next.next.count in
    let next : c.in_ok-next.next.best ≡ best_of (left_after s) c.runs.tried.best (take n (drop k moves)) = rw (c.runs.invariant.same, take_rest) at c.in_ok-next.ensures.best in
    let few : n ≤ length (drop k moves) = rw take_rest at c.in_ok-next.ensures.few in
    let room : length (drop k moves) ≡ length moves - k = length-drop k moves in
    record {
      same = c.in_ok-next.ensures.same ∙ c.runs.invariant.same;
      best = tried_on (left_after s) moves k n c.args.best c.runs.tried.best c.in_ok-next.next.best c.runs.invariant.best next;
      tried = omega (arith, c.in_ok-next.ensures.tried);
      few = omega (arith, few, room, c.runs.invariant.few);
    }
