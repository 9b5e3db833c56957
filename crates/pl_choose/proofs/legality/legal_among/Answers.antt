use Rattle.std.proofs.Common.{◌≡◌, ◌≤◌, ℕ, ◌-◌, ◌++◌, List, length, take, drop, arith}
use Rattle.std.specs.Prelude.{filter}
use Rattle.std.proofs.lemmas.List.{drop-drop, length-drop, take_rest}
use Rattle.std.proofs.lemmas.List.Elements.{All-drop}
use Rattle.pl_plan.specs.declared.repair.RepairMove.{RepairMove}
use Rattle.pl_semantics.specs.Legal.{is_legal}
use Rattle.pl_choose.specs.Found.{IsProper}
use Rattle.pl_choose.proofs.Finding.{run_step}
use Rattle.pl_choose.proofs.legality.legal_among.Goals as goal

pub add_run-requires-clause-some : goal.add_run-requires-clause-some
add_run-requires-clause-some c = rw take_rest (let rest = length-drop c.runs.done c.args.tried.now in omega (arith, rest, c.runs-test.true))

pub add_run-requires-clause-proper : goal.add_run-requires-clause-proper
add_run-requires-clause-proper c = rw take_rest (All-drop (IsProper c.args.board.now.state) c.runs.done c.args.tried.now c.requires.proper)

pub runs-preserved : goal.runs-preserved
runs-preserved c =
    let p = is_legal c.args.board.now.state in
    let tried : List RepairMove = c.args.tried.now in
    let k : ℕ = c.runs.done in
    let n : ℕ = c.in_ok-count.count in
    let grown : c.add_run.new.all.items ≡ c.runs.all.items ++ filter p (take n (drop k tried)) = rw take_rest at c.in_ok-count.ensures.kept in
    let few : n ≤ length (drop k tried) = rw take_rest at c.in_ok-count.ensures.few in
    let room : length (drop k tried) ≡ length tried - k = length-drop k tried in
    record {
      kept = rw drop-drop at (run_step p (drop k tried) c.runs.all.items c.add_run.new.all.items n (filter p tried) grown c.runs.invariant.kept);
      few = omega (arith, few, room, c.runs.invariant.few);
    }
