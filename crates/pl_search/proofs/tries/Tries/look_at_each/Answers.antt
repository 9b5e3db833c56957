use Rattle.std.proofs.Common.{◌≡◌, ◌≤◌, ◌-◌, List, length, drop, ℕ, ◌∙◌, arith}
use Rattle.std.proofs.lemmas.List.{take_rest, length-drop}
use Rattle.std.proofs.lemmas.List.Elements.{All-drop}
use Rattle.pl_plan.specs.declared.repair.RepairMove.{RepairMove}
use Rattle.pl_search.specs.Undos.{MayBeMade}
use Rattle.pl_search.proofs.tries.Tries.look_at_each.Goals as goal

pub look_at_run-requires-clause-allowed : goal.look_at_run-requires-clause-allowed
look_at_run-requires-clause-allowed c = rw (c.runs.invariant.same, take_rest) (All-drop (MayBeMade c.args.board.now.state) c.runs.number c.args.fresh.now c.requires.allowed)

pub runs-preserved : goal.runs-preserved
runs-preserved c =
    let fresh : List RepairMove = c.args.fresh.now in
    let k : ℕ = c.runs.number in
    let few : c.in_ok-count.count ≤ length (drop k fresh) = rw take_rest at c.in_ok-count.ensures.few in
    let room : length (drop k fresh) ≡ length fresh - k = length-drop k fresh in
    record {
      same = c.in_ok-count.ensures.same ∙ c.runs.invariant.same;
      few = omega (arith, few, room, c.runs.invariant.few);
    }
