use Rattle.std.proofs.Common.{◌≡◌, ℕ, ◌-◌, ◌<◌, List, length, true, get_or, None, arith}
use Rattle.std.proofs.lemmas.List.Elements.{All-contains, Contains-get_or}
use Rattle.pl_plan.specs.declared.repair.RepairMove.{RepairMove}
use Rattle.pl_plan.specs.declared.repair.RepairMove.TheVariants.{Add}
use Rattle.pl_choose.specs.Stretches.{is_kin}
use Rattle.pl_choose.proofs.Between.{all_kin}
use Rattle.pl_choose.proofs.stretch.stretch_of.Goals as goal

pub between-requires-clause-first : goal.between-requires-clause-first
between-requires-clause-first c =
    let run : List RepairMove = c.args.run.now in
    let P : RepairMove → Type 0 = λ m. is_kin c.args.board.now.state c.args.of m ≡ true in
    let some : 0 < length run = omega arith in
    All-contains P run (get_or run 0 (Add 0 0 None)) (all_kin c.args.board.now.state c.args.of run c.requires.proper c.requires.same) (Contains-get_or run 0 (Add 0 0 None) some)

pub between-requires-clause-last : goal.between-requires-clause-last
between-requires-clause-last c =
    let run : List RepairMove = c.args.run.now in
    let P : RepairMove → Type 0 = λ m. is_kin c.args.board.now.state c.args.of m ≡ true in
    let at : ℕ = length run - 1 in
    let within : at < length run = omega arith in
    All-contains P run (get_or run at (Add 0 0 None)) (all_kin c.args.board.now.state c.args.of run c.requires.proper c.requires.same) (Contains-get_or run at (Add 0 0 None) within)
