use Rattle.std.proofs.Common.{List}
use Rattle.std.specs.Prelude.{take}
use Rattle.std.proofs.lemmas.Result.{IfOk-weaker}
use Rattle.std.proofs.lemmas.List.Elements.{All-head, All-tail, All-cons, All-take}
use Rattle.pl_plan.specs.declared.repair.RepairMove.{RepairMove}
use Rattle.pl_moves.specs.Runs.{CanBeMade, IsCountOf}
use Rattle.pl_moves.proofs.Along.{counts_more}
use Rattle.pl_moves.proofs.runs.count_run.Goals as goal

pub count_along-requires-clause-allowed : goal.count_along-requires-clause-allowed
count_along-requires-clause-allowed g c =
    let P : RepairMove → Type 0 = CanBeMade c.args.board.now.state in
    All-cons P c.args.first.now _ (All-head P c.args.first.now c.args.rest.now c.requires.allowed) (All-take P c.run_length.result c.args.rest.now (All-tail P c.args.first.now c.args.rest.now c.requires.allowed))

pub returns-in-Ok-clause-counts : goal.returns-in-Ok-clause-counts
returns-in-Ok-clause-counts g c =
    let s = c.args.board.now.state in
    let first : RepairMove = c.args.first.now in
    let front : List RepairMove = take c.run_length.result c.args.rest.now in
    IfOk-weaker c.count_along.result (λ ns. IsCountOf s first front ns.first ns.others.items) (λ ns. IsCountOf s first c.args.rest.now ns.first ns.others.items) (λ ns is. counts_more s first c.run_length.result c.args.rest.now ns.first ns.others.items is) c.count_along.ensures.counts
