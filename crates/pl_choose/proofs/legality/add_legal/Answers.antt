use Rattle.std.proofs.Common.{◌+◌, ◌++◌, drop, get_or, None}
use Rattle.std.specs.Prelude.{filter}
use Rattle.std.proofs.lemmas.List.{drop_all, drop_more}
use Rattle.std.proofs.lemmas.List.Elements.{All-contains, Contains-get_or}
use Rattle.pl_plan.specs.declared.repair.RepairMove.TheVariants.{Add}
use Rattle.pl_semantics.specs.Legal.{is_legal}
use Rattle.pl_choose.specs.Found.{IsProper}
use Rattle.pl_choose.proofs.Finding.{filter_step, filter_end}
use Rattle.pl_choose.proofs.legality.add_legal.Goals as goal

pub add_if_legal-requires-clause-proper : goal.add_if_legal-requires-clause-proper
add_if_legal-requires-clause-proper c = All-contains (IsProper c.args.board.now.state) c.args.moves.now (get_or c.args.moves.now c.loop-mv.mv-index (Add 0 0 None)) c.requires.proper (Contains-get_or c.args.moves.now c.loop-mv.mv-index (Add 0 0 None) c.loop-mv-test.true)

pub loop-mv-preserved : goal.loop-mv-preserved
loop-mv-preserved c =
    let moves = c.args.moves.now in
    let i = c.loop-mv.mv-index in
    let p = is_legal c.args.board.now.state in
    filter_step p (drop i moves) (drop (i + 1) moves) c.loop-mv.all.items c.add_if_legal.new.all.items (get_or moves i (Add 0 0 None)) (c.args.all.now.items ++ filter p moves) (drop_more moves i (Add 0 0 None) c.loop-mv-test.true) c.in_ok-add_if_legal.ensures c.loop-mv.invariant

pub returns : goal.returns
returns c =
    let moves = c.args.moves.now in
    let i = c.loop-mv.mv-index in
    let p = is_legal c.args.board.now.state in
    filter_end p (drop i moves) c.loop-mv.all.items (c.args.all.now.items ++ filter p moves) (drop_all i moves c.loop-mv-test.false) c.loop-mv.invariant
