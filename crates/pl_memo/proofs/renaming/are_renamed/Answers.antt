use Rattle.pl_memo.specs.Renames.{renamed_move}
use Rattle.pl_memo.proofs.Pairs.{mapped_more, mapped_all}
use Rattle.pl_memo.proofs.renaming.are_renamed.Goals as goal

pub loop-place-preserved : goal.loop-place-preserved
loop-place-preserved c =
    mapped_more (renamed_move c.args.since.now) c.args.moves.now c.args.others.now c.loop-place.place _ _ c.loop-place-test.true c.requires.count c.loop-place.invariant (c.is_renamed.ensures c.if-not-is_renamed.false)

pub returns : goal.returns
returns c = λ _. mapped_all (renamed_move c.args.since.now) c.args.moves.now c.args.others.now c.loop-place.place c.loop-place-test.false c.requires.count c.loop-place.invariant
