use Rattle.std.proofs.Common.{◌≡◌, get_or}
use Rattle.pl_memo.proofs.Pairs.{same_more, same_all}
use Rattle.pl_memo.proofs.same.are_same.Goals as goal

pub loop-place-preserved : goal.loop-place-preserved
loop-place-preserved c =
    let a = c.index-all-place.result in
    let b = c.index-others-place.result in
    let e : a ≡ b = c.is_same.ensures c.if-not-is_same.false in
    let is = c.index-all-place.is in
    let is_too = c.index-others-place.is in
    let one : get_or c.args.all.now c.loop-place.place a ≡ get_or c.args.others.now c.loop-place.place b = cc in
    same_more c.args.all.now c.args.others.now c.loop-place.place a b c.loop-place-test.true c.requires c.loop-place.invariant one

pub returns : goal.returns
returns c = λ _. same_all c.args.all.now c.args.others.now c.loop-place.place c.loop-place-test.false c.requires c.loop-place.invariant
