use Rattle.std.proofs.Common.{◌≡◌, get_or, subst}
use Rattle.pl_plan.specs.declared.activity.Activity.{Activity}
use Rattle.pl_memo.specs.Renames.{AreTwins}
use Rattle.pl_memo.proofs.Pairs.{pairs_more, pairs_all}
use Rattle.pl_memo.proofs.same.are_all_twins.Goals as goal

pub loop-place-preserved : goal.loop-place-preserved
loop-place-preserved c =
    let a = c.index-all-place.result in
    let b = c.index-others-place.result in
    let is = c.index-all-place.is in
    let is_too = c.index-others-place.is in
    let here : a ≡ get_or c.args.all.now c.loop-place.place a = cc in
    let here_too : b ≡ get_or c.args.others.now c.loop-place.place b = cc in
    let one : AreTwins (get_or c.args.all.now c.loop-place.place a) (get_or c.args.others.now c.loop-place.place b) =
    subst (λ (x : Activity). AreTwins x (get_or c.args.others.now c.loop-place.place b)) here (subst (λ (x : Activity). AreTwins a x) here_too (c.are_twins.ensures c.if-not-are_twins.false)) in
    pairs_more AreTwins c.args.all.now c.args.others.now c.loop-place.place a b c.loop-place-test.true c.requires c.loop-place.invariant one

pub returns : goal.returns
returns c = λ _. pairs_all AreTwins c.args.all.now c.args.others.now c.loop-place.place c.loop-place-test.false c.requires c.loop-place.invariant
