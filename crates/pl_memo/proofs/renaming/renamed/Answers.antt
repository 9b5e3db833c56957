use Rattle.std.proofs.Common.{◌≡◌, ◌∙◌, arith}
use Rattle.pl_memo.proofs.Pairs.{renamed_more}
use Rattle.pl_memo.proofs.renaming.renamed.Goals as goal

pub loop-place-preserved : goal.loop-place-preserved
loop-place-preserved c =
    let is = c.index-gone-place.is in
    renamed_more c.args.gone.now c.args.placed.now c.loop-place.place c.index-gone-place.result c.args.id c.loop-place-test.true c.requires (λ e. (let here : c.index-gone-place.result.id ≡ c.args.id = cc in omega (arith, c.if-a-id.false, here)))
    ∙ c.loop-place.invariant
