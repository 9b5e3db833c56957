use Rattle.std.proofs.Common.{ap, sym, ◌∙◌, arith}
use mir.Val.{SFits}
use mir.Syntax.{w64}
use Rattle.std.proofs.lemmas.Int.{ints, to_z-of_z}
use Rattle.pl_model.specs.declared.whole.Model.{Model}
use Rattle.pl_update.proofs.AboutTimelines.MovingTime.{since_first, same_level}
use Rattle.pl_update.proofs.timelines.making.idle_level.Goals as goal

pub returns : goal.returns
returns c =
    let fits : SFits w64 c.told-value.result = omega (arith, ints, c.told-value.ensures.least, c.told-value.ensures.most) in
    c.new-2.ensures ∙ same_level (ap (λ (m : Model). m.horizon) c.get.ensures) (to_z-of_z w64 c.args.least c.ranges.least) (to_z-of_z w64 c.args.most c.ranges.most)
    (sym c.requires.first) (sym (since_first c.args.s.now c.args.line 1000000000000 c.requires.first c.requires.base)) (to_z-of_z w64 c.told-value.result fits ∙ c.told-value.ensures.value)
