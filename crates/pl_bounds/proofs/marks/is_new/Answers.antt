use Rattle.std.proofs.Common.{List, sym, subst}
use Rattle.std.proofs.lemmas.List.{take_all}
use Rattle.pl_state.specs.Keys.{Has}
use Rattle.pl_bounds.specs.declared.marks.Mark.{Mark}
use Rattle.pl_bounds.proofs.Marking.{new_more}
use Rattle.pl_bounds.proofs.marks.is_new.Goals as goal

pub loop-other-preserved : goal.loop-other-preserved
loop-other-preserved c = new_more c.args.mark c.args.marks.now c.loop-other.other-index _ c.loop-other-test.true c.loop-other.invariant (c.is_same.ensures c.if-is_same.false)

pub returns : goal.returns
returns c = λ _ has. c.loop-other.invariant (subst (λ (ks : List Mark). Has c.args.mark ks) (sym (take_all c.loop-other.other-index c.args.marks.now c.loop-other-test.false)) has)
