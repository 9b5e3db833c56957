use Rattle.std.proofs.Common.{List, sym, subst}
use Rattle.pl_state.specs.Keys.{Has}
use Rattle.pl_bounds.specs.Marks.{AreMarks}
use Rattle.pl_bounds.specs.declared.marks.Mark.{Mark}
use Rattle.pl_bounds.proofs.Marking.{marks_push}
use Rattle.pl_bounds.proofs.marks.add_mark.Goals as goal

pub returns-in_ok-push : goal.returns-in_ok-push
returns-in_ok-push c = λ s stands are. subst (λ (ks : List Mark). AreMarks s ks) (sym c.in_ok-push.ensures.items) (marks_push s c.args.marks.now.items c.args.mark (subst (λ (ks : List Mark). Has c.args.mark ks → ⊥) c.as_slice.ensures.value (c.is_new.ensures c.if-is_new.true)) stands are)
