use Rattle.std.proofs.Common.{◌≡◌, ◌∙◌, ap, subst, List, IfOk}
use Rattle.pl_conflict.specs.declared.conflict.Conflict.{Conflict}
use Rattle.pl_conflict.specs.Sorting.{left_by}
use Rattle.pl_conflict.proofs.Sorting.{left_sorted}
use Rattle.pl_conflict.proofs.set.without.Goals as goal

pub returns-in_ok-of : goal.returns-in_ok-of
returns-in_ok-of c =
    let P : List Conflict → Type 0 = λ l. IfOk c.missing-else-others-le-FEW.result (λ left. left.items ≡ l) in
    subst P (ap (λ set. left_by set c.args.all.now) c.in_ok-of.ensures ∙ left_sorted c.args.others.now c.args.all.now) c.missing-else-others-le-FEW.ensures
