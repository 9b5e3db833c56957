use Rattle.std.proofs.Common.{List, sym, subst}
use Rattle.std.specs.Prelude.{All}
use Rattle.std.proofs.lemmas.List.Elements.{All-push}
use Rattle.pl_bounds.specs.Steps.{IsAdditionOf}
use Rattle.pl_bounds.specs.declared.sorting.Addition.{Addition}
use Rattle.pl_bounds.proofs.sorting.additions_of.Goals as goal

pub loop-outside-preserved : goal.loop-outside-preserved
loop-outside-preserved c =
    let a = c.args.asking.now in
    let all = All-push (IsAdditionOf a) c.loop-outside.additions.items c.in_ok-addition.addition c.loop-outside.invariant c.in_ok-addition.ensures in
    subst (λ (xs : List Addition). All (IsAdditionOf a) xs) (sym c.in_ok-push.ensures.items) all
