use Rattle.std.proofs.Common.{◌≡◌, List, sym, subst}
use Rattle.std.specs.Prelude.{All}
use Rattle.std.proofs.lemmas.List.Elements.{All-push}
use Rattle.pl_bounds.specs.Looks.{IsElse}
use Rattle.pl_bounds.specs.Sides.{AreDifferent, IsOutsideOf}
use Rattle.pl_bounds.specs.declared.outside.Outside.{Outside}
use Rattle.pl_bounds.proofs.Apart.{different_end}
use Rattle.pl_bounds.proofs.outside.add.Goals as goal

pub returns-in_ok-push-in-Some-clause-different : goal.returns-in_ok-push-in-Some-clause-different
returns-in_ok-push-in-Some-clause-different c =
    let o = c.in-Some.outside in
    let side = c.args.side in
    let line = c.args.line in
    let all = c.args.all.now.items in
    let here : (o.line ≡ line) × (o.side ≡ side) = rw c.in-Some.is at c.in_ok-outside.ensures.here in
    let elsewhere : All (IsElse side line) all = subst (λ (xs : List Outside). All (IsElse side line) xs) c.as_slice.ensures.value (c.is_there.ensures c.if-is_there.false) in
    subst (λ (xs : List Outside). AreDifferent xs) (sym c.in_ok-push-in-Some.ensures.items) (different_end all side line o here.0 here.1 c.requires.different elsewhere)

pub returns-in_ok-push-in-Some-clause-of_plan : goal.returns-in_ok-push-in-Some-clause-of_plan
returns-in_ok-push-in-Some-clause-of_plan c =
    let s = c.args.board.now.state in
    let o = c.in-Some.outside in
    let here : IsOutsideOf s o = rw c.in-Some.is at c.in_ok-outside.ensures.of_plan in
    let all = All-push (IsOutsideOf s) c.args.all.now.items o c.requires.of_plan here in
    subst (λ (xs : List Outside). All (IsOutsideOf s) xs) (sym c.in_ok-push-in-Some.ensures.items) all
