use Rattle.std.proofs.Common.{◌≡◌, get_or, ap, ◌∙◌}
use Rattle.std.proofs.lemmas.List.{get_or_default}
use Rattle.std.proofs.lemmas.List.Elements.{All-set}
use Rattle.pl_bounds.specs.Sides.{IsOutsideOf}
use Rattle.pl_bounds.specs.declared.outside.Outside.{Outside}
use Rattle.pl_bounds.proofs.Apart.{different_set}
use Rattle.pl_bounds.proofs.further_looks.look_at_one.Goals as goal

pub returns-clause-of_plan : goal.returns-clause-of_plan
returns-clause-of_plan c = All-set (IsOutsideOf c.args.board.now.state) c.args.all.now.items c.args.place c.look_once_for.new.self c.in_ok-look_once_for.ensures.of_plan c.requires.of_plan

pub returns-clause-different : goal.returns-clause-different
returns-clause-different c =
    let all = c.args.all.now.items in
    let o = c.look_once_for.new.self in
    let was = c.index_mut.result.now in
    let at : (d : Outside) → was ≡ get_or all c.args.place d = λ d. c.index_mut.ensures.value ∙ get_or_default all c.args.place was d c.requires.there in
    different_set all c.args.place o c.requires.there (λ d. (c.in_ok-look_once_for.ensures.line ∙ ap (λ (x : Outside). x.line) (at d), c.in_ok-look_once_for.ensures.side ∙ ap (λ (x : Outside). x.side) (at d))) c.requires.different
