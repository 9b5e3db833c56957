use Rattle.std.proofs.Common.{List, [], ◌∷◌, ◌++◌, ap, ◌∙◌}
use Rattle.std.specs.List.{list_any}
use Rattle.pl_conflict.specs.declared.conflict.Conflict.{Conflict}
use Rattle.pl_update.specs.GoalsAndActivities.Near.{near}
use Rattle.pl_bounds.specs.Standing.{is_unset_one}
use Rattle.pl_bounds.proofs.unset.is_unset_in.Goals as goal

pub returns : goal.returns
returns c =
    c.some_unset-is_unset.ensures
    ∙ ap (list_any is_unset_one) (c.as_slice.ensures.value ∙ (c.in_ok-near.ensures ∙ ap (λ (ks : List Conflict). ks ++ near c.args.s.now [] (c.args.id ∷ [])) c.new-wrong.ensures.items))
