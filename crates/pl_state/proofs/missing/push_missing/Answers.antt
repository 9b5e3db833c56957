use Rattle.std.proofs.Common.{◌++◌, ap, ◌∙◌}
use Rattle.pl_lists.specs.Lists.{left_out}
use Rattle.pl_state.specs.Timelines.{same_broken}
use Rattle.pl_state.proofs.missing.push_missing.Goals as goal

pub returns : goal.returns
returns c =
    let held = ap (λ l. left_out same_broken l c.args.list.now) c.deref.ensures.value ∙ c.in_ok-ordered.ensures.same c.args.list.now in
    c.in_ok-push_absent.ensures ∙ ap (λ l. c.args.missing.now ++ l) held
