use Rattle.std.proofs.Common.{◌≡◌, ◌≤◌, ap, sym, ◌∙◌, subst}
use Rattle.pl_lists.specs.Lists.{back}
use Rattle.pl_state.specs.Sets.{is_passed}
use Rattle.pl_state.specs.Near.{next_moment}
use Rattle.pl_state.proofs.Orders.{later_moment}
use Rattle.pl_state.proofs.sets.end_of_base.Goals as goal

pub returns-clause-later : goal.returns-clause-later
returns-clause-later c =
    let is : c.next_moment.result ≡ next_moment c.args.horizon (back (is_passed c.args.base) c.args.sets.now) = c.next_moment.ensures ∙ ap (next_moment c.args.horizon) c.passed_count-count.ensures.rest in
    subst (λ n. c.args.base ≤ n) (sym is) (later_moment c.args.horizon c.args.base c.args.sets.now c.requires)
