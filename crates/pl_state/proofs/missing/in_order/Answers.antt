use Rattle.std.proofs.Common.{ap, ◌∙◌}
use Rattle.pl_lists.specs.Lists.{left_out}
use Rattle.pl_state.specs.Timelines.{same_broken}
use Rattle.pl_state.proofs.Looking.{left_sorted}
use Rattle.pl_state.proofs.missing.in_order.Goals as goal

pub returns-clause-same : goal.returns-clause-same
returns-clause-same c = λ list.
    left_sorted c.in_ok-ordered.ordered.items c.sort.new.self.items list c.in_ok-sort.ensures.permutation
    ∙ ap (λ l. left_out same_broken l list) c.in_ok-ordered.ensures.items
