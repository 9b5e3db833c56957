use Rattle.pl_state.specs.Sets.{is_allowed}
use Rattle.pl_state.specs.Timelines.{state_at}
use Rattle.pl_state.proofs.Sorting.{bad_sorted, broken_sorted}
use Rattle.pl_state.proofs.laws.told_in_order.Goals as goal

pub returns-clause-bad : goal.returns-clause-bad
returns-clause-bad c = λ s sorted. bad_sorted (is_allowed s.any s.steps) s.base s.horizon s.moment s.value s.sets sorted

pub returns-clause-broken : goal.returns-clause-broken
returns-clause-broken c = λ s sorted distinct. broken_sorted (state_at s) s.moment s.horizon s.musts sorted distinct
