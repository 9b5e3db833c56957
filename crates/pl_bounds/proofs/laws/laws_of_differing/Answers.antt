use Rattle.pl_bounds.proofs.Differing.{apart_both, apart_passing, spans_differ}
use Rattle.pl_bounds.proofs.laws.laws_of_differing.Goals as goal

pub returns-clause-both : goal.returns-clause-both
returns-clause-both c = apart_both

pub returns-clause-passing : goal.returns-clause-passing
returns-clause-passing c = apart_passing

pub returns-clause-at_spans : goal.returns-clause-at_spans
returns-clause-at_spans c = spans_differ
