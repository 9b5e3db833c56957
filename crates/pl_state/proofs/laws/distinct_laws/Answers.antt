use Rattle.pl_state.specs.Sets.{set_key, set_before, same_setting}
use Rattle.pl_state.specs.Musts.{must_key, must_before, same_must}
use Rattle.pl_state.proofs.Apart.{distinct_with, distinct_without, gone_has, knows_set}
use Rattle.pl_state.proofs.Parts.{knows_must}
use Rattle.pl_state.proofs.laws.distinct_laws.Goals as goal

pub returns-clause-set_came : goal.returns-clause-set_came
returns-clause-set_came c = λ u xs none distinct. distinct_with set_key (set_before u) u xs none distinct

pub returns-clause-set_went : goal.returns-clause-set_went
returns-clause-set_went c = distinct_without set_key same_setting

pub returns-clause-set_gone : goal.returns-clause-set_gone
returns-clause-set_gone c = gone_has set_key same_setting knows_set

pub returns-clause-must_came : goal.returns-clause-must_came
returns-clause-must_came c = λ u xs none distinct. distinct_with must_key (must_before u) u xs none distinct

pub returns-clause-must_went : goal.returns-clause-must_went
returns-clause-must_went c = distinct_without must_key same_must

pub returns-clause-must_gone : goal.returns-clause-must_gone
returns-clause-must_gone c = gone_has must_key same_must knows_must
