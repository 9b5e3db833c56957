use Rattle.pl_state.specs.Sets.{set_key, same_setting}
use Rattle.pl_state.specs.Musts.{must_key, same_must}
use Rattle.pl_state.proofs.Keys.{sorted_with, sorted_without}
use Rattle.pl_state.proofs.laws.order_laws.Goals as goal

pub returns-clause-set_came : goal.returns-clause-set_came
returns-clause-set_came c = sorted_with set_key

pub returns-clause-set_went : goal.returns-clause-set_went
returns-clause-set_went c = sorted_without set_key same_setting

pub returns-clause-must_came : goal.returns-clause-must_came
returns-clause-must_came c = sorted_with must_key

pub returns-clause-must_went : goal.returns-clause-must_went
returns-clause-must_went c = sorted_without must_key same_must
