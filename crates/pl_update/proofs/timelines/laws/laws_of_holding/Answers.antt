use Rattle.pl_update.proofs.AboutTimelines.StandingLines.{used_now, level_now, state_now, wrong_is, told_all, all_told}
use Rattle.pl_update.proofs.AboutTimelines.StandingNamed.{are_named, few_held}
use Rattle.pl_update.proofs.timelines.laws.laws_of_holding.Goals as goal

pub returns-clause-uses : goal.returns-clause-uses
returns-clause-uses c = λ s lines line x are here t. used_now s lines are line x here t

pub returns-clause-levels : goal.returns-clause-levels
returns-clause-levels c = λ s lines line x are here t. level_now s lines are line x here t

pub returns-clause-states : goal.returns-clause-states
returns-clause-states c = λ s lines line x whole are here t. state_now s lines are line x whole.rising here t

pub returns-clause-wrong : goal.returns-clause-wrong
returns-clause-wrong c = λ s lines line whole are. wrong_is s lines are line whole.rising

pub returns-clause-told : goal.returns-clause-told
returns-clause-told c = λ s lines set whole are told q of. told_all s lines whole.rising are set told q of

pub returns-clause-all_told : goal.returns-clause-all_told
returns-clause-all_told c = λ s lines set whole are all. all_told s lines whole.rising are set all

pub returns-clause-named : goal.returns-clause-named
returns-clause-named c = λ s lines whole are. are_named s lines whole.rising are

pub returns-clause-few : goal.returns-clause-few
returns-clause-few c = λ s lines line whole are. few_held s lines whole are line
