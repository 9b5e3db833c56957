use Rattle.pl_memo.proofs.Changing.{none_differs, after_replacement}
use Rattle.pl_memo.proofs.Steps.{after_leaving, after_coming}
use Rattle.pl_memo.proofs.Shapes.{is_replaced}
use Rattle.pl_memo.proofs.laws.laws_of_differences.Goals as goal

pub returns-clause-none : goal.returns-clause-none
returns-clause-none c = none_differs

pub returns-clause-leaves : goal.returns-clause-leaves
returns-clause-leaves c = λ base xs d a rises is here. after_leaving base xs d rises is a here

pub returns-clause-comes : goal.returns-clause-comes
returns-clause-comes c = λ base xs d e a rises is free comes. after_coming base xs d rises is a e free comes

pub returns-clause-replacement : goal.returns-clause-replacement
returns-clause-replacement c = λ base xs out more d e rises is leave can come. after_replacement base xs d e out more rises is leave can come

pub returns-clause-shape : goal.returns-clause-shape
returns-clause-shape c = is_replaced
