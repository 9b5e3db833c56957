use Rattle.pl_update.proofs.AboutLinks.Keeping.{kept_first, keeps_with_goal, keeps_without_goal, keeps_told, keeps_with_next}
use Rattle.pl_update.proofs.links.laws.laws_of_keeping.Goals as goal

pub returns-clause-with_goal : goal.returns-clause-with_goal
returns-clause-with_goal c = keeps_with_goal

pub returns-clause-without_goal : goal.returns-clause-without_goal
returns-clause-without_goal c = keeps_without_goal

pub returns-clause-told : goal.returns-clause-told
returns-clause-told c = keeps_told

pub returns-clause-with_next : goal.returns-clause-with_next
returns-clause-with_next c = keeps_with_next

pub returns-clause-first : goal.returns-clause-first
returns-clause-first c = kept_first
