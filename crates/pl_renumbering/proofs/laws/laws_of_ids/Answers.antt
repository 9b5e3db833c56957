use Rattle.pl_renumbering.proofs.Activities.{found_renumbered, descends_same, without_subtree_renumbered}
use Rattle.pl_renumbering.proofs.Sorted.{sorted_renumbered}
use Rattle.pl_renumbering.proofs.laws.laws_of_ids.Goals as goal

pub returns-clause-found : goal.returns-clause-found
returns-clause-found c = λ f xs id keeps. found_renumbered f keeps id xs

pub returns-clause-below : goal.returns-clause-below
returns-clause-below c = λ f xs top id keeps rooted. descends_same f keeps xs rooted top id

pub returns-clause-left : goal.returns-clause-left
returns-clause-left c = λ f xs top keeps rooted. without_subtree_renumbered f keeps xs rooted top

pub returns-clause-sorting : goal.returns-clause-sorting
returns-clause-sorting c = λ f ks keeps. sorted_renumbered f keeps ks
