use Rattle.pl_renumbering.proofs.Trees.{rooted_after}
use Rattle.pl_renumbering.proofs.laws.laws_of_trees.Goals as goal

pub returns : goal.returns
returns c = λ s m whole. rooted_after s whole m
