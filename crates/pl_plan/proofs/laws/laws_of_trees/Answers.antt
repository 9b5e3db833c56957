use Rattle.pl_plan.proofs.TreeLaws.{descends_join, descends_sound, descends_complete, root_is, root_only}
use Rattle.pl_plan.proofs.Members.{subtree_members, subtree_rises}
use Rattle.pl_plan.proofs.laws.laws_of_trees.Goals as goal

pub returns : goal.returns
returns c = record { sound = descends_sound; complete = descends_complete; joins = descends_join; members = subtree_members; rising = subtree_rises; root = root_is; only_root = root_only }
