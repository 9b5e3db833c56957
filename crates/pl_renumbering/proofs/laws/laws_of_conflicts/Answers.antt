use Rattle.std.proofs.Common.{length, ap, ◌∙◌}
use Rattle.pl_semantics.specs.Conflicts.{conflicts_of}
use Rattle.pl_renumbering.proofs.Timelines.{timelines_renumbered}
use Rattle.pl_renumbering.proofs.Conflicts.{conflicts_renumbered, as_many_conflicts, is_image}
use Rattle.pl_renumbering.proofs.Goals.{goals_renumbered}
use Rattle.pl_renumbering.proofs.Wrong.{wrong_renumbered}
use Rattle.pl_renumbering.proofs.Links.{links_renumbered}
use Rattle.pl_renumbering.proofs.laws.laws_of_conflicts.Goals as goal

pub returns-clause-goals : goal.returns-clause-goals
returns-clause-goals c = goals_renumbered

pub returns-clause-activities : goal.returns-clause-activities
returns-clause-activities c = λ f next s keeps rooted. wrong_renumbered f next s keeps rooted

pub returns-clause-links : goal.returns-clause-links
returns-clause-links c = λ f next s keeps rooted. links_renumbered f next s keeps rooted

pub returns-clause-timelines : goal.returns-clause-timelines
returns-clause-timelines c = λ f next s keeps rooted. timelines_renumbered f next s keeps rooted

pub returns-clause-all : goal.returns-clause-all
returns-clause-all c = λ f s t is rooted. ap conflicts_of (is_image f s t is) ∙ conflicts_renumbered f t.next_id s is.order rooted

pub returns-clause-count : goal.returns-clause-count
returns-clause-count c = λ f s t is rooted. ap (λ u. length (conflicts_of u)) (is_image f s t is) ∙ as_many_conflicts f t.next_id s is.order rooted
