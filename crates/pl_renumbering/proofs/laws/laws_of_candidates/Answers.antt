use Rattle.pl_renumbering.proofs.Renumbering.{candidates_too, legal_too, repair_too, repairable_too, stuck_too}
use Rattle.pl_renumbering.proofs.laws.laws_of_candidates.Goals as goal

pub returns-clause-candidates : goal.returns-clause-candidates
returns-clause-candidates c = λ f s t q is rooted. candidates_too f s t is q rooted

pub returns-clause-legal : goal.returns-clause-legal
returns-clause-legal c = λ f s t q is ahead rooted. legal_too f s t is ahead rooted q

pub returns-clause-has : goal.returns-clause-has
returns-clause-has c = λ f s t q is ahead rooted. repair_too f s t is ahead rooted q

pub returns-clause-repairable : goal.returns-clause-repairable
returns-clause-repairable c = repairable_too

pub returns-clause-stuck : goal.returns-clause-stuck
returns-clause-stuck c = stuck_too
