use Rattle.pl_report.proofs.AboutDemonstration.Beginning.{demo_begins}
use Rattle.pl_report.proofs.AboutDemonstration.Modelling.{demo_accepted}
use Rattle.pl_report.proofs.demonstration_model.laws_of_demonstration.Goals as goal

pub returns-clause-text : goal.returns-clause-text
returns-clause-text c = demo_begins

pub returns-clause-model : goal.returns-clause-model
returns-clause-model c = demo_accepted
