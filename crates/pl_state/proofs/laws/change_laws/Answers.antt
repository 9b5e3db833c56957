use Rattle.pl_points.proofs.Alike.{exchange}
use Rattle.pl_state.specs.Timelines.{same_bad, same_broken}
use Rattle.pl_state.proofs.Apart.{bad_exact, broken_exact}
use Rattle.pl_state.proofs.laws.change_laws.Goals as goal

pub returns-clause-musts : goal.returns-clause-musts
returns-clause-musts c = λ broken broken' bad bad' change is. exchange same_broken broken_exact broken broken' change.musts_went change.musts_came is.musts_went is.musts_came

pub returns-clause-steps : goal.returns-clause-steps
returns-clause-steps c = λ broken broken' bad bad' change is. exchange same_bad bad_exact bad bad' change.steps_went change.steps_came is.steps_went is.steps_came
