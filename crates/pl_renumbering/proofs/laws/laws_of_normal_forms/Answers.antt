use Rattle.pl_renumbering.proofs.Alike.{from_normal, move_back, as_many_alike, left_alike}
use Rattle.pl_renumbering.proofs.laws.laws_of_normal_forms.Goals as goal

pub returns-clause-form : goal.returns-clause-form
returns-clause-form c = from_normal

pub returns-clause-moves : goal.returns-clause-moves
returns-clause-moves c = λ s m whole proper. move_back s whole m proper

pub returns-clause-count : goal.returns-clause-count
returns-clause-count c = as_many_alike

pub returns-clause-left : goal.returns-clause-left
returns-clause-left c = left_alike
