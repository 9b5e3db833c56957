use Rattle.pl_many.proofs.Naming.{member_marked}
use Rattle.pl_many.proofs.laws.members_are_marked.Goals as goal

pub returns : goal.returns
returns c = λ crew m member. member_marked crew m member
