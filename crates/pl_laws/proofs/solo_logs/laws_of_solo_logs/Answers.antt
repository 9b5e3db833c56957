use Rattle.pl_laws.proofs.Fixed.{follows_inputs, is_fixed, is_one}
use Rattle.pl_laws.proofs.solo_logs.laws_of_solo_logs.Goals as goal

pub returns : goal.returns
returns c = record { follows = follows_inputs; fixed = is_fixed; one = is_one }
