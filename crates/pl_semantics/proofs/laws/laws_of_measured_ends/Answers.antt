use Rattle.pl_semantics.proofs.Measured.{not_measured}
use Rattle.pl_semantics.proofs.laws.laws_of_measured_ends.Goals as goal

pub returns : goal.returns
returns c = record { none = not_measured }
