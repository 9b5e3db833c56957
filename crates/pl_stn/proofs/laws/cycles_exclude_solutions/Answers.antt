use Rattle.pl_stn.proofs.Exclusion.{cycle_excludes}
use Rattle.pl_stn.proofs.laws.cycles_exclude_solutions.Goals as goal

pub returns : goal.returns
returns c = cycle_excludes
