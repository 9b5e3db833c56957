use Rattle.pl_rate.proofs.Ranges.{fits_all}
use Rattle.pl_rate.proofs.reading.read_rate.Goals as goal

pub returns-clause-within : goal.returns-clause-within
returns-clause-within c = fits_all _ _ _ _ c.rate_with.ensures
