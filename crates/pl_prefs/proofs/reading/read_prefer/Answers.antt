use Rattle.pl_prefs.proofs.Ranges.{fits_all}
use Rattle.pl_prefs.proofs.reading.read_prefer.Goals as goal

pub returns-clause-within : goal.returns-clause-within
returns-clause-within c = fits_all _ _ _ _ c.prefer_with.ensures
