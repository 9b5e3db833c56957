-- Lines of rates before a journal.
use Rattle.pl_model.specs.declared.whole.Model.{Model}
use Rattle.pl_rate.specs.declared.rate.Rate.{Rate}
use Rattle.pl_rate.specs.Rates.{rate_of}
use Rattle.pl_preface.specs.Prefaces.{Reading, told}

-- the rate of a line, or why it is refused
abbrev pub rate_in : Model → Reading Rate
rate_in model line = told (rate_of model line)
