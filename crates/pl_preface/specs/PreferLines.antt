-- Lines of preferences before a journal.
use Rattle.pl_model.specs.declared.whole.Model.{Model}
use Rattle.pl_prefs.specs.declared.prefer.Prefer.{Prefer}
use Rattle.pl_prefs.specs.Prefers.{prefer_of}
use Rattle.pl_preface.specs.Prefaces.{Reading, told}

-- the preference of a line, or why it is refused
abbrev pub prefer_in : Model → Reading Prefer
prefer_in model line = told (prefer_of model line)
