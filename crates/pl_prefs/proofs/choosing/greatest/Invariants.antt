use Rattle.pl_prefs.specs.Chances.{IsMostAt}
use Rattle.pl_prefs.proofs.choosing.greatest.Given as goal

abbrev pub invariant-loop-number : goal.invariant-loop-number
invariant-loop-number l = IsMostAt l.gains l.number l.place
