use Rattle.std.proofs.Common.{◌≡◌, drop}
use Rattle.pl_lists.specs.Judgements.{behind}
use Rattle.pl_msg.specs.Goals.{places_in}
use Rattle.pl_msg.proofs.goals.places_of.Given as goal

-- the rest gives the whole
abbrev pub invariant-loop-param : goal.invariant-loop-param
invariant-loop-param l = behind l.places (places_in l.line l.presets (drop l.param-index l.params)) ≡ places_in l.line l.presets l.params
