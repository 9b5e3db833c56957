use Rattle.std.proofs.Common.{◌≡◌, length}
use Rattle.pl_msg.specs.Goals.{are_distinct}
use Rattle.pl_msg.proofs.presets.are_distinct.Given as goal

-- the rest gives the whole
abbrev pub invariant-presets : goal.invariant-presets
invariant-presets l = are_distinct l.line l.rest ≡ are_distinct l.line l.presets

abbrev pub decreases-presets : goal.decreases-presets
decreases-presets l = length l.rest
