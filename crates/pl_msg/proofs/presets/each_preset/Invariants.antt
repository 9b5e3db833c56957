use Rattle.std.proofs.Common.{◌≡◌, length}
use Rattle.pl_lists.specs.Judgements.{behind}
use Rattle.pl_msg.specs.Goals.{each_preset}
use Rattle.pl_msg.proofs.presets.each_preset.Given as goal

-- the rest gives the whole
abbrev pub invariant-presets : goal.invariant-presets
invariant-presets l = behind l.presets (each_preset l.line l.rest) ≡ each_preset l.line l.tokens

abbrev pub decreases-presets : goal.decreases-presets
decreases-presets l = length l.rest
