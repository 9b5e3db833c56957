use Rattle.std.proofs.Common.{◌≡◌, drop}
use Rattle.pl_msg.specs.Goals.{value_of}
use Rattle.pl_msg.proofs.presets.value_of.Given as goal

-- the rest gives the whole
abbrev pub invariant-loop-preset : goal.invariant-loop-preset
invariant-loop-preset l = value_of l.line (drop l.preset-index l.presets) l.name ≡ value_of l.line l.presets l.name
