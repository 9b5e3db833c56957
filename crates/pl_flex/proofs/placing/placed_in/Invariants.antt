use Rattle.std.proofs.Common.{◌≡◌, map, take}
use Rattle.pl_semantics.specs.Links.{placed_of}
use Rattle.pl_flex.proofs.placing.placed_in.Given as goal

-- the activities so far
abbrev pub invariant-loop-activity : goal.invariant-loop-activity
invariant-loop-activity l = l.all.items ≡ map (placed_of l.s) (take l.activity-index l.activities)
