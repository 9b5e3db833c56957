use Rattle.std.proofs.Common.{◌≡◌, map, take}
use Rattle.pl_links.specs.Kept.{kept_of}
use Rattle.pl_semantics.specs.Links.{placed_of}
use Rattle.pl_detect.proofs.placing.placed_in.Given as goal

abbrev pub invariant-loop-activity : goal.invariant-loop-activity
invariant-loop-activity l = l.links ≡ kept_of l.s.model (map (placed_of l.s) (take l.activity-index l.activities))
