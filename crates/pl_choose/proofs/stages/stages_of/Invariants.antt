use Rattle.std.proofs.Common.{◌≡◌, ◌∷◌, map, take}
use Rattle.std.specs.Prelude.{All}
use Rattle.pl_choose.specs.Stages.{IsStage, move_of}
use Rattle.pl_choose.proofs.stages.stages_of.Given as goal

-- the first and those so far
abbrev pub invariant-loop-mv : goal.invariant-loop-mv
invariant-loop-mv l = record {
  are : All (IsStage l.s) l.stages.items;
  moves : map move_of l.stages.items ≡ l.first ∷ take l.mv-index l.rest;
}
