-- none so far
use Rattle.std.proofs.Common.{take}
use Rattle.std.specs.Prelude.{◌≢◌, All}
use Rattle.pl_choose.proofs.remembering.place_of.Given as goal

abbrev pub invariant-loop-place : goal.invariant-loop-place
invariant-loop-place l = All (λ m. m ≢ l.best) (take l.place l.moves)
