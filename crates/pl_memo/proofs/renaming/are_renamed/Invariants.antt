-- so far they are the renamed moves
use Rattle.std.proofs.Common.{◌≡◌, map, take}
use Rattle.pl_memo.specs.Renames.{renamed_move}
use Rattle.pl_memo.proofs.renaming.are_renamed.Given as goal

abbrev pub invariant-loop-place : goal.invariant-loop-place
invariant-loop-place l = map (renamed_move l.since) (take l.place l.moves) ≡ take l.place l.others
