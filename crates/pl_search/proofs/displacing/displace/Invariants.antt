use Rattle.std.proofs.Common.{◌≡◌, false}
use Rattle.pl_search.proofs.displacing.displace.Given as goal

abbrev pub invariant-loop-conflict : goal.invariant-loop-conflict
invariant-loop-conflict l = l.draft.board.spoiled ≡ false
