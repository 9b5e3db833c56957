use Rattle.std.proofs.Common.{◌≡◌, false}
use Rattle.pl_search.proofs.draft.Draft.follow.Given as goal

abbrev pub invariant-loop-repair : goal.invariant-loop-repair
invariant-loop-repair l = l.self.board.spoiled ≡ false
