use Rattle.std.proofs.Common.{◌≡◌, false}
use Rattle.pl_search.proofs.draft.Draft.serve.Given as goal

abbrev pub invariant-loop-conflict : goal.invariant-loop-conflict
invariant-loop-conflict l = l.self.board.spoiled ≡ false
