-- What may be proposed, and the board once it is made.
use Rattle.std.specs.Prelude.{◌≡◌, true, Contains, Option, Some, None}
use Rattle.pl_semantics.specs.declared.plan_state.PlanState.{PlanState}
use Rattle.pl_semantics.specs.Conflicts.{conflicts_of}
use Rattle.pl_semantics.specs.Legal.{legal_for, is_stuck}
use Rattle.pl_semantics.specs.Moves.{applied}
use Rattle.pl_board.specs.Boards.{Standing, after}
use Rattle.pl_cand.specs.declared.proposal.Proposal.{Proposal}

-- A conflict that stands with a legal candidate of it, or nothing if no conflict has one.
abbrev pub IsProposal : PlanState → Option Proposal → Type 0
IsProposal s None = is_stuck s ≡ true
IsProposal s (Some p) = Contains (conflicts_of s) p.conflict × Contains (legal_for s p.conflict) p.mv

-- The board once what was proposed is made: it has the plan state that the move makes. If nothing was proposed, it is as it was.
abbrev pub mended : Option Proposal → Standing → Standing
mended None before = before
mended (Some p) before = after (applied before.state p.mv)
