-- What is chosen, and the board then.
use Rattle.std.specs.Prelude.{◌≡◌, ℕ, List, Option, Some, None}
use Rattle.pl_plan.specs.declared.repair.RepairMove.{RepairMove}
use Rattle.pl_semantics.specs.Moves.{applied}
use Rattle.pl_board.specs.Boards.{Standing, after}
use Rattle.pl_moves.specs.Attempts.{IsToldOf}
use Rattle.pl_cand.specs.declared.proposal.Proposal.{Proposal}
use Rattle.pl_cand.specs.Proposals.{mended}
use Rattle.pl_choose.specs.declared.picked.Picked.{Picked}
use Rattle.pl_choose.specs.declared.picked.Picked.TheVariants.{Made, Found}
use Rattle.pl_choose.specs.declared.purpose.Purpose.{Purpose}
use Rattle.pl_choose.specs.declared.purpose.Purpose.TheVariants.{Propose, Mend}
use Rattle.pl_choose.specs.Picks.{fewest}

-- how many conflicts a move may leave and stay made: if it is only to be proposed, it does not stay made, however few it leaves
abbrev pub enough_for : Purpose → Option ℕ → Option ℕ
enough_for Propose most = None
enough_for Mend most = most

-- Given: what a move is chosen for, what holds of the chosen move, the board before, the choice, and the board then. A move stays
-- made only if it is chosen to be made, and then it is told how it is undone.
abbrev pub IsPicked : Purpose → (RepairMove → Type 0) → Standing → Picked → Standing → Type 0
IsPicked why P before (Made m told) now = (why ≡ Mend) × P m × (now ≡ after (applied before.state m)) × IsToldOf before.state m told
IsPicked why P before (Found m) now = P m × (now ≡ before)

-- what is picked of some moves: the first that leaves the fewest conflicts, or nothing if there is no move
abbrev pub IsFewest : Purpose → List RepairMove → Standing → Option Picked → Standing → Type 0
IsFewest why moves before None now = (fewest before.state moves ≡ None) × (now ≡ before)
IsFewest why moves before (Some p) now = IsPicked why (λ m. fewest before.state moves ≡ Some m) before p now

-- The board after a choice: if the move is chosen to be made, the board has the plan state that the move makes, else it is as before.
abbrev pub behind : Purpose → Option Proposal → Standing → Standing
behind Propose p before = before
behind Mend p before = mended p before
