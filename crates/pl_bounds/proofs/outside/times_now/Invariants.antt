-- the tally so far, where the looks are right
use Rattle.std.proofs.Common.{ℕ, drop}
use Rattle.pl_bounds.specs.Sides.{AreRight, is_past, value_at}
use Rattle.pl_bounds.specs.Tallies.{IsTallyOf}
use Rattle.pl_bounds.proofs.outside.times_now.Given as goal

abbrev pub invariant-loop-look : goal.invariant-loop-look
invariant-loop-look l = (line : ℕ) → AreRight l.board.state l.side line l.looks
    → IsTallyOf (λ t. is_past l.side l.limit (value_at l.board.state l.side line t)) l.board.state.moment l.board.state.model.horizon l.tally × AreRight l.board.state l.side line (drop l.look-index l.looks)
