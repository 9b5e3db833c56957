use Rattle.std.proofs.lemmas.List.Elements.{All-push}
use Rattle.pl_bounds.specs.UnmetMusts.{IsLeftBy}
use Rattle.pl_bounds.proofs.left_unmet.left_by.Goals as goal
use Rattle.pl_bounds.proofs.left_unmet.left_by.Goals.{then-is_left_by+in_ok-push, else-is_left_by}

pub loop-unmet-preserved : goal.loop-unmet-preserved
loop-unmet-preserved c = elim c.if-is_left_by.branch [
  | then-is_left_by+in_ok-push w ↦ rw w.left-is (rw w.in_ok-push.ensures.items (All-push (IsLeftBy c.args.board.now.state c.args.going.now) c.loop-unmet.left.items _ c.loop-unmet.invariant (c.is_left_by.ensures w.if-is_left_by.true)))
  | else-is_left_by w ↦ rw w.left-is c.loop-unmet.invariant
]
