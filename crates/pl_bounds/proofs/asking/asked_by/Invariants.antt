-- what was gathered and what the rest gives
use Rattle.std.proofs.Common.{◌≡◌, ◌++◌, drop}
use Rattle.pl_update.specs.Timelines.Laws.{gone_from}
use Rattle.pl_bounds.proofs.asking.asked_by.Given as goal

abbrev pub invariant-loop-id : goal.invariant-loop-id
invariant-loop-id l = l.all.items ++ gone_from l.board.state (drop l.id-index l.ids) ≡ gone_from l.board.state l.ids
