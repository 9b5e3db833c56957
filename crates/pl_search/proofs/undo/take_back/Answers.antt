use Rattle.std.proofs.Common.{ap}
use Rattle.pl_board.specs.Boards.{Standing}
use Rattle.pl_search.proofs.undo.take_back.Goals as goal

pub reset_next-requires-clause-least : goal.reset_next-requires-clause-least
reset_next-requires-clause-least c = rw (ap (λ (b : Standing). b.state) c.in_ok-make_change.ensures.ok) c.requires.can.ids

pub reset_next-requires-clause-most : goal.reset_next-requires-clause-most
reset_next-requires-clause-most c = rw (ap (λ (b : Standing). b.state) c.in_ok-make_change.ensures.ok) c.requires.can.next
