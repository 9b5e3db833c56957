use Rattle.std.proofs.Common.{sym, ◌∙◌}
use Rattle.pl_machine.proofs.Ticking.{ticks_on, ticks_from}
use Rattle.pl_machine.proofs.Settled.{ahead_ticks, ahead_on}
use Rattle.pl_machine.proofs.machine.appending.change_due.Goals as goal

pub keep_up-requires-clause-later : goal.keep_up-requires-clause-later
keep_up-requires-clause-later c = rw c.state.ensures.value (rw c.in_ok-change_board.ensures.ok (ticks_on c.args.board.now.state c.args.change (sym c.if-ticks.ensures) c.requires.can))

pub keep_up-requires-clause-listed : goal.keep_up-requires-clause-listed
keep_up-requires-clause-listed c = rw c.state.ensures.value (rw c.in_ok-change_board.ensures.ok (c.requires.listed ∙ ticks_from c.args.board.now.state c.args.change (sym c.if-ticks.ensures)))

pub keep_up-requires-clause-ahead : goal.keep_up-requires-clause-ahead
keep_up-requires-clause-ahead c =
    rw c.state.ensures.value
    (rw c.in_ok-change_board.ensures.ok (rw c.ahead_after-ahead.ensures (ahead_ticks c.args.board.now.state c.args.change c.args.schedule.now.ahead c.args.schedule.now.ranges.items (sym c.if-ticks.ensures) c.requires.ahead)))

pub returns-else-ticks-clause-ahead : goal.returns-else-ticks-clause-ahead
returns-else-ticks-clause-ahead c =
    ahead_on c.args.board.now.state c.args.change c.args.schedule.now.ahead _ c.args.schedule.now.ranges.items _ c.in_ok-change_board.ensures.ok c.ahead_after-ahead.ensures (sym c.if-ticks.ensures) c.requires.whole c.requires.can c.requires.ahead
