use Rattle.std.proofs.Common.{◌∙◌}
use Rattle.pl_io.proofs.FirstLine.{line_len}
use Rattle.pl_io.proofs.Shown.{shows_too_long, shows_line, shows_past_total, shows_open}
use Rattle.pl_io.proofs.judging.judge.Goals as goal

pub returns-then-len-limit : goal.returns-then-len-limit
returns-then-len-limit c =
    let len_is = rw c.front-seen.ensures at (c.line_len-len.ensures ∙ line_len c.front-seen.result.now) in
    shows_too_long c.args.limit c.args.room c.args.held.now (rw (← len_is) c.if-len-limit.true)

pub returns-then-len-seen : goal.returns-then-len-seen
returns-then-len-seen c =
    let len_is = rw c.front-seen.ensures at (c.line_len-len.ensures ∙ line_len c.front-seen.result.now) in
    rw len_is (shows_line c.args.limit c.args.room c.args.held.now (rw (← len_is) c.if-len-limit.false) (rw (← len_is, ← c.front-seen.ensures) c.if-len-seen.true))

pub returns-then-held-room : goal.returns-then-held-room
returns-then-held-room c =
    let len_is = rw c.front-seen.ensures at (c.line_len-len.ensures ∙ line_len c.front-seen.result.now) in
    shows_past_total c.args.limit c.args.room c.args.held.now (rw (← len_is) c.if-len-limit.false) (rw (← len_is, ← c.front-seen.ensures) c.if-len-seen.false) c.if-held-room.true

pub returns : goal.returns
returns c =
    let len_is = rw c.front-seen.ensures at (c.line_len-len.ensures ∙ line_len c.front-seen.result.now) in
    shows_open c.args.limit c.args.room c.args.held.now (rw (← len_is) c.if-len-limit.false) (rw (← len_is, ← c.front-seen.ensures) c.if-len-seen.false) c.if-held-room.false
