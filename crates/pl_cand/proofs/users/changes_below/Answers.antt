use Rattle.std.proofs.Common.{◌∙◌, sym}
use Rattle.pl_cand.proofs.Playing.{changes_any}
use Rattle.pl_cand.proofs.users.changes_below.Goals as goal

pub returns : goal.returns
returns c = c.any_changes.ensures ∙ rw c.reservations_of.ensures.value (sym (changes_any c.args.way c.args.state.now c.args.timeline c.args.b c.args.a.now))
