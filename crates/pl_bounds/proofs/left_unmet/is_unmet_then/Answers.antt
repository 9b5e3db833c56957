use Rattle.pl_semantics.specs.Whole.{IsWhole}
use Rattle.std.proofs.Common.{subst}
use Rattle.pl_bounds.specs.Afterwards.{coming_at}
use Rattle.pl_bounds.specs.Seen.{EachSet}
use Rattle.pl_bounds.specs.UnmetMusts.{DecidesNot}
use Rattle.pl_bounds.proofs.StillUnmet.{still_unmet}
use Rattle.pl_bounds.proofs.left_unmet.is_unmet_then.Goals as goal

pub returns : goal.returns
returns c = λ free gone more exchange.
    let s = c.args.board.now.state in
    let a = c.args.asking.now in
    let u = c.args.unmet.now in
    let whole : IsWhole s = subst IsWhole c.state-state.ensures.value (c.state-state.ensures.whole c.requires.unspoiled) in
    let comes : EachSet u.seen.line (DecidesNot s u) (coming_at a c.args.start) = rw c.as_slice.ensures.value at (c.are_idle_moved.ensures free) in
    still_unmet s whole a.going.items (coming_at a c.args.start) u c.requires.left comes gone more exchange
