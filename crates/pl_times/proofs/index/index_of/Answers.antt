use Rattle.std.proofs.Common.{arith, pos}
use Rattle.pl_times.proofs.Looking.{indexed_more, indexed_all, indexed_none}
use Rattle.pl_times.proofs.index.index_of.Goals as goal

pub loop-number-init : goal.loop-number-init
loop-number-init c = indexed_none _ _ _ c.in_ok-heads.ensures c.new-nexts.ensures.items

pub loop-number-preserved : goal.loop-number-preserved
loop-number-preserved c =
    let within = (c.requires.joins c.loop-number.number (record { from = 0; to = 0; most = pos 0 }) (omega arith)).1 in
    rw (c.in_ok-push.ensures.items, c.slot_at-next.ensures, c.as_slice.ensures.value, c.edge_at-to.ensures)
    (indexed_more _ _ _ _ c.loop-number.invariant within)

pub returns : goal.returns
returns c = indexed_all _ _ _ c.loop-number.number (omega arith) c.loop-number.invariant
