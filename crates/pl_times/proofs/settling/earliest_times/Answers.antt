use Rattle.std.proofs.Common.{rules, FitsSigned, w64}
use Rattle.std.proofs.lemmas.Int.{to_z-of_z}
use Rattle.pl_times.proofs.Rises.{all_small}
use Rattle.pl_times.proofs.Looking.{popped, settled_early}
use Rattle.pl_times.proofs.settling.earliest_times.Goals as goal

pub look-requires-clause-known : goal.look-requires-clause-known
look-requires-clause-known c =
    let fits : FitsSigned w64 c.args.floor = search rules in
    rw (c.in-Some.ensures.0, c.pops.invariant.1, to_z-of_z w64 c.args.floor fits) c.requires

pub look-requires-clause-popped : goal.look-requires-clause-popped
look-requires-clause-popped c =
    let fits : FitsSigned w64 c.in-Some.key = search rules in
    rw (to_z-of_z w64 c.in-Some.key fits)
    (popped _ _ _ _ _ _ c.pops.invariant.0 c.in-Some.ensures)

pub returns-clause-early : goal.returns-clause-early
returns-clause-early c =
    let fits : FitsSigned w64 c.args.floor = search rules in
    let gone = rw c.in_default.is at c.pop_entry.ensures in
    rw (c.from_vec.ensures, c.from_vec-2.ensures, gone.1, gone.2)
    (settled_early c.args.net.now c.args.known.now c.pops.rising (rw (c.pops.invariant.1, to_z-of_z w64 c.args.floor fits) c.requires) c.pops.invariant.0 gone.3)

pub returns-clause-small : goal.returns-clause-small
returns-clause-small c =
    let fits : FitsSigned w64 c.args.floor = search rules in
    let gone = rw c.in_default.is at c.pop_entry.ensures in
    rw (c.from_vec.ensures, gone.1)
    (all_small c.args.net.now c.args.known.now c.pops.rising.floor (rw (c.pops.invariant.1, to_z-of_z w64 c.args.floor fits) c.requires) c.pops.rising.times.items c.pops.rising.causes.items c.pops.invariant.0.rising)
