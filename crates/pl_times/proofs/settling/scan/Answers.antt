use Rattle.std.proofs.Common.{arith, ◌≤◌}
use Rattle.pl_times.specs.Index.{IsLast}
use Rattle.pl_stn.specs.Nets.{edge_of}
use Rattle.pl_times.proofs.Looking.{scan_begun, scan_more, scan_all, left_less, left_of}
use Rattle.pl_times.proofs.settling.scan.Goals as goal

pub edges-init : goal.edges-init
edges-init c =
    scan_begun _ _ _ _ _ c.requires.rising c.requires.points
    (rw (c.slot_at-cursor.ensures, c.as_slice.ensures.value) (c.requires.index.heads_last c.args.point c.requires.point))

pub edges-preserved : goal.edges-preserved
edges-preserved c =
    let s = rw c.in-Some.is at c.edges.invariant in
    scan_more _ _ _ _ _ _ c.in-Some.number _ s c.in_ok-raise.ensures
    (rw (c.slot_at-cursor-in-Some.ensures, c.as_slice-in-Some.ensures.value) (c.requires.index.nexts_last c.in-Some.number s.into.0))

pub edges-smaller : goal.edges-smaller
edges-smaller c =
    let s = rw c.in-Some.is at c.edges.invariant in
    let last : IsLast c.args.net.now (edge_of c.args.net.now c.in-Some.number).to c.in-Some.number c.slot_at-cursor-in-Some.result = rw (c.slot_at-cursor-in-Some.ensures, c.as_slice-in-Some.ensures.value) (c.requires.index.nexts_last c.in-Some.number s.into.0) in
    let less : left_of c.slot_at-cursor-in-Some.result ≤ c.in-Some.number = left_less c.args.net.now (edge_of c.args.net.now c.in-Some.number).to c.in-Some.number c.slot_at-cursor-in-Some.result last in
    rw c.in-Some.is (omega (arith, less))

pub returns : goal.returns
returns c = scan_all _ _ _ _ _ (rw c.in_default.is at c.edges.invariant)
