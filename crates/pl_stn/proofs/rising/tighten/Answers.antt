use Rattle.std.proofs.Common.{FitsSigned, w64, rules}
use Rattle.std.proofs.lemmas.Int.{to_z-of_z}
use Rattle.pl_stn.proofs.Raising.{above_from_test, caused_still, cycle_closed, rising_still, room_less}
use Rattle.pl_stn.proofs.rising.tighten.Goals as goal

pub closed_walk-requires-clause-causes : goal.closed_walk-requires-clause-causes
closed_walk-requires-clause-causes c =
    let fits_asked : FitsSigned w64 c.asked_time-asked.result = search rules in
    let fits_time : FitsSigned w64 c.time_at.result = search rules in
    let above = above_from_test c.asked_time-asked.result c.time_at.result (rw (to_z-of_z w64 c.asked_time-asked.result fits_asked, to_z-of_z w64 c.time_at.result fits_time) at c.if-asked-time_at.false) in
    let short = rw (c.time_at.ensures, c.asked_time-asked.ensures, c.edge_at-edge.ensures.edge) at above in
    rw c.edge_at-edge.ensures.edge
    (caused_still _ c.requires.net _ _ c.requires.rising c.args.number c.requires.number short)

pub returns-in-None : goal.returns-in-None
returns-in-None c =
    let fits_asked : FitsSigned w64 c.asked_time-asked.result = search rules in
    let fits_time : FitsSigned w64 c.time_at.result = search rules in
    let above = above_from_test c.asked_time-asked.result c.time_at.result (rw (to_z-of_z w64 c.asked_time-asked.result fits_asked, to_z-of_z w64 c.time_at.result fits_time) at c.if-asked-time_at.false) in
    let short = rw (c.time_at.ensures, c.asked_time-asked.ensures, c.edge_at-edge.ensures.edge) at above in
    let ends = rw c.in-None.is at c.in_ok-closed_walk.ensures.ends in
    let rises = rising_still _ c.requires.net _ _ c.requires.rising c.args.number c.requires.number short (rw c.edge_at-edge.ensures.edge at ends) in
    rw (to_z-of_z w64 c.asked_time-asked.result fits_asked, c.asked_time-asked.ensures, c.edge_at-edge.ensures.edge)
    (rises, room_less _ c.requires.net _ _ c.requires.rising c.args.number c.requires.number short rises)

pub returns-in-Some : goal.returns-in-Some
returns-in-Some c =
    let fits_asked : FitsSigned w64 c.asked_time-asked.result = search rules in
    let fits_time : FitsSigned w64 c.time_at.result = search rules in
    let above = above_from_test c.asked_time-asked.result c.time_at.result (rw (to_z-of_z w64 c.asked_time-asked.result fits_asked, to_z-of_z w64 c.time_at.result fits_time) at c.if-asked-time_at.false) in
    let short = rw (c.time_at.ensures, c.asked_time-asked.ensures, c.edge_at-edge.ensures.edge) at above in
    let closed = rw c.in-Some.is at c.in_ok-closed_walk.ensures.closed in
    cycle_closed _ c.requires.net _ _ c.requires.rising c.args.number c.requires.number short _ (rw c.edge_at-edge.ensures.edge at closed)
