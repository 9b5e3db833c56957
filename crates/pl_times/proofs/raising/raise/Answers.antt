use Rattle.std.proofs.Common.{FitsSigned, w64, rules, pos}
use Rattle.std.proofs.lemmas.Int.{to_z-of_z}
use Rattle.pl_times.proofs.Rises.{above_from_test, below_from_test, rise_small, known_small, raised_none, raised_once, asked_small}
use Rattle.pl_times.proofs.raising.raise.Goals as goal

pub asked_time-asked-requires-clause-time : goal.asked_time-asked-requires-clause-time
asked_time-asked-requires-clause-time c =
    let joins = c.requires.known.joined.joins c.args.number (record { from = 0; to = 0; most = pos 0 }) c.requires.number in
    rw (c.as_slice.ensures.value, c.edge_at-edge.ensures)
    (rise_small _ _ _ c.requires.known _ _ c.requires.rising _ joins.1)

pub returns-then-asked-time_at : goal.returns-then-asked-time_at
returns-then-asked-time_at c =
    let fits_asked : FitsSigned w64 c.asked_time-asked.result = search rules in
    let fits_time : FitsSigned w64 c.time_at.result = search rules in
    let low = below_from_test c.asked_time-asked.result c.time_at.result (rw (to_z-of_z w64 c.asked_time-asked.result fits_asked, to_z-of_z w64 c.time_at.result fits_time) at c.if-asked-time_at.true) in
    raised_none _ _ _ _ c.requires.rising c.requires.points (rw (c.asked_time-asked.ensures, c.time_at.ensures, c.as_slice.ensures.value, c.as_slice-2.ensures.value, c.edge_at-edge.ensures) at low)

pub place-requires-clause-known_small : goal.place-requires-clause-known_small
place-requires-clause-known_small c =
    let joins = c.requires.known.joined.joins c.args.number (record { from = 0; to = 0; most = pos 0 }) c.requires.number in
    rw c.edge_at-edge.ensures (known_small _ _ _ c.requires.known _ joins.0)

pub place-requires-clause-time_small : goal.place-requires-clause-time_small
place-requires-clause-time_small c =
    let fits_asked : FitsSigned w64 c.asked_time-asked.result = search rules in
    let fits_time : FitsSigned w64 c.time_at.result = search rules in
    let above = above_from_test c.asked_time-asked.result c.time_at.result (rw (to_z-of_z w64 c.asked_time-asked.result fits_asked, to_z-of_z w64 c.time_at.result fits_time) at c.if-asked-time_at.false) in
    let short = rw (c.asked_time-asked.ensures, c.time_at.ensures, c.as_slice.ensures.value, c.as_slice-2.ensures.value, c.edge_at-edge.ensures) at above in
    rw (to_z-of_z w64 c.asked_time-asked.result fits_asked, c.asked_time-asked.ensures, c.as_slice.ensures.value, c.edge_at-edge.ensures)
    (asked_small _ _ _ c.requires.known _ _ c.requires.rising _ c.requires.number short)

pub returns : goal.returns
returns c =
    let fits_asked : FitsSigned w64 c.asked_time-asked.result = search rules in
    let fits_time : FitsSigned w64 c.time_at.result = search rules in
    let above = above_from_test c.asked_time-asked.result c.time_at.result (rw (to_z-of_z w64 c.asked_time-asked.result fits_asked, to_z-of_z w64 c.time_at.result fits_time) at c.if-asked-time_at.false) in
    let short = rw (c.asked_time-asked.ensures, c.time_at.ensures, c.as_slice.ensures.value, c.as_slice-2.ensures.value, c.edge_at-edge.ensures) at above in
    let placed = rw (to_z-of_z w64 c.asked_time-asked.result fits_asked, c.asked_time-asked.ensures, c.as_slice.ensures.value, c.edge_at-edge.ensures) at c.in_ok-place.ensures in
    raised_once _ _ _ _ _ c.requires.known c.requires.rising c.requires.points c.requires.number short placed
