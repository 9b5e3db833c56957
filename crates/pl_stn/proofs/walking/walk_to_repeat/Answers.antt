use Rattle.std.proofs.Common.{◌≡◌, length, arith, None, sym, ◌∙◌, pos}
use Rattle.std.proofs.lemmas.List.{get_or_read}
use Rattle.pl_stn.proofs.Walks.{loop_found, walk_on}
use Rattle.pl_stn.proofs.walking.walk_to_repeat.Goals as goal

pub from_place-requires : goal.from_place-requires
from_place-requires c =
    let read = get_or_read c.steps.places.items c.steps.point c.index.result.now (omega arith) c.index.ensures None in
    let at = c.steps.invariant.passed c.steps.point c.in-Some-index.place (sym read ∙ c.in-Some-index.is) in
    omega (arith, at.0)

pub returns-in-Some-index-clause-closed : goal.returns-in-Some-index-clause-closed
returns-in-Some-index-clause-closed c =
    let read = get_or_read c.steps.places.items c.steps.point c.index.result.now (omega arith) c.index.ensures None in
    rw (c.in_ok-from_place.ensures, c.as_slice.ensures.value)
    (loop_found _ _ c.requires.causes _ _ _ _ c.steps.invariant c.in-Some-index.place (sym read ∙ c.in-Some-index.is))

pub edge_at-point-requires-clause-number : goal.edge_at-point-requires-clause-number
edge_at-point-requires-clause-number c =
    (c.requires.causes.starts c.steps.point c.in-Some.number (sym c.cause_at.ensures ∙ c.in-Some.is)).edge

pub steps-preserved : goal.steps-preserved
steps-preserved c =
    let was = sym c.cause_at.ensures ∙ c.in-Some.is in
    let starts = c.requires.causes.starts c.steps.point c.in-Some.number was in
    let joins = c.requires.net.joins c.in-Some.number (record { from = 0; to = 0; most = pos 0 }) starts.edge in
    let read = get_or_read c.steps.places.items c.steps.point c.index.result.now (omega arith) c.index.ensures None in
    let len : c.len.result ≡ length c.steps.walk.items = omega arith in
    rw (c.in_ok-push.ensures.items, c.edge_at-point.ensures.edge, len)
    (walk_on _ _ c.requires.causes _ _ _ _ c.steps.invariant c.in-Some.number was (sym read ∙ c.in_default-index.is) joins.1)
