use Rattle.std.proofs.Common.{Some, ap, arith, sym, ◌∙◌}
use Rattle.std.proofs.lemmas.Option.{slice_get-get_or}
use Rattle.pl_choose.proofs.in_turn.pick_by_turns.Goals as goal

pub swap_remove-best-requires : goal.swap_remove-best-requires
swap_remove-best-requires c =
    let turn = rw (c.in-Some-Made.is, c.in-Some-Made.field-0-is, c.deref.ensures.value) at c.in_ok-place.ensures.turn in
    omega (arith, turn.0, c.args.stages.ok.0)

pub returns-in-Some-Made-clause-picked : goal.returns-in-Some-Made-clause-picked
returns-in-Some-Made-clause-picked c =
    let turn = rw (c.in-Some-Made.is, c.in-Some-Made.field-0-is, c.deref.ensures.value) at c.in_ok-place.ensures.turn in
    let best = c.swap_remove-best.result in
    turn.1 best (slice_get-get_or c.args.stages.items c.in-Some-Made.place best turn.0 ∙ ap Some (sym c.swap_remove-best.ensures.value))

pub returns-in-Some-Found-clause-picked : goal.returns-in-Some-Found-clause-picked
returns-in-Some-Found-clause-picked c = rw (c.in-Some-Found.is, c.in-Some-Found.field-0-is, c.deref.ensures.value) at c.in_ok-place.ensures.turn

pub returns-clause-picked : goal.returns-clause-picked
returns-clause-picked c = rw c.in-None.is at c.in_ok-place.ensures.turn
