use Rattle.std.proofs.Common.{◌≡◌, ap, true, sym, ◌∙◌}
use Rattle.pl_semantics.specs.Whole.{IsWhole}
use Rattle.pl_board.specs.Boards.{Standing, after}
use Rattle.pl_semantics.specs.Legal.{left_after}
use Rattle.pl_semantics.specs.Moves.{applied}
use Rattle.pl_choose.specs.Choice.{is_below}
use Rattle.pl_moves.proofs.Trying.{can_undo_then, home, last_state}
use Rattle.pl_choose.proofs.InTurn.{any, at_within, can_best, made_by, makes_best, place_within, stands_best, turn_made, undone_by}
use Rattle.pl_choose.proofs.in_turn.best_if_below.Goals as goal

pub bounds-stages-progress : goal.bounds-stages-progress
bounds-stages-progress c =
    let whole : IsWhole c.args.board.now.state = rw c.state.ensures.value at (c.state.ensures.whole c.requires.unspoiled) in
    at_within c.args.board.now.state whole c.args.stages.now _ c.requires.stages c.requires.same c.in_ok-progress.progress c.try_each.new.board c.in_ok-progress.ensures

pub make_change-requires-clause-unspoiled : goal.make_change-requires-clause-unspoiled
make_change-requires-clause-unspoiled c = ap (λ (b : Standing). b.spoiled) (c.in_ok-progress.ensures.made any)

pub make_change-requires-clause-can : goal.make_change-requires-clause-can
make_change-requires-clause-can c =
    let whole : IsWhole c.args.board.now.state = rw c.state.ensures.value at (c.state.ensures.whole c.requires.unspoiled) in
    let undone = undone_by c.args.board.now.state whole c.args.stages.now _ c.requires.stages c.requires.same c.in_ok-progress.progress c.try_each.new.board c.in_ok-progress.ensures c.index-stages-progress.result c.index-stages-progress.is in
    let made = made_by c.args.board.now.state whole c.args.stages.now _ c.requires.stages c.requires.same c.in_ok-progress.progress c.try_each.new.board c.in_ok-progress.ensures c.index-stages-progress.result c.index-stages-progress.is in
    can_undo_then c.args.board.now _ _ _ _ _ undone c.try_each.new.board made

pub reset_next-requires-clause-least : goal.reset_next-requires-clause-least
reset_next-requires-clause-least c =
    let whole : IsWhole c.args.board.now.state = rw c.state.ensures.value at (c.state.ensures.whole c.requires.unspoiled) in
    let undone = undone_by c.args.board.now.state whole c.args.stages.now _ c.requires.stages c.requires.same c.in_ok-progress.progress c.try_each.new.board c.in_ok-progress.ensures c.index-stages-progress.result c.index-stages-progress.is in
    let made = made_by c.args.board.now.state whole c.args.stages.now _ c.requires.stages c.requires.same c.in_ok-progress.progress c.try_each.new.board c.in_ok-progress.ensures c.index-stages-progress.result c.index-stages-progress.is in
    rw (c.state.ensures.value, last_state c.args.board.now _ _ _ _ _ undone c.try_each.new.board made c.make_change.new.board c.in_ok-make_change.ensures.ok) undone.ids

pub reset_next-requires-clause-most : goal.reset_next-requires-clause-most
reset_next-requires-clause-most c =
    let whole : IsWhole c.args.board.now.state = rw c.state.ensures.value at (c.state.ensures.whole c.requires.unspoiled) in
    let undone = undone_by c.args.board.now.state whole c.args.stages.now _ c.requires.stages c.requires.same c.in_ok-progress.progress c.try_each.new.board c.in_ok-progress.ensures c.index-stages-progress.result c.index-stages-progress.is in
    let made = made_by c.args.board.now.state whole c.args.stages.now _ c.requires.stages c.requires.same c.in_ok-progress.progress c.try_each.new.board c.in_ok-progress.ensures c.index-stages-progress.result c.index-stages-progress.is in
    rw (c.state.ensures.value, last_state c.args.board.now _ _ _ _ _ undone c.try_each.new.board made c.make_change.new.board c.in_ok-make_change.ensures.ok) undone.next

pub bounds-stages-progress-then-progress : goal.bounds-stages-progress-then-progress
bounds-stages-progress-then-progress c =
    let whole : IsWhole c.args.board.now.state = rw c.state.ensures.value at (c.state.ensures.whole c.requires.unspoiled) in
    place_within c.args.board.now.state whole c.args.stages.now _ c.requires.stages c.requires.same c.in_ok-progress.progress c.try_each.new.board c.in_ok-progress.ensures

pub make_instead-requires-clause-unspoiled : goal.make_instead-requires-clause-unspoiled
make_instead-requires-clause-unspoiled c = ap (λ (b : Standing). b.spoiled) (c.in_ok-progress.ensures.made any)

pub make_instead-requires-clause-can : goal.make_instead-requires-clause-can
make_instead-requires-clause-can c =
    let whole : IsWhole c.args.board.now.state = rw c.state.ensures.value at (c.state.ensures.whole c.requires.unspoiled) in
    rw c.state.ensures.value (can_best c.args.board.now.state whole c.args.stages.now _ c.requires.stages c.requires.same c.in_ok-progress.progress c.try_each.new.board c.in_ok-progress.ensures c.index-stages-progress.result c.index-stages-progress.is c.index-stages-progress-then-progress.result c.index-stages-progress-then-progress.is)

pub returns-in_ok-make_instead-clause-turn : goal.returns-in_ok-make_instead-clause-turn
returns-in_ok-make_instead-clause-turn c =
    let s = c.args.board.now.state in
    let whole : IsWhole s = rw c.state.ensures.value at (c.state.ensures.whole c.requires.unspoiled) in
    let progress = c.in_ok-progress.progress in
    let below : is_below c.args.fewer (left_after s progress.best.mv) ≡ true = ap (is_below c.args.fewer) (sym c.in_ok-progress.ensures.left) ∙ (sym c.is_below-is_best.ensures ∙ c.stays_made.ensures.best c.if-stays_made.true) in
    let made : c.make_instead.new.board ≡ after (applied s progress.best.mv) = makes_best s whole c.args.stages.now _ c.requires.stages c.requires.same progress c.try_each.new.board c.in_ok-progress.ensures c.index-stages-progress.result c.index-stages-progress.is c.index-stages-progress-then-progress.result c.index-stages-progress-then-progress.is c.make_instead.new.board (rw c.state.ensures.value at c.in_ok-make_instead.ensures) in
    turn_made c.args.purpose c.args.fewer c.args.board.now whole c.args.stages.now _ c.requires.stages c.requires.same progress c.try_each.new.board c.in_ok-progress.ensures c.make_instead.new.board (c.stays_made.ensures.mends c.if-stays_made.true) below made

pub returns-else-progress-clause-turn : goal.returns-else-progress-clause-turn
returns-else-progress-clause-turn c =
    let s = c.args.board.now.state in
    let whole : IsWhole s = rw c.state.ensures.value at (c.state.ensures.whole c.requires.unspoiled) in
    let progress = c.in_ok-progress.progress in
    let below : is_below c.args.fewer (left_after s progress.best.mv) ≡ true = ap (is_below c.args.fewer) (sym c.in_ok-progress.ensures.left) ∙ (sym c.is_below-is_best.ensures ∙ c.stays_made.ensures.best c.if-stays_made.true) in
    let made : c.try_each.new.board ≡ after (applied s progress.best.mv) = stands_best s whole c.args.stages.now _ c.requires.stages c.requires.same progress c.try_each.new.board c.in_ok-progress.ensures c.if-progress.false in
    turn_made c.args.purpose c.args.fewer c.args.board.now whole c.args.stages.now _ c.requires.stages c.requires.same progress c.try_each.new.board c.in_ok-progress.ensures c.try_each.new.board (c.stays_made.ensures.mends c.if-stays_made.true) below made

pub returns-then-is_best-clause-turn : goal.returns-then-is_best-clause-turn
returns-then-is_best-clause-turn c =
    let s = c.args.board.now.state in
    let below : is_below c.args.fewer (left_after s c.in_ok-progress.progress.best.mv) ≡ true = ap (is_below c.args.fewer) (sym c.in_ok-progress.ensures.left) ∙ (sym c.is_below-is_best.ensures ∙ c.if-is_best.true) in
    let same : c.reset_next.new.self ≡ c.args.board.now =
    let whole : IsWhole c.args.board.now.state = rw c.state.ensures.value at (c.state.ensures.whole c.requires.unspoiled) in
    let undone = undone_by c.args.board.now.state whole c.args.stages.now _ c.requires.stages c.requires.same c.in_ok-progress.progress c.try_each.new.board c.in_ok-progress.ensures c.index-stages-progress.result c.index-stages-progress.is in
    let made = made_by c.args.board.now.state whole c.args.stages.now _ c.requires.stages c.requires.same c.in_ok-progress.progress c.try_each.new.board c.in_ok-progress.ensures c.index-stages-progress.result c.index-stages-progress.is in
    home c.args.board.now _ _ _ _ _ undone c.try_each.new.board made c.make_change.new.board c.in_ok-make_change.ensures.ok c.requires.unspoiled _ (ap (λ s. s.next_id) c.state.ensures.value) _ c.reset_next.ensures in
    ((c.in_ok-progress.ensures.best, below), same)

pub returns-clause-turn : goal.returns-clause-turn
returns-clause-turn c =
    let whole : IsWhole c.args.board.now.state = rw c.state.ensures.value at (c.state.ensures.whole c.requires.unspoiled) in
    let undone = undone_by c.args.board.now.state whole c.args.stages.now _ c.requires.stages c.requires.same c.in_ok-progress.progress c.try_each.new.board c.in_ok-progress.ensures c.index-stages-progress.result c.index-stages-progress.is in
    let made = made_by c.args.board.now.state whole c.args.stages.now _ c.requires.stages c.requires.same c.in_ok-progress.progress c.try_each.new.board c.in_ok-progress.ensures c.index-stages-progress.result c.index-stages-progress.is in
    home c.args.board.now _ _ _ _ _ undone c.try_each.new.board made c.make_change.new.board c.in_ok-make_change.ensures.ok c.requires.unspoiled _ (ap (λ s. s.next_id) c.state.ensures.value) _ c.reset_next.ensures
