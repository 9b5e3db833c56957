use Rattle.std.proofs.Common.{◌≡◌, true, false, ap}
use Rattle.pl_board.specs.Boards.{Standing}
use Rattle.pl_moves.proofs.Enough.{told}
use Rattle.pl_moves.proofs.Trying.{can_undo_then, counted_then, home, last_state, made_then}
use Rattle.pl_moves.proofs.attempting.attempt_between.Goals as goal

pub make_change-requires-2-clause-can : goal.make_change-requires-2-clause-can
make_change-requires-2-clause-can g c = can_undo_then c.args.board.now _ _ _ _ _ c.requires.trial.undone c.make_change.new.board c.in_ok-make_change.ensures.ok

pub reset_next-requires-clause-least : goal.reset_next-requires-clause-least
reset_next-requires-clause-least g c = rw (c.next_id-next.ensures, last_state c.args.board.now _ _ _ _ _ c.requires.trial.undone c.make_change.new.board c.in_ok-make_change.ensures.ok c.make_change-2.new.board c.in_ok-make_change-2.ensures.ok) c.requires.trial.undone.ids

pub reset_next-requires-clause-most : goal.reset_next-requires-clause-most
reset_next-requires-clause-most g c = rw (c.next_id-next.ensures, last_state c.args.board.now _ _ _ _ _ c.requires.trial.undone c.make_change.new.board c.in_ok-make_change.ensures.ok c.make_change-2.new.board c.in_ok-make_change-2.ensures.ok) c.requires.trial.undone.next

pub returns-then-is_enough-clause-attempted : goal.returns-then-is_enough-clause-attempted
returns-then-is_enough-clause-attempted g c =
    let unspoiled : c.make_change.new.board.spoiled ≡ false = ap (λ (b : Standing). b.spoiled) c.in_ok-make_change.ensures.ok in
    let count = counted_then c.args.board.now _ _ _ _ _ c.requires.trial.undone c.make_change.new.board c.in_ok-make_change.ensures.ok _ _ (c.conflicts.ensures unspoiled) c.len-left.ensures.count in
    record {
      trial = c.requires.trial;
      few = told c.args.enough _ _ true count c.if-is_enough.ensures;
      made = made_then c.args.board.now _ _ _ _ _ c.requires.trial.undone c.make_change.new.board c.in_ok-make_change.ensures.ok;
    }

pub returns-clause-attempted : goal.returns-clause-attempted
returns-clause-attempted g c =
    let unspoiled : c.make_change.new.board.spoiled ≡ false = ap (λ (b : Standing). b.spoiled) c.in_ok-make_change.ensures.ok in
    let count = counted_then c.args.board.now _ _ _ _ _ c.requires.trial.undone c.make_change.new.board c.in_ok-make_change.ensures.ok _ _ (c.conflicts.ensures unspoiled) c.len-left.ensures.count in
    record {
      many = told c.args.enough _ _ false count c.if-is_enough.ensures;
      count = count;
      same = home c.args.board.now _ _ _ _ _ c.requires.trial.undone c.make_change.new.board c.in_ok-make_change.ensures.ok c.make_change-2.new.board c.in_ok-make_change-2.ensures.ok c.requires.unspoiled c.next_id-next.result c.next_id-next.ensures _ c.reset_next.ensures;
    }
