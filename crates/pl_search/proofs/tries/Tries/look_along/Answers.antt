use Rattle.std.proofs.Common.{arith}
use Rattle.pl_moves.proofs.Along.{back, made_at, may_go, near_then, went}
use Rattle.pl_moves.proofs.Trying.{can_undo_then, home, last_state}
use Rattle.pl_search.proofs.tries.Tries.look_along.Goals as goal

pub go_on-requires-clause-near : goal.go_on-requires-clause-near
go_on-requires-clause-near c = rw c.start_of-to.ensures (near_then c.args.board.now.state c.requires.whole c.requires.next c.args.first.now c.args.rest.now c.requires.activities c.requires.allowed c.requires.alike _ _ _ _ c.requires.trial c.run.at c.run.invariant.few _ c.run-test.true)

pub go_on-requires-clause-can : goal.go_on-requires-clause-can
go_on-requires-clause-can c = rw (c.start_of.ensures, c.start_of-to.ensures) (may_go c.args.board.now.state c.requires.whole c.requires.next c.args.first.now c.args.rest.now c.requires.activities c.requires.allowed c.requires.alike _ _ _ _ c.requires.trial c.run.at c.run.invariant.few _ c.run-test.true c.run.board c.run.invariant.made)

pub run-preserved : goal.run-preserved
run-preserved c =
    record {
      made = went c.args.board.now.state c.requires.whole c.requires.next c.args.first.now c.args.rest.now c.requires.activities c.requires.allowed c.requires.alike _ _ _ _ c.requires.trial c.run.at c.run.invariant.few _ c.run-test.true c.run.board c.go_on.new.board c.run.invariant.made (rw (c.start_of.ensures, c.start_of-to.ensures) at c.in_ok-go_on.ensures.ok);
      few = omega (arith, c.run-test.true);
    }

pub make_change-requires-2-clause-can : goal.make_change-requires-2-clause-can
make_change-requires-2-clause-can c =
    let by = back c.args.board.now.state c.requires.whole c.requires.next c.args.first.now c.args.rest.now c.requires.activities c.requires.allowed c.requires.alike _ _ _ _ c.requires.trial c.run.at c.run.invariant.few in
    let made = made_at c.args.board.now.state c.requires.whole c.requires.next c.args.first.now c.args.rest.now c.requires.activities c.requires.allowed c.requires.alike _ _ _ _ c.requires.trial c.run.at c.run.invariant.few c.run.board c.run.invariant.made in
    can_undo_then c.args.board.now _ _ _ _ _ by c.run.board made

pub reset_next-requires-clause-least : goal.reset_next-requires-clause-least
reset_next-requires-clause-least c =
    let by = back c.args.board.now.state c.requires.whole c.requires.next c.args.first.now c.args.rest.now c.requires.activities c.requires.allowed c.requires.alike _ _ _ _ c.requires.trial c.run.at c.run.invariant.few in
    let made = made_at c.args.board.now.state c.requires.whole c.requires.next c.args.first.now c.args.rest.now c.requires.activities c.requires.allowed c.requires.alike _ _ _ _ c.requires.trial c.run.at c.run.invariant.few c.run.board c.run.invariant.made in
    rw (c.next_id-next.ensures, last_state c.args.board.now _ _ _ _ _ by c.run.board made c.make_change-2.new.board c.in_ok-make_change-2.ensures.ok) by.ids

pub reset_next-requires-clause-most : goal.reset_next-requires-clause-most
reset_next-requires-clause-most c =
    let by = back c.args.board.now.state c.requires.whole c.requires.next c.args.first.now c.args.rest.now c.requires.activities c.requires.allowed c.requires.alike _ _ _ _ c.requires.trial c.run.at c.run.invariant.few in
    let made = made_at c.args.board.now.state c.requires.whole c.requires.next c.args.first.now c.args.rest.now c.requires.activities c.requires.allowed c.requires.alike _ _ _ _ c.requires.trial c.run.at c.run.invariant.few c.run.board c.run.invariant.made in
    rw (c.next_id-next.ensures, last_state c.args.board.now _ _ _ _ _ by c.run.board made c.make_change-2.new.board c.in_ok-make_change-2.ensures.ok) by.next

pub returns : goal.returns
returns c =
    let by = back c.args.board.now.state c.requires.whole c.requires.next c.args.first.now c.args.rest.now c.requires.activities c.requires.allowed c.requires.alike _ _ _ _ c.requires.trial c.run.at c.run.invariant.few in
    let made = made_at c.args.board.now.state c.requires.whole c.requires.next c.args.first.now c.args.rest.now c.requires.activities c.requires.allowed c.requires.alike _ _ _ _ c.requires.trial c.run.at c.run.invariant.few c.run.board c.run.invariant.made in
    home c.args.board.now _ _ _ _ _ by c.run.board made c.make_change-2.new.board c.in_ok-make_change-2.ensures.ok c.requires.unspoiled c.next_id-next.result c.next_id-next.ensures _ c.reset_next.ensures
