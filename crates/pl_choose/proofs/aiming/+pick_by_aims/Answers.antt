use Rattle.std.proofs.Common.{◌≡◌, ◌∙◌, arith}
use Rattle.std.proofs.lemmas.List.{take_rest}
use Rattle.std.proofs.lemmas.List.Elements.{All-drop}
use Rattle.pl_bounds.specs.Bounds.{left_beside_states}
use Rattle.pl_bounds.proofs.Pushing.{least_of_beside}
use Rattle.pl_choose.specs.Found.{IsAllowed}
use Rattle.pl_choose.proofs.Trying.{least_drop}
use Rattle.pl_choose.proofs.aiming.+pick_by_aims.Goals as goal

pub hopes_of-requires-clause-least : goal.hopes_of-requires-clause-least
hopes_of-requires-clause-least t c = least_of_beside c.args.board.now.state c.args.moves.now c.args.bounds.now c.requires.beside

pub pick_by_aims-requires : goal.pick_by_aims-requires
pick_by_aims-requires t c =
    let s = c.args.board.now.state in
    let hopes = c.in_ok-hopes.ensures.hopes in
    let k = c.in-Passed.tried.count in
    let passed = rw c.in-Passed.is at c.in_ok-mv.ensures.aimed in
    let same : c.try_aim.new.board ≡ c.args.board.now = passed.2 ∙ c.in_ok-hopes.ensures.same in (
      omega (arith, c.if-aims-eq0.false, c.decreases),
      (
        rw same c.requires.unspoiled,
        (
          rw same c.requires.next,
          (
            rw (same, c.deref-in-Passed.ensures.value, take_rest) (All-drop (IsAllowed s) k c.in_ok-hopes.hopes.moves.items hopes.allowed),
            rw (same, c.deref-in-Passed.ensures.value, c.deref-in-Passed-2.ensures.value, take_rest, take_rest) (least_drop (left_beside_states s) k c.in_ok-hopes.hopes.moves.items c.in_ok-hopes.hopes.bounds.items (c.in_ok-hopes.ensures.beside c.requires.beside)),
          ),
        ),
      ),
    )
