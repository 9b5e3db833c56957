use Rattle.std.proofs.Common.{◌≡◌, ◌+◌, ◌<◌, length, map, ap, arith}
use Rattle.std.proofs.lemmas.List.{length-map}
use Rattle.pl_board.specs.Boards.{Standing}
use Rattle.pl_choose.specs.Stages.{move_of}
use Rattle.pl_choose.proofs.InTurn.{when_all_are_tried, begun, can_follow, when_none_can_be_better, first_can, first_made, move_at, went_on, follows}
use Rattle.pl_choose.proofs.in_turn.try_each.Goals as goal

pub make_change-requires-clause-can : goal.make_change-requires-clause-can
make_change-requires-clause-can c = first_can c.args.board.now.state c.requires.whole c.args.stages.now _ c.requires.stages c.requires.same c.index-stages-0.result c.requires.some c.index-stages-0.is

pub trials-init : goal.trials-init
trials-init c =
    let s = c.args.board.now.state in
    let stages = c.args.stages.now in
    let first = c.index-stages-0.result in
    let count : length (map move_of stages) ≡ length stages = length-map stages move_of in
    record {
      are = begun s (map move_of stages) first.mv c.in_ok-left.left c.make_change.new.board
          (omega (arith, count, c.requires.some))
          (move_at s c.requires.whole stages _ c.requires.stages c.requires.same 0 first c.requires.some c.index-stages-0.is)
          (first_made s c.requires.whole stages _ c.requires.stages c.requires.same first c.requires.some c.index-stages-0.is c.make_change.new.board c.in_ok-make_change.ensures.ok)
          c.in_ok-left.ensures;
      at = c.requires.some;
      unspoiled = ap (λ (b : Standing). b.spoiled) c.in_ok-make_change.ensures.ok;
    }

pub make_instead-requires-clause-can : goal.make_instead-requires-clause-can
make_instead-requires-clause-can c =
    let inv = c.trials.invariant in
    rw c.requires.next (can_follow c.args.board.now.state c.requires.whole c.args.stages.now _ c.requires.stages c.requires.same c.trials.progress.at (c.trials.progress.at + 1) c.index-stages-progress.result c.index-stages-then.result inv.at c.trials-test.true c.index-stages-progress.is c.index-stages-then.is c.trials.board inv.are.made)

pub trials-preserved : goal.trials-preserved
trials-preserved c =
    let s = c.args.board.now.state in
    let stages = c.args.stages.now in
    let inv = c.trials.invariant in
    let at = c.trials.progress.at in
    let other = c.index-stages-then.result in
    let lt : at + 1 < length stages = c.trials-test.true in
    let count : length (map move_of stages) ≡ length stages = length-map stages move_of in
    let made = follows s c.requires.whole stages _ c.requires.stages c.requires.same at (at + 1) c.index-stages-progress.result other inv.at lt c.index-stages-progress.is c.index-stages-then.is c.trials.board inv.are.made c.make_instead.new.board (rw c.requires.next at c.in_ok-make_instead.ensures) in
    record {
      are = went_on s (map move_of stages) c.trials.progress c.tried_next-progress.result c.trials.board c.make_instead.new.board other.mv c.in_ok-left-2.left inv.are
          (omega (arith, count, lt))
          (move_at s c.requires.whole stages _ c.requires.stages c.requires.same (at + 1) other lt c.index-stages-then.is)
          made c.in_ok-left-2.ensures c.tried_next-progress.ensures.at c.tried_next-progress.ensures.best c.tried_next-progress.ensures.place;
      at = omega (arith, c.tried_next-progress.ensures.at, lt);
      unspoiled = ap (λ (b : Standing). b.spoiled) made;
    }

pub returns-then-progress-eq0 : goal.returns-then-progress-eq0
returns-then-progress-eq0 c = when_none_can_be_better c.args.board.now.state (map move_of c.args.stages.now) c.trials.progress c.trials.board c.trials.invariant.are (omega arith)

pub returns : goal.returns
returns c =
    let count : length (map move_of c.args.stages.now) ≡ length c.args.stages.now = length-map c.args.stages.now move_of in
    when_all_are_tried c.args.board.now.state (map move_of c.args.stages.now) c.trials.progress c.trials.board c.trials.invariant.are (omega (arith, count, c.trials-test.false))
