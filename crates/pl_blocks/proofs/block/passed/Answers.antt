use Rattle.std.proofs.Common.{◌≡◌, ◌+◌, arith, ap, sym, ◌∙◌, refl, length, get_or, take, pos, ◌+ℤ◌, true}
use mir.Val.{to_z}
use mir.Syntax.{w64}
use Rattle.std.proofs.lemmas.List.{get_or_default, take_all, drop_all}
use Rattle.pl_points.proofs.PointLists.{near_step}
use Rattle.pl_blocks.specs.Blocks.{is_past, change_of}
use Rattle.pl_blocks.proofs.Rows.{passed_here, passed_all, past_next, change_next}
use Rattle.pl_blocks.proofs.block.passed.Goals as goal

pub returns-then-from-at-clause-before : goal.returns-then-from-at-clause-before
returns-then-from-at-clause-before g c =
    let ps = c.args.points.now in
    let i = c.loop-place.place in
    let p = get_or ps i (0, pos 0) in
    (passed_here ps i c.args.at p c.requires.rising c.loop-place.invariant.past c.loop-place-test.true (get_or_default ps i (0, pos 0) p c.loop-place-test.true) (omega (arith, c.if-from-at.true, c.from.ensures))).0

pub returns-then-from-at-clause-rest : goal.returns-then-from-at-clause-rest
returns-then-from-at-clause-rest g c =
    let ps = c.args.points.now in
    let i = c.loop-place.place in
    let p = get_or ps i (0, pos 0) in
    (passed_here ps i c.args.at p c.requires.rising c.loop-place.invariant.past c.loop-place-test.true (get_or_default ps i (0, pos 0) p c.loop-place-test.true) (omega (arith, c.if-from-at.true, c.from.ensures))).1.0

pub returns-then-from-at-clause-sum : goal.returns-then-from-at-clause-sum
returns-then-from-at-clause-sum g c =
    let ps = c.args.points.now in
    let i = c.loop-place.place in
    let p = get_or ps i (0, pos 0) in
    c.loop-place.invariant.sum ∙ (passed_here ps i c.args.at p c.requires.rising c.loop-place.invariant.past c.loop-place-test.true (get_or_default ps i (0, pos 0) p c.loop-place-test.true) (omega (arith, c.if-from-at.true, c.from.ensures))).1.1

pub overflow_add-sum : goal.overflow_add-sum
overflow_add-sum g c =
    let ps = c.args.points.now in
    let i = c.loop-place.place in
    let p = get_or ps i (0, pos 0) in
    (near_step (to_z w64 c.loop-place.sum-bits) ps i (i + 1) p c.loop-place-test.true refl (get_or_default ps i (0, pos 0) p c.loop-place-test.true) c.loop-place.invariant.near).0

pub loop-place-preserved : goal.loop-place-preserved
loop-place-preserved g c =
    let ps = c.args.points.now in
    let i = c.loop-place.place in
    let p = get_or ps i (0, pos 0) in
    let step = near_step (to_z w64 c.loop-place.sum-bits) ps i (i + 1) p c.loop-place-test.true refl (get_or_default ps i (0, pos 0) p c.loop-place-test.true) c.loop-place.invariant.near in
    let sum = step.1.0 in
    record {
      sum = sum ∙ ap (λ z. z +ℤ p.1) c.loop-place.invariant.sum ∙ sym (change_next ps i (i + 1) (0, pos 0) c.loop-place-test.true refl);
      past = past_next c.args.at ps i (i + 1) (0, pos 0) c.loop-place-test.true refl c.loop-place.invariant.past (omega (arith, c.if-from-at.false, c.from.ensures));
      near = rw sum step.1.1.1;
      more = omega (arith, c.tick.ensures, c.loop-place.invariant.more);
      few = omega (arith, c.tick.ensures, c.loop-place.invariant.few);
    }

pub returns-clause-before : goal.returns-clause-before
returns-clause-before g c =
    let ps = c.args.points.now in
    let all : take c.loop-place.place ps ≡ ps = take_all c.loop-place.place ps c.loop-place-test.false in
    let past : is_past c.args.at ps ≡ true = ap (is_past c.args.at) (sym all) ∙ c.loop-place.invariant.past in
    take_all (length ps) ps (omega arith) ∙ (passed_all ps c.args.at past).0

pub returns-clause-rest : goal.returns-clause-rest
returns-clause-rest g c =
    let ps = c.args.points.now in
    let all : take c.loop-place.place ps ≡ ps = take_all c.loop-place.place ps c.loop-place-test.false in
    let past : is_past c.args.at ps ≡ true = ap (is_past c.args.at) (sym all) ∙ c.loop-place.invariant.past in
    drop_all (length ps) ps (omega arith) ∙ (passed_all ps c.args.at past).1.0

pub returns-clause-sum : goal.returns-clause-sum
returns-clause-sum g c =
    let ps = c.args.points.now in
    let all : take c.loop-place.place ps ≡ ps = take_all c.loop-place.place ps c.loop-place-test.false in
    let past : is_past c.args.at ps ≡ true = ap (is_past c.args.at) (sym all) ∙ c.loop-place.invariant.past in
    c.loop-place.invariant.sum ∙ ap change_of all ∙ (passed_all ps c.args.at past).1.1
