use Rattle.std.proofs.Common.{◌≡◌, ◌≤◌, ℤ, pos, ap, ◌∙◌, sym, subst, length, get_or, arith}
use Rattle.std.proofs.lemmas.Int.{ints}
use mir.Val.{to_z, of_z}
use mir.Syntax.{w64}
use Rattle.pl_semantics.specs.Timelines.{spans_ahead}
use Rattle.pl_bounds.specs.Sides.{is_past, value_at}
use Rattle.pl_bounds.specs.declared.outside.Look.{Look}
use Rattle.pl_bounds.proofs.Looked.{right_next}
use Rattle.pl_bounds.proofs.Tallied.{times_few}
use Rattle.pl_bounds.proofs.outside.times_now.Goals as goal

pub loop-look-preserved : goal.loop-look-preserved
loop-look-preserved c = λ line right.
    let s = c.args.board.now.state in
    let side = c.args.side in
    let limit = to_z w64 (of_z w64 c.args.limit) in
    let so_far = c.loop-look.invariant line right in
    let some : Look = record { at = 0; value = pos 0 } in
    let value = (get_or c.args.looks.now c.loop-look.look-index some).value in
    let same : to_z w64 (of_z w64 value) ≡ value = omega (arith, ints) in
    let rest = right_next s side line c.args.looks.now c.loop-look.look-index some c.loop-look-test.true so_far.1 in
    (c.noted-tally.ensures (λ t. is_past side limit (value_at s side line t)) s.moment s.model.horizon (ap (is_past side limit) (sym rest.0 ∙ sym same) ∙ sym c.is_past.ensures) so_far.0, rest.1)

pub returns : goal.returns
returns c = λ line right.
    let s = c.args.board.now.state in
    let side = c.args.side in
    let limit = to_z w64 (of_z w64 c.args.limit) in
    let whole : limit ≡ c.args.limit = omega (arith, ints) in
    let few = times_few (λ t. is_past side limit (value_at s side line t)) s.moment s.model.horizon c.loop-look.tally (c.loop-look.invariant line right).0 in
    subst (λ (z : ℤ). c.loop-look.tally.times ≤ length (spans_ahead s (λ t. is_past side z (value_at s side line t)))) whole few
