use Rattle.std.proofs.Common.{rules, arith, ap, sym, ◌∙◌, ◌||◌, ◌&&◌}
use mir.Val.{to_z, SFits}
use mir.Syntax.{w64}
use Rattle.std.proofs.lemmas.Int.{to_z-of_z}
use Rattle.pl_points.specs.Points.{sum_to}
use Rattle.pl_points.specs.Spans.{covers, within}
use Rattle.pl_points.specs.Limits.{is_outside}
use Rattle.pl_points.specs.Counting.{goes_outside}
use Rattle.pl_points.proofs.Spanning.{piece_more}
use Rattle.pl_points.proofs.Strolls.{none_within}
use Rattle.pl_points.proofs.Calming.{until_is}
use Rattle.pl_points.proofs.pieces.push_outside.Goals as goal

pub pieces-init : goal.pieces-init
pieces-init g c =
    let ps = g.P.Points.points c.args.points.now in
    let fits : SFits w64 c.args.mark.sum = search rules in
    record {
      low = omega arith;
      high = c.requires.some;
      sum = λ lt. to_z-of_z w64 c.args.mark.sum fits ∙ c.requires.sum lt;
      sound = c.requires.sound;
      falls = c.requires.falls;
      apart = c.requires.apart;
      covers = λ t. none_within c.args.mark.at t (covers c.args.spans.now.items t) (is_outside c.args.limit (sum_to ps t));
      spent = omega arith;
      left = λ lt. let e = until_is (g.P.Points.ahead c.args.points.now) g.P.Points.look_steps g.P.Points.search_steps (goes_outside c.args.limit ps) ps c.args.mark.at c.args.to lt in omega (arith, e);
    }

pub pieces-preserved : goal.pieces-preserved
pieces-preserved g c =
    let ps = g.P.Points.points c.args.points.now in
    let s = to_z w64 c.pieces.sum-bits in
    let at = c.pieces.at in
    let end = c.pass_side-end.result.0 in
    let inv = c.pieces.invariant in
    let fits : SFits w64 c.pass_side-end.result.1 = search rules in
    let left = inv.left c.pieces-test.true in
    record {
      low = omega (arith, inv.low, c.pass_side-end.ensures.passes.later);
      high = c.pass_side-end.ensures.passes.bound;
      sum = λ lt. to_z-of_z w64 c.pass_side-end.result.1 fits ∙ c.pass_side-end.ensures.passes.next lt;
      sound = inv.sound;
      falls = inv.falls;
      apart = c.in_ok-push_if_outside.ensures.apart;
      covers = λ t.
          let came = c.in_ok-push_if_outside.ensures.covers t in
          let old = inv.covers t in
          came ∙ (ap (λ b. b || (within at end t && is_outside c.args.limit s)) old
          ∙ piece_more c.args.mark.at at end t (covers c.args.spans.now.items t) (is_outside c.args.limit (sum_to ps t)) (is_outside c.args.limit s) inv.low (omega (arith, c.pass_side-end.ensures.passes.later))
          (λ low high. c.pass_side-end.ensures.passes.meets t low high ∙ ap (is_outside c.args.limit) (sym (inv.sum c.pieces-test.true))));
      spent = omega (arith, left, c.pass_side-end.ensures.cost.spent);
      left = λ lt. omega (arith, left, c.pass_side-end.ensures.cost.left lt);
    }
