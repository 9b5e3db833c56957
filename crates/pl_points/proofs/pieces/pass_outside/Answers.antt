use Rattle.std.proofs.Common.{◌≡◌, ℕ, ◌+◌, ◌<◌, true, cond, arith, ap, sym, ◌∙◌}
use Rattle.pl_points.specs.Points.{sum_to}
use Rattle.pl_points.specs.Limits.{is_outside}
use Rattle.pl_points.specs.Counting.{goes_outside}
use Rattle.pl_points.proofs.Strolls.{left_return}
use Rattle.pl_points.proofs.Passages.{passes_on}
use Rattle.pl_points.proofs.pieces.pass_outside.Goals as goal

pub returns-then-moment-to-clause-passes : goal.returns-then-moment-to-clause-passes
returns-then-moment-to-clause-passes g c =
    let here : is_outside c.args.limit (sum_to (g.P.Points.points c.args.points.now) c.args.at) ≡ true = ap (is_outside c.args.limit) (sym c.requires.sum) ∙ c.requires.outside in
    let passes = c.next_point-moment.ensures.passes in
    record {
      later = c.requires.some;
      bound = omega arith;
      meets = λ t low high. ap (is_outside c.args.limit) (passes.meets t low (omega (arith, high, c.if-moment-to.true))) ∙ here;
      next = λ lt. absurd (omega (arith, lt));
    }

pub returns-clause-passes : goal.returns-clause-passes
returns-clause-passes g c =
    let ps = g.P.Points.points c.args.points.now in
    let here : is_outside c.args.limit (sum_to ps c.args.at) ≡ true = ap (is_outside c.args.limit) (sym c.requires.sum) ∙ c.requires.outside in
    passes_on (λ z. z ≡ sum_to ps c.args.at) (λ z. is_outside c.args.limit z ≡ true) (λ z. is_outside c.args.limit z ≡ true) ps c.args.at c.args.to c.next_point-moment.result.0 c.next_return.result.0 c.next_point-moment.result.1 c.next_return.result.1
    (λ z e. ap (is_outside c.args.limit) e ∙ here) (λ z e. e) c.next_point-moment.ensures.passes c.next_return.ensures.passes

pub returns-clause-cost : goal.returns-clause-cost
returns-clause-cost g c =
    let ps = g.P.Points.points c.args.points.now in
    let at = c.args.at in
    let m = c.next_point-moment.result.0 in
    let out = goes_outside c.args.limit ps in
    let lt : m < c.args.to = omega (arith, c.next_point-moment.ensures.passes.bound, c.if-moment-to.false) in
    let here : out at ≡ true = ap (is_outside c.args.limit) (sym c.requires.sum) ∙ c.requires.outside in
    let paid : ◌≡◌ {A = ℕ} (cond (out at) g.P.Points.look_steps 0) g.P.Points.look_steps = ap (λ v. cond v g.P.Points.look_steps 0) here in
    let first = c.next_point-moment.ensures.cost in
    let second = c.next_return.ensures.cost in
    let near = c.requires.falls at (at + 1) (omega arith) in
    let far = c.requires.falls m (m + 1) (omega arith) in
    record {
      spent = omega (arith, first.left lt, second.spent, near, far, paid);
      left = λ last. left_return (g.P.Points.ahead c.args.points.now) g.P.Points.look_steps g.P.Points.search_steps c.args.steps.now c.next_point-moment.new.steps c.next_return.new.steps at m c.next_return.result.0 out ps here
          (c.next_return.ensures.passes.meets m (omega arith) c.next_return.ensures.passes.later) (c.next_return.ensures.leaves last) (first.fewer lt out) (second.fewer last out) (first.left lt) (second.left last) near far;
    }
