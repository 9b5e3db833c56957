use Rattle.std.proofs.Common.{◌≡◌, ◌<◌, ◌==◌, ℕ, Bool, drop, arith, ap, sym, ◌∙◌, subst}
use Rattle.std.specs.Prelude.{not}
use Rattle.pl_lists.specs.Lists.{back}
use Rattle.pl_points.specs.Spans.{AreMaximal}
use Rattle.pl_points.proofs.Maximal.{is_spans_of}
use Rattle.pl_state.specs.Sets.{is_passed, state_from}
use Rattle.pl_state.specs.Near.{next_moment}
use Rattle.pl_state.proofs.Failing.{more_maximal}
use Rattle.pl_state.proofs.Orders.{next_within, end_later, stays_until, passed_on}
use Rattle.pl_state.proofs.pieces.failing_spans.Goals as goal

pub pieces-preserved : goal.pieces-preserved
pieces-preserved c =
    let P : ℕ → Bool = λ t. not (state_from c.args.base t c.args.value c.args.sets.now == c.args.state) in
    let xs = c.args.sets.now in
    let at = c.pieces.at in
    let end = c.next_moment-end.result in
    let is : end ≡ next_moment c.args.window.to (back (is_passed at) xs) = c.next_moment-end.ensures ∙ ap (next_moment c.args.window.to) c.pieces.invariant.rest in
    let later : at < end = end_later c.args.window.to at end (drop c.pieces.passed xs) xs c.next_moment-end.ensures c.pieces.invariant.rest c.pieces-test.true in
    let on = passed_on at end c.pieces.passed c.passed_from-passed.result xs (omega (arith, later)) c.passed_from-passed.ensures.low c.pieces.invariant.front c.pieces.invariant.rest c.passed_from-passed.ensures.front c.passed_from-passed.ensures.rest in
    record {
      low = omega (arith, c.pieces.invariant.low, later);
      high = omega (arith, c.next_moment-end.ensures, next_within c.args.window.to (drop c.pieces.passed xs));
      bound = c.passed_from-passed.ensures.bound;
      front = on.0;
      rest = on.1;
      maximal = more_maximal P c.args.window.from at end c.pieces.spans.items c.push_piece.new.spans.items (not (c.state_left-found.result == c.args.state)) c.pieces.invariant.low later c.pieces.invariant.maximal c.in_ok-push_piece.ensures
          (λ t low high. ap (λ n. not (n == c.args.state)) (stays_until c.args.base c.args.value at t c.args.window.to xs c.requires.ordered low (subst (λ n. t < n) is high) ∙ sym (c.state_left-found.ensures at c.pieces.invariant.front)));
    }

pub pieces-smaller : goal.pieces-smaller
pieces-smaller c =
    let xs = c.args.sets.now in
    let later : c.pieces.at < c.next_moment-end.result = end_later c.args.window.to c.pieces.at c.next_moment-end.result (drop c.pieces.passed xs) xs c.next_moment-end.ensures c.pieces.invariant.rest c.pieces-test.true in
    omega (arith, later, c.pieces-test.true)

pub returns : goal.returns
returns c =
    let P : ℕ → Bool = λ t. not (state_from c.args.base t c.args.value c.args.sets.now == c.args.state) in
    let done : c.pieces.at ≡ c.args.window.to = omega (arith, c.pieces.invariant.high, c.pieces-test.false) in
    is_spans_of P c.args.window.from c.args.window.to c.pieces.spans.items c.requires.some (subst (λ n. AreMaximal P c.args.window.from n c.pieces.spans.items) done c.pieces.invariant.maximal)
