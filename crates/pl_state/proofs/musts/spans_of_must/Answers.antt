use Rattle.std.proofs.Common.{◌≡◌, ◌-◌, ◌==◌, ℕ, Bool, ap, ◌∙◌, min, max, Vec, Global}
use Rattle.std.specs.Prelude.{not}
use Rattle.pl_points.specs.declared.span.Span.{Span}
use Rattle.pl_points.specs.Spans.{spans_of}
use Rattle.pl_state.specs.Sets.{state_from}
use Rattle.pl_state.proofs.Failing.{if_ok_weaker, same_length}
use Rattle.pl_state.proofs.musts.spans_of_must.Goals as goal

pub returns : goal.returns
returns c =
    let P : ℕ → Bool = λ t. not (state_from c.args.base t c.args.value c.args.sets.now == c.args.must.state) in
    let b = max c.args.must.from c.args.present.from in
    let e = c.window_of-window.result in
    let is : spans_of P e.from (e.to - e.from) ≡ spans_of P b (min c.args.must.to c.args.present.to - b) =
    ap (λ n. spans_of P n (e.to - n)) c.window_of-window.ensures.from ∙ (ap (λ n. spans_of P b (n - b)) c.window_of-window.ensures.to ∙ ap (spans_of P b) (same_length c.args.must.to c.args.present.to b)) in
    if_ok_weaker (λ (v : Vec Span Global). v.items ≡ spans_of P e.from (e.to - e.from)) (λ (v : Vec Span Global). v.items ≡ spans_of P b (min c.args.must.to c.args.present.to - b)) c.failing_spans.result (λ v h. h ∙ is) c.failing_spans.ensures
