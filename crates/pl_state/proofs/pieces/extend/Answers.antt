use Rattle.std.proofs.Common.{◌≡◌, ◌<◌, ◌-◌, suc, ℕ, length, arith, ap, sym, ◌∙◌, get_or}
use Rattle.pl_points.specs.declared.span.Span.{Span}
use Rattle.pl_points.specs.Spans.{span}
use Rattle.pl_points.proofs.Spanning.{joined_set, joined_push, read_same}
use Rattle.pl_state.proofs.pieces.extend.Goals as goal
use Rattle.pl_state.proofs.pieces.extend.Goals.{else-count-gt0-via-then-count-gt0+else-index-from, else-count-gt0-via-else-count-gt0}

pub returns-then-index-from : goal.returns-then-index-from
returns-then-index-from c =
    let xs = c.args.spans.now.items in
    let n = c.len-count.result - 1 in
    let p = c.index-then-index-from.result.now in
    let len : length xs ≡ suc n = omega (arith, c.if-count-gt0.true, c.len-count.ensures) in
    let lt : n < length xs = omega (arith, len) in
    let touch : p.to ≡ c.args.from = ap (λ (q : Span). q.to) (read_same xs n p c.index.result.now lt c.index-then-index-from.ensures c.index.ensures) ∙ c.if-index-from.true in
    sym (joined_set xs n p c.args.from c.args.to len c.index-then-index-from.ensures touch)

pub returns-in_ok-push : goal.returns-in_ok-push
returns-in_ok-push c =
    let xs = c.args.spans.now.items in
    let missing : ((n : ℕ) (p : Span) → length xs ≡ suc n → p ≡ get_or xs n p → p.to ≡ c.args.from → ⊥) = elim c.else-count-gt0.branch [
      | else-count-gt0-via-then-count-gt0+else-index-from w ↦ λ n p len is touch.
          let same : n ≡ c.len-count.result - 1 = omega (arith, len, c.len-count.ensures) in
          let lt : c.len-count.result - 1 < length xs = omega (arith, len, c.len-count.ensures) in
          let read : p ≡ get_or xs (c.len-count.result - 1) p = is ∙ ap (λ k. get_or xs k p) same in
          w.if-index-from.false (ap (λ (q : Span). q.to) (read_same xs (c.len-count.result - 1) w.index.result.now p lt w.index.ensures read) ∙ touch)
      | else-count-gt0-via-else-count-gt0 w ↦ λ n p len is touch. omega (arith, len, w.if-count-gt0.false, c.len-count.ensures)
    ] in
    c.in_ok-push.ensures.items ∙ sym (joined_push xs (span c.args.from c.args.to) missing)
