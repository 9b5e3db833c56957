use Rattle.std.proofs.Common.{◌≡◌, ◌+◌, ◌-◌, ◌++◌, ◌∷◌, take, drop, ap, sym, ◌∙◌, arith}
use Rattle.std.proofs.lemmas.List.{drop_more, append_assoc}
use Rattle.pl_state.specs.Rows.{together}
use Rattle.pl_state.proofs.InRows.{part_next}
use Rattle.pl_state.proofs.rows.Rows.part.Goals as goal

pub loop-row-preserved : goal.loop-row-preserved
loop-row-preserved g c =
    let rs = c.deref-row-items.result.now in
    let i = c.loop-row.row-index in
    let r = c.as_slice-items.result.now in
    let skipped = c.loop-row.skipped in
    let left = c.loop-row.left in
    let begin = c.min-begin.result in
    let taken = c.min-taken.result in
    let xs = together (drop (i + 1) rs) in
    let next : drop i rs ≡ r ∷ drop (i + 1) rs = drop_more rs i c.row-item.result c.loop-row-test.true ∙ ap (λ l. l ∷ drop (i + 1) rs) (sym c.row-item.is ∙ sym c.as_slice-items.ensures) in
    let all = part_next r xs skipped left begin taken c.min-begin.ensures c.min-taken.ensures in
    let count : (begin + taken) - begin ≡ taken = omega arith in
    let rest = take (left - taken) (drop (skipped - begin) xs) in
    ap (λ l. l ++ rest) c.in_ok-extend_from_slice.ensures.items
    ∙ (append_assoc c.loop-row.part.items (take ((begin + taken) - begin) (drop begin r)) rest
    ∙ (ap (λ l. c.loop-row.part.items ++ l) (ap (λ k. take k (drop begin r) ++ rest) count ∙ (sym all ∙ sym (ap (λ l. take left (drop skipped (together l))) next)))
    ∙ c.loop-row.invariant))
