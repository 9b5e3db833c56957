use Rattle.std.proofs.Common.{◌≡◌, ◌<◌, ◌≤◌, ◌-◌, ap, sym, ◌∙◌, subst, arith, length}
use Rattle.std.proofs.lemmas.List.{get_or_default}
use Rattle.pl_state.specs.Rows.{IsSpot}
use Rattle.pl_state.proofs.InRows.{IsNear, row_before, spot_found}
use Rattle.pl_state.proofs.filling.spot_of.Goals as goal

pub rows-preserved : goal.rows-preserved
rows-preserved g c =
    let rs = c.args.rows.now in
    let row = c.rows.row in
    let behind = c.rows.behind in
    let r = c.index-rows-row-in-rows.result in
    let same : c.index-rows-row.result ≡ r = c.index-rows-row.is ∙ (get_or_default rs row c.index-rows-row.result r c.rows.invariant.there ∙ sym c.index-rows-row-in-rows.is) in
    let lt : length r < behind = omega (arith, c.rows-test.true, c.len.ensures, ap length same) in
    subst (λ k. IsNear rs c.args.place (row - 1) (behind - k)) (sym c.len-behind.ensures) (row_before rs r c.args.place row behind c.rows.invariant c.index-rows-row-in-rows.is lt).1

pub returns : goal.returns
returns g c =
    let rs = c.args.rows.now in
    let row = c.rows.row in
    let behind = c.rows.behind in
    let r = c.index-rows-row-2.result in
    let same : c.index-rows-row.result ≡ r = c.index-rows-row.is ∙ (get_or_default rs row c.index-rows-row.result r c.rows.invariant.there ∙ sym c.index-rows-row-2.is) in
    let le : behind ≤ length r = omega (arith, c.rows-test.false, c.len.ensures, ap length same) in
    subst (λ k. IsSpot rs c.args.place row (k - behind)) (sym c.len-2.ensures) (spot_found rs r c.args.place row behind c.rows.invariant c.index-rows-row-2.is le)
