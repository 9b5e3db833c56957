use Rattle.std.proofs.Common.{◌≡◌, ◌<◌, ◌-◌, length, take, drop, ap, sym, ◌∙◌, arith}
use Rattle.std.proofs.lemmas.List.{take_rest}
use Rattle.pl_state.specs.Rows.{together}
use Rattle.pl_state.proofs.InRows.{rest_there}
use Rattle.pl_state.proofs.rows.Rows.row_from.Goals as goal

pub returns : goal.returns
returns g c =
    let rs = c.self.inside.rows.items in
    let v = c.as_slice.result.now in
    let at = c.spot_of-spot.result.at in
    let from = c.args.from in
    let lt : from < length (together rs) = omega (arith, c.if-from-self.false, c.self.invariant.counted) in
    let part = rest_there rs c.deref.result.now c.index.result.now from c.spot_of-spot.result.row at c.deref.ensures.value c.spot_of-spot.ensures lt c.index.ensures in
    let same : take (length v - at) (drop at v) ≡ drop at c.index.result.now = take_rest v at ∙ ap (drop at) c.as_slice.ensures in
    let count : length (take (length v - at) (drop at v)) ≡ length (drop at c.index.result.now) = ap length same in (
      omega (arith, count, part.0),
      same ∙ (part.1 ∙ (ap (λ n. take n (drop from (together rs))) (sym count) ∙ ap (λ l. take (length (take (length v - at) (drop at v))) (drop from l)) c.self.view_is)),
    )
