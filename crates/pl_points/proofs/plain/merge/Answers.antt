use Rattle.std.proofs.Common.{rules, ◌≡◌, ◌<◌, suc, ℕ, ◌++◌, length, take, drop, arith, ap, sym, ◌∙◌, get_or, pos}
use mir.Val.{to_z, of_z}
use mir.Syntax.{w64}
use Rattle.pl_points.specs.Points.{put}
use Rattle.std.proofs.lemmas.Result.{on_ok_weaker}
use Rattle.std.proofs.lemmas.Int.{to_z-of_z}
use Rattle.pl_points.proofs.PointLists.{merged_found, merged_missing, near_delta, near_fits, near_is, same_read}
use Rattle.pl_points.proofs.plain.merge.Goals as goal
use Rattle.pl_points.proofs.plain.merge.Goals.{else-place-len-via-then-place-len+else-index-at, else-place-len-via-else-place-len}

pub overflow_add-sum : goal.overflow_add-sum
overflow_add-sum c =
    let p = c.index-then-index-at.result.now in
    let ps = c.args.points.now.items in
    let lt : c.place_of-place.result < length ps = search (rules, c.if-place-len.true, c.len.ensures) in
    near_fits p.1 c.args.delta (near_delta ps (pos 0) c.place_of-place.result p c.requires.near lt c.index-then-index-at.ensures) c.requires.delta

pub returns-then-index-at-clause-ok : goal.returns-then-index-at-clause-ok
returns-then-index-at-clause-ok c =
    let p = c.index-then-index-at.result.now in
    let q = c.index.result.now in
    let ps = c.args.points.now.items in
    let i = c.place_of-place.result in
    let lt : i < length ps = search (rules, c.if-place-len.true, c.len.ensures) in
    let sum = near_is p.1 c.args.delta (near_delta ps (pos 0) i p c.requires.near lt c.index-then-index-at.ensures) c.requires.delta in
    let here : p.0 ≡ c.args.at = ap (λ (r : ℕ × _). r.0) (same_read ps i p q lt c.index-then-index-at.ensures c.index.ensures) ∙ c.if-index-at.true in
    let before : take i ps ≡ _ = rw c.deref.ensures.value at c.place_of-place.ensures.before in
    let rest : drop i ps ≡ _ = rw c.deref.ensures.value at c.place_of-place.ensures.rest in
    c.put_over.ensures ∙ ap (λ z. take i ps ++ put c.args.at z (drop (suc i) ps)) sum ∙ sym (merged_found ps i c.args.at c.args.delta p before rest lt c.index-then-index-at.ensures here)

pub returns-else-place-len-clause-ok : goal.returns-else-place-len-clause-ok
returns-else-place-len-clause-ok c =
    let ps = c.args.points.now.items in
    let i = c.place_of-place.result in
    let at = c.args.at in
    let before : take i ps ≡ _ = rw c.deref.ensures.value at c.place_of-place.ensures.before in
    let rest : drop i ps ≡ _ = rw c.deref.ensures.value at c.place_of-place.ensures.rest in
    let is : to_z w64 (of_z w64 c.args.delta) ≡ c.args.delta = to_z-of_z w64 c.args.delta c.ranges.delta in
    let missing : ((p : ℕ × _) → i < length ps → p ≡ get_or ps i p → p.0 ≡ at → ⊥) = elim c.else-place-len.branch [
      | else-place-len-via-then-place-len+else-index-at w ↦ λ p lt is here. w.if-index-at.false (ap (λ (r : ℕ × _). r.0) (same_read ps i w.index.result.now p lt w.index.ensures is) ∙ here)
      | else-place-len-via-else-place-len w ↦ λ p lt is here. omega (arith, lt, w.if-place-len.false, c.len.ensures)
    ] in
    on_ok_weaker c.put_in.result (λ e. e ∙ ap (λ z. take i ps ++ put at z (drop i ps)) is ∙ sym (merged_missing ps i at c.args.delta before rest missing)) c.put_in.ensures.ok
