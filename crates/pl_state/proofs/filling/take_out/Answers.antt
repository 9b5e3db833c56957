use Rattle.std.proofs.Common.{◌≡◌, ◌<◌, ◌++◌, [], suc, ap, sym, ◌∙◌, arith, length, take, drop, get_or}
use Rattle.std.proofs.lemmas.List.{get_or_default, length-drop, length-append, length-take, nil_from_length}
use Rattle.pl_state.specs.Rows.{together}
use Rattle.pl_state.proofs.InRows.{with_row, together_append, filled_append, filled_take, filled_drop, filled_set}
use Rattle.pl_state.proofs.filling.take_out.Goals as goal

pub returns-then-len-eq1-clause-gone : goal.returns-then-len-eq1-clause-gone
returns-then-len-eq1-clause-gone g c =
    let rs = c.args.rows.now.items in
    let row = c.args.row in
    let at = c.args.at in
    let r = get_or rs row [] in
    let one : length r ≡ 1 = ap length (sym (c.index.ensures ∙ get_or_default rs row c.index.result.now [] c.requires.there)) ∙ sym c.len.ensures ∙ c.if-len-eq1.true in
    let none : take at r ++ drop (suc at) r ≡ [] = nil_from_length _ (omega (arith, one, c.requires.bound, length-append (take at r) (drop (suc at) r), length-take at r, length-drop (suc at) r)) in
    ap together c.remove.ensures.items ∙ (together_append (take row rs) (drop (suc row) rs) ∙ ap (λ l. together (take row rs) ++ (l ++ together (drop (suc row) rs))) (sym none))

pub returns-then-len-eq1-clause-filled : goal.returns-then-len-eq1-clause-filled
returns-then-len-eq1-clause-filled g c =
    let rs = c.args.rows.now.items in
    let row = c.args.row in
    rw c.remove.ensures.items (filled_append (take row rs) (drop (suc row) rs) (filled_take row rs c.requires.filled) (filled_drop (suc row) rs c.requires.filled))

pub returns-else-len-eq1-clause-gone : goal.returns-else-len-eq1-clause-gone
returns-else-len-eq1-clause-gone g c =
    let rs = c.args.rows.now.items in
    let row = c.args.row in
    let at = c.args.at in
    let same : c.index_mut.result.now ≡ get_or rs row [] = c.index_mut.ensures.value ∙ get_or_default rs row c.index_mut.result.now [] c.requires.there in
    with_row row rs c.remove-else-len-eq1.new.self c.requires.there ∙ ap (λ l. together (take row rs) ++ (l ++ together (drop (suc row) rs))) (c.remove-else-len-eq1.ensures ∙ ap (λ l. take at l ++ drop (suc at) l) same)

pub returns-else-len-eq1-clause-filled : goal.returns-else-len-eq1-clause-filled
returns-else-len-eq1-clause-filled g c =
    let rs = c.args.rows.now.items in
    let row = c.args.row in
    let at = c.args.at in
    let l = c.index_mut.result.now in
    let r = get_or rs row [] in
    let same : l ≡ r = c.index_mut.ensures.value ∙ get_or_default rs row l [] c.requires.there in
    let count : length r ≡ c.len.result = sym (c.len.ensures ∙ ap length (c.index.ensures ∙ get_or_default rs row c.index.result.now [] c.requires.there)) in
    let many : 1 < length r = grind (arith, count, c.if-len-eq1.false, c.requires.bound) in
    let some : 0 < length c.remove-else-len-eq1.new.self = omega (arith, ap length (c.remove-else-len-eq1.ensures ∙ ap (λ q. take at q ++ drop (suc at) q) same), length-append (take at r) (drop (suc at) r), length-take at r, length-drop (suc at) r, many, c.requires.bound) in
    filled_set row rs c.remove-else-len-eq1.new.self some c.requires.filled
