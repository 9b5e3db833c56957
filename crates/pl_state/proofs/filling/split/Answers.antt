use Rattle.std.proofs.Common.{◌≡◌, ◌<◌, ◌+◌, ◌/◌, ◌++◌, ◌∷◌, [], suc, ap, sym, ◌∙◌, arith, length, take, drop, set, get_or, subst}
use Rattle.std.proofs.lemmas.List.{take_rest, length-drop, length-take, get_or_default}
use Rattle.pl_state.proofs.InRows.{split_there, split_filled, read_split}
use Rattle.pl_state.proofs.filling.split.Goals as goal

pub returns-clause-same : goal.returns-clause-same
returns-clause-same g c =
    let rs = c.args.rows.now.items in
    let row = c.args.row in
    let half = c.len-half.result / 2 in
    let b = c.in_ok-behind.behind in
    let r = c.index_mut.result.now in
    let next : row + 1 ≡ suc row = omega arith in
    let put : c.insert.new.self.items ≡ take (suc row) rs ++ b ∷ drop (suc row) rs = c.in_ok-insert.ensures.items ∙ ap (λ n. take n rs ++ b ∷ drop n rs) next in
    let is : r ≡ get_or rs row r = read_split rs b r row c.requires.there (c.index_mut.ensures.value ∙ ap (λ l. get_or l row r) put) in
    let same : c.as_slice.result.now ≡ r = c.as_slice.ensures ∙ (c.index-2.ensures ∙ (get_or_default rs row c.index-2.result.now r c.requires.there ∙ sym is)) in
    split_there rs (set c.insert.new.self.items row c.truncate.new.self) r b row half c.requires.there is
    (c.in_ok-behind.ensures ∙ (take_rest c.as_slice.result.now half ∙ ap (drop half) same))
    (ap (λ l. set l row c.truncate.new.self) put ∙ ap (set (take (suc row) rs ++ b ∷ drop (suc row) rs) row) c.truncate.ensures)

pub returns-clause-filled : goal.returns-clause-filled
returns-clause-filled g c =
    let rs = c.args.rows.now.items in
    let row = c.args.row in
    let half = c.len-half.result / 2 in
    let b = c.in_ok-behind.behind in
    let r = c.index_mut.result.now in
    let next : row + 1 ≡ suc row = omega arith in
    let put : c.insert.new.self.items ≡ take (suc row) rs ++ b ∷ drop (suc row) rs = c.in_ok-insert.ensures.items ∙ ap (λ n. take n rs ++ b ∷ drop n rs) next in
    let is : r ≡ get_or rs row r = read_split rs b r row c.requires.there (c.index_mut.ensures.value ∙ ap (λ l. get_or l row r) put) in
    let same : c.as_slice.result.now ≡ r = c.as_slice.ensures ∙ (c.index-2.ensures ∙ (get_or_default rs row c.index-2.result.now r c.requires.there ∙ sym is)) in
    let many : 1 < length r = subst (λ l. 1 < length l) (sym (is ∙ get_or_default rs row r [] c.requires.there)) c.requires.many in
    let count : c.len-half.result ≡ length r = c.len-half.ensures ∙ ap length (c.index.ensures ∙ (get_or_default rs row c.index.result.now r c.requires.there ∙ sym is)) in
    let some_b : 0 < length b = omega (arith, ap length (c.in_ok-behind.ensures ∙ (take_rest c.as_slice.result.now half ∙ ap (drop half) same)), length-drop half r, count, many) in
    let some_a : 0 < length c.truncate.new.self = omega (arith, ap length c.truncate.ensures, length-take half r, count, many) in
    split_filled rs (set c.insert.new.self.items row c.truncate.new.self) c.truncate.new.self b row some_a some_b c.requires.filled (ap (λ l. set l row c.truncate.new.self) put)
