use Rattle.std.proofs.Common.{◌<◌, ◌-◌, length, refl, ap, sym, ◌∙◌, subst, arith}
use Rattle.pl_state.specs.Keys.{AreSorted}
use Rattle.pl_state.specs.Rows.{together}
use Rattle.pl_state.proofs.InRows.{sorted_row, counted_in_row, counted_at_end, rows_before}
use Rattle.pl_state.proofs.rows.Rows.count.Goals as goal

pub returns-then-row-len-clause-front : goal.returns-then-row-len-clause-front
returns-then-row-len-clause-front g c =
    let key = g.T.Keyed.key in
    let rs = c.self.inside.rows.items in
    let row = c.covered_count-row.result in
    (counted_at_end key c.args.bound rs c.deref.result.now c.args.self.now row c.len-whole.result c.deref.ensures.value c.self.view_is c.requires c.covered_count-row.ensures.front c.covered_count-row.ensures.rest (omega (arith, c.if-row-len.true, c.len.ensures, c.deref.ensures.len, ap length c.deref.ensures.value)) c.len-whole.ensures).front

pub returns-then-row-len-clause-rest : goal.returns-then-row-len-clause-rest
returns-then-row-len-clause-rest g c =
    let key = g.T.Keyed.key in
    let rs = c.self.inside.rows.items in
    let row = c.covered_count-row.result in
    (counted_at_end key c.args.bound rs c.deref.result.now c.args.self.now row c.len-whole.result c.deref.ensures.value c.self.view_is c.requires c.covered_count-row.ensures.front c.covered_count-row.ensures.rest (omega (arith, c.if-row-len.true, c.len.ensures, c.deref.ensures.len, ap length c.deref.ensures.value)) c.len-whole.ensures).rest

pub length_of-requires : goal.length_of-requires
length_of-requires g c =
    let rs = c.self.inside.rows.items in
    let row = c.covered_count-row.result in
    omega (arith, (rows_before c.deref-2.result.now c.args.self.now row _ c.len-whole.result refl (ap together c.deref-2.ensures.value ∙ c.self.view_is) c.len-whole.ensures).0, c.len-whole.type_inv)

pub overflow_sub-result : goal.overflow_sub-result
overflow_sub-result g c = (rows_before c.deref-2.result.now c.args.self.now c.covered_count-row.result c.length_of.result c.len-whole.result c.length_of.ensures (ap together c.deref-2.ensures.value ∙ c.self.view_is) c.len-whole.ensures).0

pub count-requires : goal.count-requires
count-requires g c =
    let key = g.T.Keyed.key in
    let rs = c.self.inside.rows.items in
    let row = c.covered_count-row.result in
    let lt : row < length rs = grind (arith, c.covered_count-row.ensures.bound, c.if-row-len.false, c.len.ensures, c.deref.ensures.len, ap length c.deref.ensures.value) in
    sorted_row key rs c.index.result.now row lt c.index.ensures (subst (λ l. AreSorted key l) (sym c.self.view_is) c.requires)

pub overflow_add-result : goal.overflow_add-result
overflow_add-result g c =
    let key = g.T.Keyed.key in
    let rs = c.self.inside.rows.items in
    let row = c.covered_count-row.result in
    let lt : row < length rs = grind (arith, c.covered_count-row.ensures.bound, c.if-row-len.false, c.len.ensures, c.deref.ensures.len, ap length c.deref.ensures.value) in
    omega (arith, (counted_in_row key c.args.bound rs c.deref.result.now c.deref-2.result.now c.args.self.now c.index.result.now row (c.len-whole.result - c.length_of.result) c.count.result c.deref.ensures.value c.deref-2.ensures.value c.self.view_is c.requires c.covered_count-row.ensures.front c.covered_count-row.ensures.rest lt c.index.ensures c.count.ensures.bound c.count.ensures.front c.count.ensures.rest (rows_before c.deref-2.result.now c.args.self.now row c.length_of.result c.len-whole.result c.length_of.ensures (ap together c.deref-2.ensures.value ∙ c.self.view_is) c.len-whole.ensures).1).bound, c.len-whole.ensures, c.len-whole.type_inv)

pub returns-clause-bound : goal.returns-clause-bound
returns-clause-bound g c =
    let key = g.T.Keyed.key in
    let rs = c.self.inside.rows.items in
    let row = c.covered_count-row.result in
    let lt : row < length rs = grind (arith, c.covered_count-row.ensures.bound, c.if-row-len.false, c.len.ensures, c.deref.ensures.len, ap length c.deref.ensures.value) in
    (counted_in_row key c.args.bound rs c.deref.result.now c.deref-2.result.now c.args.self.now c.index.result.now row (c.len-whole.result - c.length_of.result) c.count.result c.deref.ensures.value c.deref-2.ensures.value c.self.view_is c.requires c.covered_count-row.ensures.front c.covered_count-row.ensures.rest lt c.index.ensures c.count.ensures.bound c.count.ensures.front c.count.ensures.rest (rows_before c.deref-2.result.now c.args.self.now row c.length_of.result c.len-whole.result c.length_of.ensures (ap together c.deref-2.ensures.value ∙ c.self.view_is) c.len-whole.ensures).1).bound

pub returns-clause-front : goal.returns-clause-front
returns-clause-front g c =
    let key = g.T.Keyed.key in
    let rs = c.self.inside.rows.items in
    let row = c.covered_count-row.result in
    let lt : row < length rs = grind (arith, c.covered_count-row.ensures.bound, c.if-row-len.false, c.len.ensures, c.deref.ensures.len, ap length c.deref.ensures.value) in
    (counted_in_row key c.args.bound rs c.deref.result.now c.deref-2.result.now c.args.self.now c.index.result.now row (c.len-whole.result - c.length_of.result) c.count.result c.deref.ensures.value c.deref-2.ensures.value c.self.view_is c.requires c.covered_count-row.ensures.front c.covered_count-row.ensures.rest lt c.index.ensures c.count.ensures.bound c.count.ensures.front c.count.ensures.rest (rows_before c.deref-2.result.now c.args.self.now row c.length_of.result c.len-whole.result c.length_of.ensures (ap together c.deref-2.ensures.value ∙ c.self.view_is) c.len-whole.ensures).1).front

pub returns-clause-rest : goal.returns-clause-rest
returns-clause-rest g c =
    let key = g.T.Keyed.key in
    let rs = c.self.inside.rows.items in
    let row = c.covered_count-row.result in
    let lt : row < length rs = grind (arith, c.covered_count-row.ensures.bound, c.if-row-len.false, c.len.ensures, c.deref.ensures.len, ap length c.deref.ensures.value) in
    (counted_in_row key c.args.bound rs c.deref.result.now c.deref-2.result.now c.args.self.now c.index.result.now row (c.len-whole.result - c.length_of.result) c.count.result c.deref.ensures.value c.deref-2.ensures.value c.self.view_is c.requires c.covered_count-row.ensures.front c.covered_count-row.ensures.rest lt c.index.ensures c.count.ensures.bound c.count.ensures.front c.count.ensures.rest (rows_before c.deref-2.result.now c.args.self.now row c.length_of.result c.len-whole.result c.length_of.ensures (ap together c.deref-2.ensures.value ∙ c.self.view_is) c.len-whole.ensures).1).rest
