use Rattle.std.proofs.Common.{◌≡◌, ◌+◌, ◌-◌, [], ◌++◌, length, take, drop, arith, ap, sym, ◌∙◌, subst}
use Rattle.std.proofs.lemmas.Bool.{eqb-true}
use Rattle.std.proofs.lemmas.List.{take_rest, nil_from_length}
use Rattle.pl_lists.specs.Lists.{front, back}
use Rattle.pl_state.specs.Keys.{AreSorted}
use Rattle.pl_state.specs.Sets.{is_allowed}
use Rattle.pl_state.specs.Sorted.{bad_key}
use Rattle.pl_state.specs.Timelines.{same_bad}
use Rattle.pl_state.specs.Near.{bad_before, bad_by, AreBadInOrder}
use Rattle.pl_state.specs.Present.{bad_at}
use Rattle.pl_state.proofs.Steps.{bad_order_drop, none_told}
use Rattle.pl_state.proofs.Grouping.{bad_itself}
use Rattle.pl_state.proofs.Sorting.{bad_sorted, sorted_rising, knows_bad}
use Rattle.pl_state.proofs.Changing.{exchanged_went, exchanged_came, steps_mended}
use Rattle.pl_state.proofs.near.mend_steps.Goals as goal

pub returns-then-is_empty-clause-bad : goal.returns-then-is_empty-clause-bad
returns-then-is_empty-clause-bad c =
    let p = c.args.present in
    let steps = c.args.steps.now in
    let zero : c.args.bad.now.len ≡ 0 = eqb-true c.args.bad.now.len 0 (sym c.is_empty.ensures ∙ c.if-is_empty.true) in
    let none : c.args.bad.now.items ≡ [] = nil_from_length c.args.bad.now.items (omega (arith, c.args.bad.now.ok, zero)) in
    none ∙ sym (ap (λ any. bad_at any steps p c.args.sets.now) c.if-any.true ∙ none_told steps p.base p.horizon p.moment p.value c.args.sets.now)

pub begun_count-begin-requires : goal.begun_count-begin-requires
begun_count-begin-requires c = subst (λ l. AreBadInOrder 0 l) (sym c.deref.ensures.value) (sorted_rising c.args.bad.now.items c.requires.sorted)

pub passed_count-count-requires : goal.passed_count-count-requires
passed_count-count-requires c = rw (take_rest c.deref-2.result.now c.begun_count-begin.result) (bad_order_drop c.begun_count-begin.result 0 c.deref-2.result.now (subst (λ l. AreBadInOrder 0 l) (sym c.deref-2.ensures.value) (sorted_rising c.args.bad.now.items c.requires.sorted)))

pub exchange-requires-clause-known : goal.exchange-requires-clause-known
exchange-requires-clause-known c = knows_bad

pub exchange-requires-clause-sorted_new : goal.exchange-requires-clause-sorted_new
exchange-requires-clause-sorted_new c =
    let p = c.args.present in
    let old = c.args.bad.now.items in
    let i = c.begun_count-begin.result in
    let n = c.passed_count-count.result in
    let first : take i old ≡ front (bad_before c.args.near.from) old = rw c.deref.ensures.value at c.begun_count-begin.ensures.before in
    let rest : drop i old ≡ back (bad_before c.args.near.from) old = rw c.deref.ensures.value at c.begun_count-begin.ensures.rest in
    let slice : take (length c.deref-2.result.now - i) (drop i c.deref-2.result.now) ≡ drop i old = take_rest c.deref-2.result.now i ∙ ap (drop i) c.deref-2.ensures.value in
    let behind : drop n (drop i old) ≡ back (bad_by c.args.near.to) (drop i old) = subst (λ l. drop n l ≡ back (bad_by c.args.near.to) l) slice c.passed_count-count.ensures.rest in
    let new : take i old ++ (c.deref-3.result.now ++ drop (i + n) old) ≡ bad_at c.args.any c.args.steps.now p c.args.sets.now = steps_mended (is_allowed c.args.any c.args.steps.now) p.base p.horizon p.moment p.value c.args.near.from c.args.near.to c.args.sets.now old c.deref-3.result.now i n
    c.requires.ordered c.requires.near c.requires.bound first rest behind c.requires.before c.requires.behind (c.deref-3.ensures.value ∙ c.in_ok-fresh.ensures.bad) in
    subst (λ l. AreSorted bad_key l) (sym new) (bad_sorted (is_allowed c.args.any c.args.steps.now) p.base p.horizon p.moment p.value c.args.sets.now c.in_ok-fresh.ensures.sorted)

pub returns-clause-bad : goal.returns-clause-bad
returns-clause-bad c =
    let p = c.args.present in
    let old = c.args.bad.now.items in
    let i = c.begun_count-begin.result in
    let n = c.passed_count-count.result in
    let first : take i old ≡ front (bad_before c.args.near.from) old = rw c.deref.ensures.value at c.begun_count-begin.ensures.before in
    let rest : drop i old ≡ back (bad_before c.args.near.from) old = rw c.deref.ensures.value at c.begun_count-begin.ensures.rest in
    let slice : take (length c.deref-2.result.now - i) (drop i c.deref-2.result.now) ≡ drop i old = take_rest c.deref-2.result.now i ∙ ap (drop i) c.deref-2.ensures.value in
    let behind : drop n (drop i old) ≡ back (bad_by c.args.near.to) (drop i old) = subst (λ l. drop n l ≡ back (bad_by c.args.near.to) l) slice c.passed_count-count.ensures.rest in
    c.in_ok-difference.ensures.items ∙ steps_mended (is_allowed c.args.any c.args.steps.now) p.base p.horizon p.moment p.value c.args.near.from c.args.near.to c.args.sets.now old c.deref-3.result.now i n
    c.requires.ordered c.requires.near c.requires.bound first rest behind c.requires.before c.requires.behind (c.deref-3.ensures.value ∙ c.in_ok-fresh.ensures.bad)

pub returns-clause-went : goal.returns-clause-went
returns-clause-went c =
    let i = c.begun_count-begin.result in
    c.in_ok-difference.ensures.went ∙ exchanged_went same_bad bad_itself c.args.bad.now.items c.deref-3.result.now c.exchange.new.list.items i (i + c.passed_count-count.result) (omega arith) c.in_ok-difference.ensures.items

pub returns-clause-came : goal.returns-clause-came
returns-clause-came c =
    let i = c.begun_count-begin.result in
    c.in_ok-difference.ensures.came ∙ exchanged_came same_bad bad_itself c.args.bad.now.items c.deref-3.result.now c.exchange.new.list.items i (i + c.passed_count-count.result) (omega arith) c.in_ok-difference.ensures.items

pub returns-clause-sorted : goal.returns-clause-sorted
returns-clause-sorted c =
    let p = c.args.present in
    subst (λ l. AreSorted bad_key l) (sym (returns-clause-bad c)) (bad_sorted (is_allowed c.args.any c.args.steps.now) p.base p.horizon p.moment p.value c.args.sets.now c.in_ok-fresh.ensures.sorted)
