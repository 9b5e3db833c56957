use Rattle.std.proofs.Common.{◌<◌, subst, ap, sym, ◌∙◌}
use Rattle.pl_lists.specs.Lists.{front, back}
use Rattle.pl_state.specs.Keys.{key_before}
use Rattle.pl_state.proofs.Seeking.{sought_begin, sought_found, sought_passed}
use Rattle.pl_state.proofs.finding.position_in.Goals as goal

pub loop-place-init : goal.loop-place-init
loop-place-init g c =
    let key = g.T.Keyed.key in
    let xs = c.args.rows.now in
    let u = c.args.item.now in
    let i = c.count-place.result in
    sought_begin key g.T.Keyed.same c.requires.known u xs i
    (c.count-place.ensures.front ∙ ap (λ k. front (λ x. key_before (key x) k) xs) c.key-key.ensures)
    (c.count-place.ensures.rest ∙ ap (λ k. back (λ x. key_before (key x) k) xs) c.key-key.ensures)

pub returns-then-is_same-clause-gone : goal.returns-then-is_same-clause-gone
returns-then-is_same-clause-gone g c = (sought_found g.T.Keyed.same c.args.item.now c.args.rows.now c.loop-place.place c.at-other.result c.loop-place.invariant (subst (λ n. c.loop-place.place < n) c.len-place-end.ensures c.loop-place-test.true) c.at-other.ensures (sym c.is_same.ensures ∙ c.if-is_same.true)).gone

pub returns-then-is_same-clause-rest : goal.returns-then-is_same-clause-rest
returns-then-is_same-clause-rest g c = (sought_found g.T.Keyed.same c.args.item.now c.args.rows.now c.loop-place.place c.at-other.result c.loop-place.invariant (subst (λ n. c.loop-place.place < n) c.len-place-end.ensures c.loop-place-test.true) c.at-other.ensures (sym c.is_same.ensures ∙ c.if-is_same.true)).rest

pub returns-then-is_before-clause-among : goal.returns-then-is_before-clause-among
returns-then-is_before-clause-among g c = (sought_passed g.T.Keyed.key g.T.Keyed.same c.requires.known c.args.item.now c.args.rows.now c.loop-place.place c.at-other.result c.requires.sorted c.loop-place.invariant (subst (λ n. c.loop-place.place < n) c.len-place-end.ensures c.loop-place-test.true) c.at-other.ensures (sym (ap (λ k. key_before k (g.T.Keyed.key c.at-other.result)) c.key-key.ensures) ∙ (sym (ap (λ k. key_before c.key-key.result k) c.key.ensures) ∙ (sym c.is_before.ensures ∙ c.if-is_before.true)))).among

pub returns-then-is_before-clause-none : goal.returns-then-is_before-clause-none
returns-then-is_before-clause-none g c = (sought_passed g.T.Keyed.key g.T.Keyed.same c.requires.known c.args.item.now c.args.rows.now c.loop-place.place c.at-other.result c.requires.sorted c.loop-place.invariant (subst (λ n. c.loop-place.place < n) c.len-place-end.ensures c.loop-place-test.true) c.at-other.ensures (sym (ap (λ k. key_before k (g.T.Keyed.key c.at-other.result)) c.key-key.ensures) ∙ (sym (ap (λ k. key_before c.key-key.result k) c.key.ensures) ∙ (sym c.is_before.ensures ∙ c.if-is_before.true)))).gone

pub returns-then-is_before-clause-no_rest : goal.returns-then-is_before-clause-no_rest
returns-then-is_before-clause-no_rest g c = (sought_passed g.T.Keyed.key g.T.Keyed.same c.requires.known c.args.item.now c.args.rows.now c.loop-place.place c.at-other.result c.requires.sorted c.loop-place.invariant (subst (λ n. c.loop-place.place < n) c.len-place-end.ensures c.loop-place-test.true) c.at-other.ensures (sym (ap (λ k. key_before k (g.T.Keyed.key c.at-other.result)) c.key-key.ensures) ∙ (sym (ap (λ k. key_before c.key-key.result k) c.key.ensures) ∙ (sym c.is_before.ensures ∙ c.if-is_before.true)))).rest
