use Rattle.std.proofs.Common.{rules, ◌≡◌, ◌∙◌, sym, ap}
use Rattle.pl_conflict.specs.Order.{has}
use Rattle.std.proofs.lemmas.Result.{on_ok_weaker}
use Rattle.pl_conflict.specs.Sorting.{left_by, exchanged}
use Rattle.pl_conflict.proofs.Sorting.{new_is_absent, exchange_done, exchange_for_none, has-exchanged}
use Rattle.pl_conflict.proofs.set.ConflictSet.exchange.Goals as goal

pub returns-then-is_empty-clause-ok : goal.returns-then-is_empty-clause-ok
returns-then-is_empty-clause-ok c =
    exchange_for_none c.args.self.now c.args.went.now c.args.came.now c.remove_all.new.self (search (rules, c.if-is_empty.true, c.is_empty.ensures)) c.remove_all.ensures.after c.remove_all.ensures.sorted

pub returns-then-is_empty-clause-members : goal.returns-then-is_empty-clause-members
returns-then-is_empty-clause-members c q =
    ap (has q) (exchange_for_none c.args.self.now c.args.went.now c.args.came.now c.remove_all.new.self (search (rules, c.if-is_empty.true, c.is_empty.ensures)) c.remove_all.ensures.after c.remove_all.ensures.sorted)
    ∙ has-exchanged c.args.self.now c.args.went.now c.args.came.now q

pub returns-in-Some-clause-members : goal.returns-in-Some-clause-members
returns-in-Some-clause-members c =
    let s = c.args.self.now in
    let w = c.args.went.now in
    on_ok_weaker c.exchange_for.result (λ e q. ap (has q) (e ∙ ap (exchanged s w) (sym c.in-Some.ensures.alone)) ∙ has-exchanged s w c.args.came.now q) c.exchange_for.ensures.ok

pub insert_all-requires-clause-absent : goal.insert_all-requires-clause-absent
insert_all-requires-clause-absent c =
    let fresh : c.as_slice.result.now ≡ left_by c.args.self.now c.args.came.now = c.as_slice.ensures.value ∙ c.in_ok-fresh.ensures in
    λ q is. new_is_absent c.args.self.now c.args.came.now q (sym (ap (has q) fresh) ∙ is)

pub returns-clause-ok : goal.returns-clause-ok
returns-clause-ok c =
    exchange_done c.args.self.now c.args.went.now c.args.came.now _ _ _ _ (c.as_slice-2.ensures.value ∙ c.in_ok-leaving.ensures) (c.as_slice.ensures.value ∙ c.in_ok-fresh.ensures)
    c.in_ok-insert_all.ensures.ok c.remove_all-2.ensures.after

pub returns-clause-members : goal.returns-clause-members
returns-clause-members c q =
    ap (has q) (exchange_done c.args.self.now c.args.went.now c.args.came.now _ _ _ _ (c.as_slice-2.ensures.value ∙ c.in_ok-leaving.ensures) (c.as_slice.ensures.value ∙ c.in_ok-fresh.ensures)
    c.in_ok-insert_all.ensures.ok c.remove_all-2.ensures.after)
    ∙ has-exchanged c.args.self.now c.args.went.now c.args.came.now q
