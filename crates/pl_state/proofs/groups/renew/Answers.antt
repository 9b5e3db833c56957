use Rattle.std.proofs.Common.{◌++◌, [], take, drop, ap, sym, ◌∙◌, subst}
use Rattle.pl_state.specs.Keys.{AreSorted}
use Rattle.pl_state.specs.Near.{group_key, AreRightBut, IsBegun}
use Rattle.pl_state.specs.Present.{group_at}
use Rattle.pl_state.proofs.Renewing.{all_keys}
use Rattle.pl_state.proofs.groups.renew.Goals as goal

pub renewed-requires-clause-sorted : goal.renewed-requires-clause-sorted
renewed-requires-clause-sorted c = subst (λ l. AreSorted group_key l) (sym c.deref.ensures.value) c.requires.sorted

pub renewed-requires-clause-right : goal.renewed-requires-clause-right
renewed-requires-clause-right c = subst (λ l. AreRightBut c.args.keys.now (group_at c.args.present c.args.sets.now) c.args.musts.now l) (sym c.deref.ensures.value) c.requires.right

pub replace-requires-clause-begin : goal.replace-requires-clause-begin
replace-requires-clause-begin c =
    let r = c.in_ok-renewal.renewal in
    let begun : IsBegun (group_at c.args.present c.args.sets.now) c.args.musts.now c.args.broken.now.items [] r.begin r.passed r.taken r.fresh.items r.went r.came = subst (λ l. IsBegun (group_at c.args.present c.args.sets.now) c.args.musts.now l [] r.begin r.passed r.taken r.fresh.items r.went r.came) c.deref.ensures.value c.in_ok-renewal.ensures in
    begun.low

pub replace-requires-clause-end : goal.replace-requires-clause-end
replace-requires-clause-end c =
    let r = c.in_ok-renewal.renewal in
    let begun : IsBegun (group_at c.args.present c.args.sets.now) c.args.musts.now c.args.broken.now.items [] r.begin r.passed r.taken r.fresh.items r.went r.came = subst (λ l. IsBegun (group_at c.args.present c.args.sets.now) c.args.musts.now l [] r.begin r.passed r.taken r.fresh.items r.went r.came) c.deref.ensures.value c.in_ok-renewal.ensures in
    begun.in_broken

pub returns-clause-broken : goal.returns-clause-broken
returns-clause-broken c =
    let r = c.in_ok-renewal.renewal in
    let begun : IsBegun (group_at c.args.present c.args.sets.now) c.args.musts.now c.args.broken.now.items [] r.begin r.passed r.taken r.fresh.items r.went r.came = subst (λ l. IsBegun (group_at c.args.present c.args.sets.now) c.args.musts.now l [] r.begin r.passed r.taken r.fresh.items r.went r.came) c.deref.ensures.value c.in_ok-renewal.ensures in
    (all_keys (group_at c.args.present c.args.sets.now) c.args.musts.now c.args.broken.now.items r.begin r.passed r.taken r.fresh.items r.went r.came c.replace.new.list.items begun (c.in_ok-replace.ensures ∙ ap (λ l. take r.begin c.args.broken.now.items ++ (l ++ drop r.taken c.args.broken.now.items)) c.deref-2.ensures.value)).all

pub returns-clause-went : goal.returns-clause-went
returns-clause-went c =
    let r = c.in_ok-renewal.renewal in
    let begun : IsBegun (group_at c.args.present c.args.sets.now) c.args.musts.now c.args.broken.now.items [] r.begin r.passed r.taken r.fresh.items r.went r.came = subst (λ l. IsBegun (group_at c.args.present c.args.sets.now) c.args.musts.now l [] r.begin r.passed r.taken r.fresh.items r.went r.came) c.deref.ensures.value c.in_ok-renewal.ensures in
    (all_keys (group_at c.args.present c.args.sets.now) c.args.musts.now c.args.broken.now.items r.begin r.passed r.taken r.fresh.items r.went r.came c.replace.new.list.items begun (c.in_ok-replace.ensures ∙ ap (λ l. take r.begin c.args.broken.now.items ++ (l ++ drop r.taken c.args.broken.now.items)) c.deref-2.ensures.value)).gone

pub returns-clause-came : goal.returns-clause-came
returns-clause-came c =
    let r = c.in_ok-renewal.renewal in
    let begun : IsBegun (group_at c.args.present c.args.sets.now) c.args.musts.now c.args.broken.now.items [] r.begin r.passed r.taken r.fresh.items r.went r.came = subst (λ l. IsBegun (group_at c.args.present c.args.sets.now) c.args.musts.now l [] r.begin r.passed r.taken r.fresh.items r.went r.came) c.deref.ensures.value c.in_ok-renewal.ensures in
    (all_keys (group_at c.args.present c.args.sets.now) c.args.musts.now c.args.broken.now.items r.begin r.passed r.taken r.fresh.items r.went r.came c.replace.new.list.items begun (c.in_ok-replace.ensures ∙ ap (λ l. take r.begin c.args.broken.now.items ++ (l ++ drop r.taken c.args.broken.now.items)) c.deref-2.ensures.value)).fresh
