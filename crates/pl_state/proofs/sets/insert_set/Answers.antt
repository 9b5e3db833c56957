use Rattle.std.proofs.Common.{ap, sym, ◌∙◌, subst, refl, drop, max, min}
use Rattle.pl_lists.specs.Lists.{back}
use Rattle.pl_state.specs.Keys.{AreSorted}
use Rattle.pl_state.specs.Sets.{set_key, set_before, with_set}
use Rattle.pl_state.specs.Near.{next_moment}
use Rattle.pl_state.proofs.Keys.{placed, put_in, sorted_with}
use Rattle.pl_state.proofs.sets.insert_set.Goals as goal

pub invariant_of-sets-2 : goal.invariant_of-sets-2
invariant_of-sets-2 c =
    let xs = c.sets.inside.items in
    let i = c.count-place.result in
    let p = placed set_key c.args.set c.key.result xs xs i refl c.key.ensures c.count-place.ensures.front c.count-place.ensures.rest in
    subst (λ l. AreSorted set_key l) (sym (put_in set_key c.args.set xs c.insert.new.self i p c.in_ok-insert.ensures.ok)) (sorted_with set_key c.args.set xs c.sets.invariant)

pub returns-clause-items : goal.returns-clause-items
returns-clause-items c =
    let xs = c.sets.inside.items in
    let i = c.count-place.result in
    let p = placed set_key c.args.set c.key.result xs xs i refl c.key.ensures c.count-place.ensures.front c.count-place.ensures.rest in
    put_in set_key c.args.set xs c.insert.new.self i p c.in_ok-insert.ensures.ok ∙ ap (with_set c.args.set) c.sets.view_is

pub returns-clause-to : goal.returns-clause-to
returns-clause-to c =
    let xs = c.sets.inside.items in
    let i = c.count-place.result in
    let u = c.args.set in
    let p = placed set_key u c.key.result xs xs i refl c.key.ensures c.count-place.ensures.front c.count-place.ensures.rest in
    c.window_from-near.ensures.to ∙ ap (λ l. max (next_moment c.args.horizon l) (min u.at c.args.horizon)) (sym (ap (drop i) c.sets.view_is) ∙ (p.1 ∙ ap (back (set_before u)) c.sets.view_is))
