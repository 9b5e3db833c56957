use Rattle.std.proofs.Common.{◌≡◌, ◌++◌, suc, length, take, drop, ap, sym, ◌∙◌, subst, arith, min, max}
use Rattle.std.proofs.lemmas.List.{length-take-le, drop_at}
use Rattle.pl_points.specs.Standing.{without}
use Rattle.pl_state.specs.Keys.{AreSorted}
use Rattle.pl_state.specs.Sets.{set_key, same_setting}
use Rattle.pl_state.specs.Near.{next_moment, rest_after}
use Rattle.pl_state.proofs.Keys.{sorted_without}
use Rattle.pl_state.proofs.sets.remove_set.Goals as goal

pub invariant_of-sets : goal.invariant_of-sets
invariant_of-sets c =
    let xs = c.sets.inside.items in
    let i = c.in-Some.place in
    let u = c.args.set in
    let gone : take i xs ++ drop (suc i) xs ≡ without same_setting u xs = c.in-Some.ensures.gone in
    subst (λ l. AreSorted set_key l) (sym (c.remove.ensures ∙ gone)) (sorted_without set_key same_setting u xs c.sets.invariant)

pub returns-in-Some-clause-to : goal.returns-in-Some-clause-to
returns-in-Some-clause-to c =
    let xs = c.sets.inside.items in
    let i = c.in-Some.place in
    let u = c.args.set in
    let count : length (take i xs) ≡ i = length-take-le i xs (omega (arith, c.in-Some.ensures.bound)) in
    let next : drop i c.remove.new.self ≡ drop (suc i) xs = ap (drop i) c.remove.ensures ∙ drop_at (take i xs) (drop (suc i) xs) i count in
    c.window_from.ensures.to ∙ ap (λ l. max (next_moment c.args.horizon l) (min u.at c.args.horizon)) (next ∙ (c.in-Some.ensures.rest ∙ ap (rest_after same_setting u) c.sets.view_is))
