use Rattle.std.proofs.Common.{◌≡◌, ◌-◌, take, drop, ap, sym, ◌∙◌, subst, nat_cmp}
use Rattle.std.specs.Ordering.{ordering_then}
use Rattle.std.proofs.lemmas.List.Sorted.{Contains-permutation}
use Rattle.pl_lists.specs.Lists.{front, back}
use Rattle.pl_state.specs.declared.key.Key.{Key}
use Rattle.pl_state.specs.Keys.{key_of, is_before, Has}
use Rattle.pl_state.specs.Musts.{must_key}
use Rattle.pl_state.specs.Starts.{started, start_key}
use Rattle.pl_state.specs.Near.{touched_keys}
use Rattle.pl_state.proofs.Indexing.{touched_here, key_lt, sorted_keys, has_contains, contains_has}
use Rattle.pl_state.proofs.starts.Starts.touched.Goals as goal

pub returns-clause-rising : goal.returns-clause-rising
returns-clause-rising c = sorted_keys (λ x y. ordering_then (nat_cmp x.at y.at) (ordering_then (nat_cmp x.id y.id) (nat_cmp x.index y.index))) key_lt c.sort_unstable.new.self.items c.sort_unstable.ensures.sorted

pub returns-clause-each : goal.returns-clause-each
returns-clause-each c = λ m has touch.
    let xs = c.self.inside.items in
    let i = c.count-first.result in
    let first : Key = key_of (c.args.near.from - c.self.inside.longest) 0 0 in
    let behind : Key = key_of c.args.near.to 0 0 in
    let on : drop i xs ≡ back (is_before start_key first) xs = subst (λ k. drop i xs ≡ back (is_before start_key (key_of k 0 0)) xs) c.saturating_sub.ensures c.count-first.ensures.rest in
    let keys : c.in_ok-keys.keys.items ≡ touched_keys c.args.near (front (is_before start_key behind) (back (is_before start_key first) xs)) =
    c.in_ok-keys.ensures ∙ ap (λ l. touched_keys c.args.near (take (c.end_near-end.result - i) (drop i l))) (sym c.self.view_is) ∙ ap (touched_keys c.args.near) (c.end_near-end.ensures.front ∙ ap (front (is_before start_key behind)) on) in
    contains_has (must_key m) c.sort_unstable.new.self.items (Contains-permutation c.in_ok-keys.keys.items c.sort_unstable.new.self.items (must_key m) c.sort_unstable.ensures.permutation
    (has_contains (must_key m) c.in_ok-keys.keys.items (subst (λ l. Has (must_key m) l) (sym keys) (touched_here c.args.near c.self.inside.longest xs m c.self.invariant (subst (λ l. Has (started m) l) (sym c.self.view_is) has) touch))))
