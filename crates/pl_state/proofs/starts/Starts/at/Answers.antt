use Rattle.std.proofs.Common.{◌≡◌, ◌-◌, drop, ap, sym, ◌∙◌, subst, List}
use Rattle.std.specs.Prelude.{◌↔◌, true}
use Rattle.pl_lists.specs.Lists.{front, back}
use Rattle.pl_state.specs.declared.bound.Bound.TheVariants.{By}
use Rattle.pl_state.specs.declared.key.Key.{Key}
use Rattle.pl_state.specs.declared.reservation.Must.{Must}
use Rattle.pl_state.specs.declared.reservation.Started.{Started}
use Rattle.pl_state.specs.Keys.{key_of, is_before, Has}
use Rattle.pl_state.specs.Musts.{holds_at}
use Rattle.pl_state.specs.Rows.{is_covered}
use Rattle.pl_state.specs.Starts.{started, start_key, holding_at}
use Rattle.pl_state.proofs.Holding.{found_here}
use Rattle.pl_state.proofs.starts.Starts.at.Goals as goal

pub returns : goal.returns
returns c = λ m.
    let xs = c.self.inside.items in
    let i = c.count-first.result in
    let first : Key = key_of (c.args.t - c.self.inside.longest) 0 0 in
    let on : drop i xs ≡ back (is_before start_key first) xs = subst (λ k. drop i xs ≡ back (is_before start_key (key_of k 0 0)) xs) c.saturating_sub.ensures c.count-first.ensures.rest in
    let is : c.in_ok-musts.musts.items ≡ holding_at c.args.t (front (is_covered start_key (By c.args.t)) (back (is_before start_key first) xs)) =
    c.in_ok-musts.ensures ∙ ap (holding_at c.args.t) (c.deref.ensures.value ∙ c.in_ok-starts.ensures ∙ (c.end_near-end.ensures.front ∙ ap (front (is_covered start_key (By c.args.t))) on)) in
    subst (λ (l : List Must). Has m l ↔ (Has (started m) c.args.self.now × (holds_at c.args.t m ≡ true))) (sym is)
    (subst (λ (l : List Started). Has m (holding_at c.args.t (front (is_covered start_key (By c.args.t)) (back (is_before start_key first) xs))) ↔ (Has (started m) l × (holds_at c.args.t m ≡ true))) c.self.view_is (found_here c.args.t c.self.inside.longest xs m c.self.invariant))
