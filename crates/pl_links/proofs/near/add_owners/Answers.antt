use Rattle.std.proofs.Common.{◌≡◌, ◌∙◌, ◌<◌, ◌^◌, ◌++◌, ℕ, ap, map, List, Some, rules}
use Rattle.pl_links.specs.declared.keys.Key.{Key}
use Rattle.pl_links.specs.Broken.{is_apart}
use Rattle.pl_links.specs.Keys.{link_at}
use Rattle.pl_links.specs.Windows.{in_window}
use Rattle.pl_links.proofs.Owners.{filter_within}
use Rattle.pl_links.proofs.near.add_owners.Goals as goal

pub returns-in_ok-add_links-in-Some : goal.returns-in_ok-add_links-in-Some
returns-in_ok-add_links-in-Some c =
    let link = c.args.link.now in
    let t = c.in-Some.moment in
    let w = c.window_before-window in
    let within : (m : ℕ) → m < 2 ^ 32 → in_window w.result m ≡ is_apart link.low link.high m t = λ m lt. search (rules, w.ensures.within m lt) in
    rw c.in-Some.is (c.in_ok-add_links-in-Some.ensures.ok
    ∙ ap (λ (ks : List Key). c.args.near.now.items ++ map (link_at c.args.index) ks) (filter_within c.args.group w.result (λ m. is_apart link.low link.high m t) c.args.keys.now c.add_links.ensures.short within))
