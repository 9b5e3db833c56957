use Rattle.std.proofs.Common.{◌≡◌, ◌++◌, take, drop, map, ap, sym, ◌∙◌, Iter}
use Rattle.std.specs.declared.iter.Copied.{Copied}
use Rattle.std.proofs.lemmas.List.{map-id}
use Rattle.std.proofs.lemmas.Iterator.{YieldsList-from_slice, items_from_drains}
use Rattle.std.proofs.lemmas.Iterator.Consumers.{YieldsList-from_copied}
use Rattle.pl_state.proofs.listed.replace.Goals as goal

pub returns : goal.returns
returns g c =
    let h = c.in_ok-splice.ensures.items in
    let rest : h.0.iter.rest.now ≡ c.args.fresh.now = ap (λ (s : Copied (Iter g.row.T.Denot)). s.iter.rest.now) h.2 ∙ (ap (λ (s : Iter g.row.T.Denot). s.rest.now) c.copied.ensures.source ∙ c.iter.ensures.rest) in
    let all : map (λ (x : g.row.T.Denot). x) h.1 ≡ c.args.fresh.now = items_from_drains h.1 (h.3.1.0, h.3.1.1, λ _. (h.3.0, h.3.1.2)) (YieldsList-from_copied (YieldsList-from_slice c.args.fresh.now rest)) in
    h.4 ∙ ap (λ l. take c.args.begin c.args.list.now.items ++ (l ++ drop c.args.end c.args.list.now.items)) (sym (map-id h.1) ∙ all)
