-- what is put in is all of the fresh list
use Rattle.std.proofs.Common.{rules, ◌≡◌, ◌++◌, length, take, drop, ap, sym, ◌∙◌}
use Rattle.std.proofs.lemmas.Iterator.{items_from_drains}
use Rattle.std.proofs.lemmas.Iterator.Adapters.{YieldsList-from_vec}
use Rattle.std.proofs.lemmas.List.{map-id}
use Rattle.std.specs.Vec.Iter.{into_iter_len}
use Rattle.pl_points.proofs.mending.put_back.Goals as goal

pub returns-clause-items : goal.returns-clause-items
returns-clause-items c =
    let h = c.in_ok-splice.ensures.items in
    let old = c.args.kept.now.items in
    let count : into_iter_len h.0 ≡ length c.args.fresh.items = h.2.1 ∙ search rules in
    let all : h.1 ≡ c.args.fresh.items = sym (map-id h.1) ∙ items_from_drains h.1 (h.3.1.0, h.3.1.1, λ _. (h.3.0, h.3.1.2)) (YieldsList-from_vec c.args.fresh.items h.2.0 count) in
    h.4 ∙ ap (λ l. take c.args.touched.now.begin old ++ (l ++ drop c.args.touched.now.end old)) all
