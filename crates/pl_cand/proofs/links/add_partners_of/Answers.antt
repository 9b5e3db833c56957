use Rattle.std.proofs.Common.{◌≡◌, ◌≤◌, append-nil, length, slice_get, List, None, rules, arith, subst, sym}
use Rattle.std.proofs.lemmas.Grind.{common_steps}
use Rattle.std.proofs.lemmas.Option.{slice_get_past}
use Rattle.pl_model.specs.declared.links.Link.{Link}
use Rattle.pl_links.specs.Broken.{links_of}
use Rattle.pl_semantics.specs.Links.{placed_of}
use Rattle.pl_cand.proofs.links.add_partners_of.Goals as goal

pub returns-in-None : goal.returns-in-None
returns-in-None c =
    let s = c.args.state.now in
    let past : length c.links_of.result.now ≤ c.args.index = first_of (search rules, grind (arith, common_steps)) in
    let none : slice_get (links_of s.model (placed_of s c.args.a.now)) c.args.index ≡ None = subst (λ (l : List Link). slice_get l c.args.index ≡ None) c.links_of.ensures.value (slice_get_past c.links_of.result.now c.args.index past) in
    rw none (sym (append-nil c.args.out.now.items))
