use Rattle.std.proofs.Common.{◌++◌, ap, ◌∙◌, List, flat_map, filter}
use Rattle.pl_links.specs.declared.broken.Broken.{Broken}
use Rattle.pl_links.specs.Sets.{has}
use Rattle.pl_detect.specs.Broken.{broken_conflict}
use Rattle.pl_update.specs.Links.Near.{broken_near}
use Rattle.pl_update.proofs.AboutLinks.Mending.{mends_replaced}
use Rattle.pl_update.proofs.links.replacement.replace.Goals as goal

pub returns-clause-mended : goal.returns-clause-mended
returns-clause-mended c =
    let s = c.args.s.now in
    let t = c.replace_placed.new.s in
    let new = c.replace_placed.new.links in
    mends_replaced s t c.args.gone.now c.args.placed.now c.args.links.now new c.in_ok-ids.ids.items c.in_ok-told.told.items c.add_all_broken.new.out.items c.in_ok-came.came.items
    c.requires.whole c.in_ok-told.ensures.whole c.in_ok-told.ensures.ok c.requires.kept c.in_ok-told.ensures.kept c.in_ok-ids.ensures c.in_ok-told.ensures.told
    (c.in_ok-add_all_broken.ensures
    ∙ (ap (λ bs. c.in_ok-went.went.items ++ flat_map (broken_conflict t) bs) c.as_slice-3.ensures.value
    ∙ ap (λ ks. ks ++ flat_map (broken_conflict t) c.in_ok-told.told.items)
    (c.in_ok-went.ensures
    ∙ ap (flat_map (broken_conflict s)) (c.as_slice-2.ensures.value ∙ (c.in_ok-before.ensures ∙ ap (broken_near c.args.links.now.broken) c.as_slice.ensures.value)))))
    (c.in_ok-came.ensures
    ∙ (ap (λ ids. flat_map (broken_conflict t) (broken_near new.broken ids ++ filter (λ b. has b new.broken) c.as_slice-5.result.now)) c.as_slice-4.ensures.value
    ∙ ap (λ (bs : List Broken). flat_map (broken_conflict t) (broken_near new.broken c.in_ok-ids.ids.items ++ filter (λ b. has b new.broken) bs)) c.as_slice-5.ensures.value))
