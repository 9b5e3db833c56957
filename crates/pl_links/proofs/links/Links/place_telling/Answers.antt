use Rattle.std.proofs.Common.{◌≡◌, ◌∙◌, refl, sym, ap, subst, List, Some, None}
use Rattle.std.proofs.lemmas.Bool.{eq-eqb}
use Rattle.pl_links.specs.declared.placed.Placed.{Placed}
use Rattle.pl_links.specs.declared.broken.Broken.{Broken}
use Rattle.pl_links.specs.Items.{AreRising, AreApart, item_of, with_item, without}
use Rattle.pl_links.specs.Broken.{broken_of}
use Rattle.pl_links.specs.Kept.{Kept, IsSound}
use Rattle.pl_links.specs.Sets.{has}
use Rattle.pl_links.specs.Standing.{stands}
use Rattle.pl_links.proofs.Filed.{item-with}
use Rattle.pl_links.proofs.Keeping.{listed, now_stands, without-with, same_kept}
use Rattle.pl_links.proofs.links.Links.place_telling.Goals as goal

pub mend-requires-clause-placed : goal.mend-requires-clause-placed
mend-requires-clause-placed c =
    let p = c.args.item.now in
    let xs = c.self.inside.store in
    let absent : item_of p.id xs ≡ None = ap (λ (k : Kept). item_of p.id k.items) c.self.view_is ∙ c.requires.free.absent in
    rw c.in_ok-place.ensures.ok (item-with p p.id xs absent ∙ rw (eq-eqb p.id p.id refl) refl)

pub mend-requires-clause-listed : goal.mend-requires-clause-listed
mend-requires-clause-listed c = λ b.
    let p = c.args.item.now in
    let xs = c.self.inside.store in
    let model = c.args.model.now in
    let absent : item_of p.id xs ≡ None = ap (λ (k : Kept). item_of p.id k.items) c.self.view_is ∙ c.requires.free.absent in
    let is : c.self.inside.broken.keys ≡ broken_of model xs = ap (λ (k : Kept). k.broken) c.self.view_is ∙ c.requires.model ∙ ap (λ (k : Kept). broken_of model k.items) (sym c.self.view_is) in
    rw (c.in_ok-place.ensures.ok, without-with p xs absent) (now_stands model xs c.self.inside.broken.keys b c.self.invariant.rising is)

pub take-requires : goal.take-requires
take-requires c =
    let p = c.args.item.now in
    let xs = c.self.inside.store in
    let absent : item_of p.id xs ≡ None = ap (λ (k : Kept). item_of p.id k.items) c.self.view_is ∙ c.requires.free.absent in
    let here : item_of p.id c.place.new.self ≡ Some p = rw c.in_ok-place.ensures.ok (item-with p p.id xs absent ∙ rw (eq-eqb p.id p.id refl) refl) in
    rw here refl

pub returns-in-Ok-clause-ok : goal.returns-in-Ok-clause-ok
returns-in-Ok-clause-ok c =
    let p = c.args.item.now in
    let model = c.args.model.now in
    let after = with_item p c.args.self.now.items in
    let is : c.place.new.self ≡ after = c.in_ok-place.ensures.ok ∙ ap (λ (k : Kept). with_item p k.items) c.self.view_is in
    let rising : AreRising after = subst AreRising is c.in_ok-place.ensures.rising in
    same_kept c.place.new.self after c.mend.new.listed.keys (broken_of model after) is
    (listed model after c.mend.new.listed.keys rising c.in-Ok.ensures.rising (λ b. c.in-Ok.ensures.ok b ∙ ap (λ l. stands model l b) is))

pub returns-in-Err-clause-err : goal.returns-in-Err-clause-err
returns-in-Err-clause-err c =
    let p = c.args.item.now in
    let xs = c.self.inside.store in
    let absent : item_of p.id xs ≡ None = ap (λ (k : Kept). item_of p.id k.items) c.self.view_is ∙ c.requires.free.absent in
    let back : c.take.new.self ≡ xs = c.take.ensures.after ∙ ap (without p.id) c.in_ok-place.ensures.ok ∙ without-with p xs absent in
    same_kept c.take.new.self xs c.mend.new.listed.keys c.self.inside.broken.keys back c.in-Err.ensures.err ∙ c.self.view_is
