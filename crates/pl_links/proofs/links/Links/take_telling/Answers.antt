use Rattle.std.proofs.Common.{◌≡◌, ◌∙◌, sym, ap, subst, Some}
use Rattle.pl_links.specs.Items.{AreRising, item_of, without}
use Rattle.pl_links.specs.Broken.{broken_of}
use Rattle.pl_links.specs.Kept.{Kept}
use Rattle.pl_links.specs.Standing.{stands}
use Rattle.pl_links.proofs.Left.{item_is}
use Rattle.pl_links.proofs.Keeping.{listed, now_stands, same_kept, absent_stays, tells_nothing}
use Rattle.pl_links.proofs.links.Links.take_telling.Goals as goal

pub mend-requires-clause-placed : goal.mend-requires-clause-placed
mend-requires-clause-placed c =
    let here : item_of c.args.id c.self.inside.store ≡ Some c.in-Some.item = sym c.in-Some.ensures.item in
    let is = item_is c.args.id c.self.inside.store c.in-Some.item here in
    subst (λ i. item_of i c.self.inside.store ≡ Some c.in-Some.item) (sym is.1) here

pub mend-requires-clause-gone : goal.mend-requires-clause-gone
mend-requires-clause-gone c = sym (item_is c.args.id c.self.inside.store c.in-Some.item (sym c.in-Some.ensures.item)).1

pub mend-requires-clause-listed : goal.mend-requires-clause-listed
mend-requires-clause-listed c = λ b.
    let xs = c.self.inside.store in
    let model = c.args.model.now in
    let is : c.self.inside.broken.keys ≡ broken_of model xs = ap (λ (k : Kept). k.broken) c.self.view_is ∙ c.requires ∙ ap (λ (k : Kept). broken_of model k.items) (sym c.self.view_is) in
    now_stands model xs c.self.inside.broken.keys b c.self.invariant.rising is

pub returns-in_ok-changes-in-Some-clause-ok : goal.returns-in_ok-changes-in-Some-clause-ok
returns-in_ok-changes-in-Some-clause-ok c =
    let model = c.args.model.now in
    let after = without c.args.id c.args.self.now.items in
    let is : c.take.new.self ≡ after = c.take.ensures.after ∙ ap (λ (k : Kept). without c.args.id k.items) c.self.view_is in
    let rising : AreRising after = subst AreRising is c.take.ensures.rising in
    let left_is : without c.args.id c.self.inside.store ≡ after = ap (λ (k : Kept). without c.args.id k.items) c.self.view_is in
    same_kept c.take.new.self after c.mend.new.listed.keys (broken_of model after) is
    (listed model after c.mend.new.listed.keys rising c.in_ok-changes-in-Some.ensures.rising (λ b. c.in_ok-changes-in-Some.ensures.ok b ∙ ap (λ l. stands model l b) left_is))

pub returns-in-None-clause-ok : goal.returns-in-None-clause-ok
returns-in-None-clause-ok c =
    let kept = c.args.self.now in
    let is = absent_stays c.args.id kept.items (ap (λ (k : Kept). item_of c.args.id k.items) (sym c.self.view_is) ∙ sym c.item.ensures.item ∙ c.in-None.is) in
    same_kept kept.items (without c.args.id kept.items) kept.broken (broken_of c.args.model.now (without c.args.id kept.items)) is (c.requires ∙ ap (broken_of c.args.model.now) is)

pub returns-in-None-clause-changes : goal.returns-in-None-clause-changes
returns-in-None-clause-changes c = tells_nothing c.args.self.now.broken c.none.result c.none.ensures.came c.none.ensures.went
