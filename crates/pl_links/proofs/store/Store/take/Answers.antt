use Rattle.std.proofs.Common.{◌≡◌, ◌∙◌, true, false, Some, None, is_some, ap, sym, subst}
use Rattle.std.specs.Map.{values_of}
use Rattle.pl_links.specs.declared.placed.Placed.{Placed}
use Rattle.pl_links.specs.Items.{without, item_of}
use Rattle.pl_links.specs.Filed.{AreFiles, IsStored}
use Rattle.pl_links.proofs.Ids.{rising-without}
use Rattle.pl_links.proofs.Slots.{apart-without}
use Rattle.pl_links.proofs.Left.{item_is}
use Rattle.pl_links.proofs.Mapped.{lookup_is, removed_is, under_removed}
use Rattle.pl_links.proofs.store.Store.take.Goals as goal

pub unreachable-requires : goal.unreachable-requires
unreachable-requires c =
    let es = c.self.inside.items.entries in
    let none : item_of c.args.id c.args.self.now ≡ None = ap (item_of c.args.id) (sym c.self.view_is) ∙ sym (lookup_is c.args.id es c.self.invariant.under) ∙ sym c.in-None.ensures.value in
    let bad : false ≡ true = sym (ap is_some none) ∙ c.requires in
    cc

pub invariant_of-self : goal.invariant_of-self
invariant_of-self c =
    let es = c.self.inside.items.entries in
    let xs = values_of es in
    let p = c.in-Some.item in
    let here : item_of c.args.id xs ≡ Some p = sym (lookup_is c.args.id es c.self.invariant.under) ∙ sym c.in-Some.ensures.value in
    let at : p.id ≡ c.args.id = (item_is c.args.id xs p here).1 in
    let is : values_of c.remove.new.self.entries ≡ without c.args.id xs = ap values_of c.remove.ensures.entries ∙ removed_is c.args.id es c.self.invariant.under in
    let filed : AreFiles (without c.args.id xs) c.remove-in-Some.new.self = subst (λ i. AreFiles (without i xs) c.remove-in-Some.new.self) at (c.remove-in-Some.ensures xs c.self.invariant.rising c.self.invariant.filed (subst (λ i. item_of i xs ≡ Some p) (sym at) here)) in
    record {
      under = rw c.remove.ensures.entries (under_removed c.args.id es c.self.invariant.under);
      rising = rw is (rising-without c.args.id 0 xs c.self.invariant.rising);
      apart = rw is (apart-without c.args.id xs c.self.invariant.apart);
      filed = rw is filed;
    }

pub returns-clause-after : goal.returns-clause-after
returns-clause-after c =
    let es = c.self.inside.items.entries in
    ap values_of c.remove.ensures.entries ∙ removed_is c.args.id es c.self.invariant.under ∙ ap (without c.args.id) c.self.view_is

pub returns-clause-rising : goal.returns-clause-rising
returns-clause-rising c = let stored : IsStored c.remove.new.self.entries c.remove-in-Some.new.self = invariant_of-self c in stored.rising

pub returns-clause-apart : goal.returns-clause-apart
returns-clause-apart c = let stored : IsStored c.remove.new.self.entries c.remove-in-Some.new.self = invariant_of-self c in stored.apart
