use Rattle.std.proofs.Common.{◌≡◌, ◌∙◌, ℕ, List, None, ap, refl, sym, subst, arith}
use Rattle.std.specs.Map.{values_of, remove_entry}
use Rattle.std.specs.Ordering.{nat_cmp}
use Rattle.std.specs.BTreeMap.{is_at, insert_entry}
use Rattle.pl_links.specs.declared.placed.Placed.{Placed}
use Rattle.pl_links.specs.declared.files.Files.{Files}
use Rattle.pl_links.specs.Items.{AreRising, AreApart, item_of, child_of, with_item, without}
use Rattle.std.proofs.Common.{IfSome}
use Rattle.pl_links.specs.Filed.{AreFiles, IsStored}
use Rattle.pl_links.proofs.Ids.{rising-with_item}
use Rattle.pl_links.proofs.Slots.{apart-with_item}
use Rattle.pl_links.proofs.Keeping.{without-with}
use Rattle.pl_links.proofs.Mapped.{inserted_is, under_inserted, removed_is, under_removed}
use Rattle.pl_links.proofs.store.Store.put.Goals as goal

module _ (es after : List (ℕ × Placed)) (files new : Files) (p : Placed) (stored : IsStored es files) (absent : item_of p.id (values_of es) ≡ None) (is : after ≡ insert_entry nat_cmp es p.id p) where
  put : values_of after ≡ with_item p (values_of es)
  put = ap values_of is ∙ inserted_is p es stored.under absent

  placed : IfSome p.parent (λ q. child_of q.0 q.1 (values_of es) ≡ None) → AreFiles (with_item p (values_of es)) new → IsStored after new
  placed free filed = record {
    under = rw is (under_inserted p es stored.under);
    rising = rw put (rising-with_item p 0 (values_of es) absent (omega arith) stored.rising);
    apart = rw put (apart-with_item p (values_of es) free stored.apart);
    filed = rw put filed;
  }

  module _ (back : List (ℕ × Placed)) (gone : back ≡ remove_entry (is_at (nat_cmp p.id)) after) where
    undone : values_of back ≡ values_of es
    undone = ap values_of gone ∙ removed_is p.id after (rw is (under_inserted p es stored.under)) ∙ ap (without p.id) put ∙ without-with p (values_of es) absent

    as_before : AreFiles (values_of es) new → IsStored back new
    as_before filed = record {
      under = rw gone (under_removed p.id after (rw is (under_inserted p es stored.under)));
      rising = rw undone stored.rising;
      apart = rw undone stored.apart;
      filed = rw undone filed;
    }

pub invariant_of-self-in-Ok : goal.invariant_of-self-in-Ok
invariant_of-self-in-Ok c =
    let es = c.self.inside.items.entries in
    let p = c.args.item.now in
    let absent : item_of p.id (values_of es) ≡ None = rw c.self.view_is c.requires.absent in
    placed es c.insert.new.self.entries c.self.inside.files c.insert-2.new.self p c.self.invariant absent c.in_ok-insert.ensures.entries (rw c.self.view_is c.requires.slot) (c.in-Ok.ensures.ok (values_of es) c.self.invariant.filed absent)

pub invariant_of-self-in-Err : goal.invariant_of-self-in-Err
invariant_of-self-in-Err c =
    let es = c.self.inside.items.entries in
    let p = c.args.item.now in
    let absent : item_of p.id (values_of es) ≡ None = rw c.self.view_is c.requires.absent in
    as_before es c.insert.new.self.entries c.self.inside.files c.insert-2.new.self p c.self.invariant absent c.in_ok-insert.ensures.entries c.remove.new.self.entries c.remove.ensures.entries (c.in-Err.ensures.err (values_of es) c.self.invariant.filed absent)

pub returns-in-Ok-clause-ok : goal.returns-in-Ok-clause-ok
returns-in-Ok-clause-ok c =
    let es = c.self.inside.items.entries in
    let p = c.args.item.now in
    let absent : item_of p.id (values_of es) ≡ None = rw c.self.view_is c.requires.absent in
    put es c.insert.new.self.entries c.self.inside.files c.self.inside.files p c.self.invariant absent c.in_ok-insert.ensures.entries ∙ ap (with_item p) c.self.view_is

pub returns-in-Ok-clause-rising : goal.returns-in-Ok-clause-rising
returns-in-Ok-clause-rising c = let stored : IsStored c.insert.new.self.entries c.insert-2.new.self = invariant_of-self-in-Ok c in stored.rising

pub returns-in-Ok-clause-apart : goal.returns-in-Ok-clause-apart
returns-in-Ok-clause-apart c = let stored : IsStored c.insert.new.self.entries c.insert-2.new.self = invariant_of-self-in-Ok c in stored.apart

pub returns-in-Err-clause-err : goal.returns-in-Err-clause-err
returns-in-Err-clause-err c =
    let es = c.self.inside.items.entries in
    let p = c.args.item.now in
    let absent : item_of p.id (values_of es) ≡ None = rw c.self.view_is c.requires.absent in
    undone es c.insert.new.self.entries c.self.inside.files c.self.inside.files p c.self.invariant absent c.in_ok-insert.ensures.entries c.remove.new.self.entries c.remove.ensures.entries ∙ c.self.view_is

pub returns-in-Err-clause-rising : goal.returns-in-Err-clause-rising
returns-in-Err-clause-rising c = let stored : IsStored c.remove.new.self.entries c.insert-2.new.self = invariant_of-self-in-Err c in stored.rising

pub returns-in-Err-clause-apart : goal.returns-in-Err-clause-apart
returns-in-Err-clause-apart c = let stored : IsStored c.remove.new.self.entries c.insert-2.new.self = invariant_of-self-in-Err c in stored.apart
