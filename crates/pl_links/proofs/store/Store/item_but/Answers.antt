use Rattle.std.proofs.Common.{◌≡◌, ◌∙◌, sym, subst, refl, rules}
use Rattle.std.proofs.lemmas.Bool.{eq-eqb, ne_eqb}
use Rattle.pl_links.specs.Items.{AreRising}
use Rattle.pl_links.proofs.Filed.{item-without}
use Rattle.pl_links.proofs.store.Store.item_but.Goals as goal

pub returns-then-id-gone : goal.returns-then-id-gone
returns-then-id-gone c =
    let rising : AreRising c.args.self.now = subst AreRising c.self.view_is c.self.invariant.rising in
    sym (item-without c.args.gone c.args.id 0 c.args.self.now rising ∙ rw (eq-eqb c.args.gone c.args.id (sym c.if-id-gone.true)) refl)

pub returns-else-id-gone : goal.returns-else-id-gone
returns-else-id-gone c =
    c.item.ensures.item ∙ sym (item-without c.args.gone c.args.id 0 c.args.self.now c.item.ensures.rising ∙ rw (ne_eqb c.args.gone c.args.id (λ e. c.if-id-gone.false (sym e))) refl)
