use Rattle.std.proofs.Common.{◌≡◌, ◌∙◌, ap, rules}
use Rattle.std.specs.Map.{lookup, values_of}
use Rattle.std.specs.Ordering.{nat_cmp}
use Rattle.std.specs.BTreeMap.{is_at}
use Rattle.pl_links.specs.Items.{item_of}
use Rattle.pl_links.proofs.Mapped.{lookup_is}
use Rattle.pl_links.proofs.store.Store.item.Goals as goal

pub returns-clause-item : goal.returns-clause-item
returns-clause-item c =
    let es = c.self.inside.items.entries in
    let found : c.copied.result ≡ lookup (is_at (nat_cmp c.args.id)) es = search rules in
    found ∙ lookup_is c.args.id es c.self.invariant.under ∙ ap (item_of c.args.id) c.self.view_is
