use Rattle.std.proofs.Common.{sym}
use Rattle.pl_links.specs.Filed.{left}
use Rattle.pl_links.proofs.Left.{no_partners}
use Rattle.pl_links.proofs.store.Store.has_partner.Goals as goal

pub returns-in-None : goal.returns-in-None
returns-in-None c = sym (no_partners c.args.link.now c.args.own.now (left c.args.gone c.args.self.now) (sym c.in-None.ensures))
