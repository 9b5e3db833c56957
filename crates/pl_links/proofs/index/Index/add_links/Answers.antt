use Rattle.std.proofs.Common.{◌≡◌, sym, append-nil}
use Rattle.pl_links.specs.Keys.{link_at}
use Rattle.pl_links.proofs.Owners.{filter_none}
use Rattle.pl_links.proofs.index.Index.add_links.Goals as goal

pub returns-in-None-clause-ok : goal.returns-in-None-clause-ok
returns-in-None-clause-ok c = rw (c.in-None.is, filter_none c.args.group c.args.self.now) (sym (append-nil c.args.near.now.items))
