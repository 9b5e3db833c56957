use Rattle.std.proofs.Common.{sym}
use Rattle.pl_links.specs.declared.keys.Key.{Key}
use Rattle.pl_links.specs.Keys.{is_other}
use Rattle.pl_links.proofs.Keyed.{none_within}
use Rattle.pl_links.proofs.index.Index.has_other.Goals as goal

pub returns-in-None-clause-other : goal.returns-in-None-clause-other
returns-in-None-clause-other c = rw c.in-None.is (sym (none_within c.args.group (λ (k : Key). is_other c.args.own c.args.gone k.id) c.args.self.now))
