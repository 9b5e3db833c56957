use Rattle.pl_conflict.proofs.Sorting.{exchange_for_one}
use Rattle.pl_conflict.proofs.set.ConflictSet.exchange_for.Goals as goal

pub returns-clause-ok : goal.returns-clause-ok
returns-clause-ok c =
    exchange_for_one c.args.self.now c.args.went.now c.args.fresh c.insert.new.self c.remove_all.new.self c.in_ok-insert.ensures.ok c.insert.ensures.sorted c.requires c.remove_all.ensures.after
