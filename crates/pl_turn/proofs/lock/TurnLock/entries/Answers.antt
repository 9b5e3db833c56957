use Rattle.std.proofs.Common.{arith}
use Rattle.atomic_table.specs.Table.{step}
use mathlib.Core.Option.{none}
use Rattle.pl_turn.proofs.Looking.{counts}
use Rattle.pl_turn.proofs.lock.TurnLock.entries.Goals as goal

pub load-requires : goal.load-requires
load-requires g c =
    let size = c.args.self.now.sized in
    (c.requires.own.of_lock, omega arith, counts g.V.Logged.entries _ _ _ (step c.args.self.now.table.shared.table_id.slots 0 0 0 none) c.requires.outside c.requires.own.unspent)
