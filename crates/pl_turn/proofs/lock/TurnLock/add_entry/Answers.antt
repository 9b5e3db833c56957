use Rattle.std.proofs.Common.{arith}
use Rattle.atomic_table.specs.Table.{step}
use mathlib.Core.Option.{none}
use Rattle.pl_turn.proofs.Turning.{adds}
use Rattle.pl_turn.proofs.lock.TurnLock.add_entry.Goals as goal

pub fetch_add-requires : goal.fetch_add-requires
fetch_add-requires g c =
    let size = c.args.self.now.sized in
    let more = c.requires.longer in (
      c.requires.own,
      omega arith,
      adds g.V.Logged.entries _ _ _ (step c.args.self.now.table.shared.table_id.slots 0 1 0 none) c.requires.turn.1 more.0 more.1 c.requires.turn.0 more.2 more.3 more.4,
    )
