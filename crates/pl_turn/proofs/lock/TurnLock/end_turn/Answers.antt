use Rattle.std.proofs.Common.{arith}
use Rattle.atomic_table.specs.Table.{step}
use mathlib.Core.Option.{none}
use Rattle.pl_turn.proofs.Turning.{ends}
use Rattle.pl_turn.proofs.lock.TurnLock.end_turn.Goals as goal

pub fetch_add-requires : goal.fetch_add-requires
fetch_add-requires g c =
    let size = c.args.self.now.sized in
    let full = c.requires.full in (
      c.requires.own,
      omega arith,
      ends g.V.Logged.entries _ _ _ (step c.args.self.now.table.shared.table_id.slots 2 1 0 none) c.requires.turn.1 full.0 size.1 c.requires.turn.0 full.1 full.2,
    )
