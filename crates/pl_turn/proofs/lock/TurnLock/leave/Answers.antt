use Rattle.std.proofs.Common.{arith, ◌∙◌}
use Rattle.atomic_table.specs.Table.{step}
use mathlib.Core.Option.{none}
use Rattle.pl_turn.proofs.Looking.{measures}
use Rattle.pl_turn.proofs.Belongs.{ended_longer}
use Rattle.pl_turn.proofs.lock.TurnLock.leave.Goals as goal

pub load-before-requires : goal.load-before-requires
load-before-requires g c =
    let size = c.args.self.now.sized in
    (c.requires.own.of_lock, omega arith, measures g.V.Logged.entries _ _ _ (step c.args.self.now.table.shared.table_id.slots 0 0 0 none))

pub returns-then-before-after-clause-own : goal.returns-then-before-after-clause-own
returns-then-before-after-clause-own g c =
    let added = c.add_entry.ensures.added in
    ended_longer c.args.self.now c.args.pass.now _ added.0 _ _ _ _ c.load-before.ensures.2.0 c.put_in.ensures.full added.1 c.end_turn-called.ensures.ended
    (c.end_turn-called.ensures.own ∙ (c.add_entry.ensures.own ∙ (c.put_in.ensures.own ∙ c.load-before.ensures.0))) c.requires.own
