use Rattle.std.proofs.Common.{arith, sym, ap, ◌∙◌}
use Rattle.atomic_table.specs.Table.{step}
use mathlib.Core.Option.{none}
use Rattle.pl_turn.proofs.Turning.{draws, serves}
use Rattle.pl_turn.proofs.Belongs.{entered}
use Rattle.pl_turn.proofs.lock.TurnLock.enter.Goals as goal

pub fetch_add-ticket-requires : goal.fetch_add-ticket-requires
fetch_add-ticket-requires g c =
    let size = c.args.self.now.sized in
    (c.requires.own.of_lock, omega arith, draws g.V.Logged.entries _ _ _ (step c.args.self.now.table.shared.table_id.slots 1 1 0 none) c.requires.own.unspent (c.requires.own.outside c.requires.outside) c.requires.outside)

pub load-called-requires : goal.load-called-requires
load-called-requires g c =
    let size = c.args.self.now.sized in
    let at = c.loop.invariant in (
      at.3 ∙ c.requires.own.of_lock,
      omega arith,
      serves g.V.Logged.entries _ _ _ (step c.args.self.now.table.shared.table_id.slots 2 0 0 none) (ap (λ m. m.0.spent) at.2 ∙ c.requires.own.unspent) at.0 (ap (λ m. m.0.ticket) at.2) (ap (λ m. m.0.served) at.2 ∙ c.requires.outside),
    )

pub returns-then-called-ticket-clause-own : goal.returns-then-called-ticket-clause-own
returns-then-called-ticket-clause-own g c =
    let at = c.loop.invariant in
    let got = (c.load-called.ensures.2 at.0 (ap (λ m. m.0.ticket) at.2)).0 (at.1 ∙ sym c.if-called-ticket.true) in
    entered c.args.self.now c.args.pass.now _ at.0 got.0 _ _ _ at.2 got.1 got.2 c.take_out.ensures.empty (c.take_out.ensures.own ∙ (c.load-called.ensures.0 ∙ at.3)) c.requires.own
