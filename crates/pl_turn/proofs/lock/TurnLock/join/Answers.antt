use Rattle.std.proofs.Common.{arith, ap, ◌∙◌}
use Rattle.atomic_table.specs.Table.{step}
use mathlib.Core.Option.{none}
use Rattle.pl_turn.specs.Passes.{hand_of}
use Rattle.pl_turn.proofs.Crewing.{joins}
use Rattle.pl_turn.proofs.Looking.{learns}
use Rattle.pl_turn.proofs.Belongs.{joined}
use Rattle.pl_turn.proofs.lock.TurnLock.join.Goals as goal

pub join_seat-requires : goal.join_seat-requires
join_seat-requires g c =
    let size = c.args.self.now.sized in
    let seat = c.into_seat.ensures in
    let own = c.requires.other in
    let out = c.requires.outside.1 in (
      c.requires.own.of_lock,
      ap (λ s. s.table_id) seat ∙ own.of_lock,
      ap (λ s. s.me.1) seat ∙ (own.hand ∙ ap hand_of out),
      omega arith,
      joins g.V.Logged.entries _ _ c.requires.first c.requires.outside.0 c.requires.own.unspent _ _ (ap (λ s. s.me.0.ticket) seat ∙ own.outside out) (ap (λ s. s.me.0.served) seat ∙ out) (ap (λ s. s.me.0.spent) seat ∙ own.unspent),
    )

pub load-requires : goal.load-requires
load-requires g c =
    let size = c.args.self.now.sized in
    let took = c.join_seat.ensures in (
      took.0 ∙ c.requires.own.of_lock,
      omega arith,
      learns g.V.Logged.entries _ _ _ (step c.args.self.now.table.shared.table_id.slots 0 0 0 none) (ap (λ m. m.0.served) took.2 ∙ c.requires.outside.0) (ap (λ m. m.0.spent) took.2 ∙ c.requires.own.unspent),
    )

pub returns-clause-own : goal.returns-clause-own
returns-clause-own g c =
    let took = c.join_seat.ensures in
    let learned = c.load.ensures in
    joined c.args.self.now c.args.pass.now _ c.args.other _ _ (ap (λ s. s.me.0) c.into_seat.ensures) took.2 learned.2.0 (learned.2.1, learned.2.2) (learned.0 ∙ took.0) c.requires.own c.requires.other
