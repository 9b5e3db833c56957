use Rattle.std.proofs.Common.{ap}
use Rattle.pl_turn.specs.Rule.{own_lists}
use Rattle.pl_turn.proofs.Belongs.{all_on}
use Rattle.pl_turn.proofs.Owning.{Closes, closes_some, closes_as}
use Rattle.pl_turn.proofs.lock.TurnLock.close.Goals as goal

pub unreachable-requires : goal.unreachable-requires
unreachable-requires g c =
    closes_some g.V.Logged.entries _ c.args.pass.seat.me.0 _ _ _ c.take-slot.result (ap (λ s. s.me.0) c.into_seat.ensures) c.close_with-closed.ensures.values.2 c.take-slot.ensures.value
    c.requires.first c.requires.all_joined c.requires.outside c.requires.own.unspent c.in-None.is

known : (g : _) (c : goal.In-Some g) → Closes g.V.Logged.entries c.args.pass.seat.me.0 c.in-Some.value
known g c =
    closes_as g.V.Logged.entries _ c.args.pass.seat.me.0 _ _ _ c.take-slot.result (ap (λ s. s.me.0) c.into_seat.ensures) c.close_with-closed.ensures.values.2 c.take-slot.ensures.value
    c.requires.first c.requires.all_joined c.requires.outside c.requires.own.unspent _ c.in-Some.is

pub returns-clause-history : goal.returns-clause-history
returns-clause-history g c = (known g c).history

pub returns-clause-counted : goal.returns-clause-counted
returns-clause-counted g c = (known g c).counted

pub returns-clause-stands : goal.returns-clause-stands
returns-clause-stands g c = all_on _ _ (own_lists c.args.pass.seat.me.0) (known g c).history c.requires.own.stands

pub returns-clause-owners : goal.returns-clause-owners
returns-clause-owners g c = (known g c).owners
