use Rattle.std.proofs.Common.{◌≡◌, ℕ, ◌%◌, ◌^◌, []}
use Rattle.pl_turn.specs.Steps.{drawing}
use Rattle.pl_turn.proofs.lock.TurnLock.enter.Given as goal

abbrev pub invariant-loop : goal.invariant-loop
invariant-loop g l =
    (t : ℕ) × (t % 2 ^ 64 ≡ l.ticket) × (l.pass.seat.me ≡ (drawing l.fn.pass.seat.me.0 t, [])) × (l.pass.seat.table_id ≡ l.fn.pass.seat.table_id)
