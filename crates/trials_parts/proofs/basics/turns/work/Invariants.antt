use Rattle.std.proofs.Common.{◌≡◌, false}
use Rattle.pl_turn.specs.Passes.{IsPassOf, in_turn, crew_of}
use Rattle.trials_parts.proofs.basics.turns.work.Given as goal

abbrev pub invariant-loop-number : goal.invariant-loop-number
invariant-loop-number g l = IsPassOf l.lock l.pass × (in_turn l.pass ≡ false) × (crew_of l.pass ≡ crew_of l.fn.pass)
