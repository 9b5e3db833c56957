-- few are read, and each fits
use Rattle.std.proofs.Common.{◌≤◌, length}
use Rattle.std.specs.Prelude.{All}
use Rattle.pl_prefs.specs.Prefers.{IsPreferOf}
use Rattle.trials_planner.proofs.prefs.plans.all_preferred.Given as goal

abbrev pub invariant-loop-line : goal.invariant-loop-line
invariant-loop-line g l = record {
  few : length l.all.items ≤ 64;
  fits : All (IsPreferOf l.board.state.model) l.all.items;
}
