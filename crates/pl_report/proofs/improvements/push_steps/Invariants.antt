use Rattle.std.proofs.Common.{◌≡◌, ◌≤◌, ◌-◌, false}
use Rattle.pl_report.specs.Improvements.{AreMade}
use Rattle.pl_report.proofs.improvements.push_steps.Given as goal

-- the steps so far
abbrev pub invariant-steps : goal.invariant-steps
invariant-steps l = record {
  made : AreMade l.initial.scored l.initial.text.items l.count l.scored l.text.items;
  within : l.count ≤ l.most;
  unspoiled : l.scored.board.spoiled ≡ false;
}

abbrev pub decreases-steps : goal.decreases-steps
decreases-steps l = l.most - l.count
