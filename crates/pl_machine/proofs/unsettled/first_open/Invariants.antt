-- those before this place are settled
use Rattle.std.proofs.Common.{◌≡◌, true}
use Rattle.std.specs.Prelude.{All, take}
use Rattle.pl_machine.specs.Calm.{is_settled}
use Rattle.pl_machine.proofs.unsettled.first_open.Given as goal

abbrev pub invariant-loop-activity : goal.invariant-loop-activity
invariant-loop-activity l = All (λ a. is_settled l.period.moment l.period.committed a ≡ true) (take l.activity-index l.activities)
