use Rattle.std.proofs.Common.{ap}
use Rattle.pl_board.specs.Boards.{Standing}
use Rattle.pl_machine.proofs.Runs.{sound_spoiled, spoils}
use Rattle.pl_machine.proofs.machine.Machine.spoil.Goals as goal

pub invariant_of-self : goal.invariant_of-self
invariant_of-self c = sound_spoiled _ _ c.self.invariant (ap (λ (b : Standing). b.spoiled) c.spoil.ensures)

pub returns-clause-spoils : goal.returns-clause-spoils
returns-clause-spoils c = spoils c.args.self.now _ _ c.self.view_is (ap (λ (b : Standing). b.spoiled) c.spoil.ensures)
