-- The board of a machine stands for the plan after the machine's log.
use Rattle.std.proofs.Common.{◌≡◌, ◌∙◌, ap}
use Rattle.pl_board.specs.Boards.{Standing}
use Rattle.pl_machine.specs.World.{World}
use Rattle.pl_machine.specs.Legal.{IsHistory}
use Rattle.pl_machine.specs.Sound.{State}
use Rattle.pl_laws.specs.Laws.{state_of}

pub board_state : (m : State) (b : Standing) → IsHistory m.model m.log m.world → b ≡ record { spoiled = m.spoiled; state = m.world.state } → b.state ≡ state_of m.model m.log
board_state m b history is = ap (λ (x : Standing). x.state) is ∙ ap (λ (w : World). w.state) history.world
