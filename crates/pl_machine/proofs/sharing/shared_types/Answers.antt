use denote.Param.Send.{sendable}
use Rattle.std.proofs.Crossing.{crosses}
use Rattle.pl_semantics.proofs.Crossing.{state_parts}
use Rattle.pl_board.proofs.Crossing.{board_send, board_sync}
use Rattle.pl_machine.proofs.Crossing.{machine_parts}
use Rattle.pl_machine.proofs.sharing.shared_types.Goals as goal

pub may_be_shared-requires-2-send-T : goal.may_be_shared-requires-2-send-T
may_be_shared-requires-2-send-T c κs = search (machine_parts, board_send, board_sync, state_parts, sendable, crosses) depth 40 fits 6000

pub may_be_shared-requires-2-sync-T : goal.may_be_shared-requires-2-sync-T
may_be_shared-requires-2-sync-T c κs = search (machine_parts, board_send, board_sync, state_parts, sendable, crosses) depth 40 fits 6000
