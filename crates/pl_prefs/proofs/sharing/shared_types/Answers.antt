use denote.Param.Send.{sendable}
use Rattle.std.proofs.Crossing.{crosses}
use Rattle.pl_board.proofs.Crossing.{watched_parts}
use Rattle.pl_prefs.proofs.sharing.shared_types.Goals as goal

pub may_be_shared-requires-3-send-T : goal.may_be_shared-requires-3-send-T
may_be_shared-requires-3-send-T c κs = search (watched_parts, sendable, crosses) depth 40 fits 6000

pub may_be_shared-requires-3-sync-T : goal.may_be_shared-requires-3-sync-T
may_be_shared-requires-3-sync-T c κs = search (watched_parts, sendable, crosses) depth 40 fits 6000
