use denote.Param.Send.{sendable}
use Rattle.std.proofs.Crossing.{crosses}
use Rattle.pl_many.proofs.Crossing.{crew_send, crew_sync, member_send}
use Rattle.pl_many.proofs.sharing.shared_types.Goals as goal

pub may_be_shared-requires-send-T : goal.may_be_shared-requires-send-T
may_be_shared-requires-send-T c κs = search (crew_send, sendable, crosses) depth 40 fits 6000

pub may_be_shared-requires-sync-T : goal.may_be_shared-requires-sync-T
may_be_shared-requires-sync-T c κs = search (crew_sync, sendable, crosses) depth 40 fits 6000

pub may_be_moved-requires-send-T : goal.may_be_moved-requires-send-T
may_be_moved-requires-send-T c κs = search (member_send, sendable, crosses) depth 40 fits 6000
