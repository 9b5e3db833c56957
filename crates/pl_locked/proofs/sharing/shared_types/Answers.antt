use denote.Param.Send.{sendable}
use Rattle.std.proofs.Crossing.{crosses}
use Rattle.pl_locked.proofs.Crossing.{plan_send, plan_sync, pass_send}
use Rattle.pl_locked.proofs.sharing.shared_types.Goals as goal

pub may_be_shared-requires-send-T : goal.may_be_shared-requires-send-T
may_be_shared-requires-send-T c κs = search (plan_send, sendable, crosses) depth 40 fits 6000

pub may_be_shared-requires-sync-T : goal.may_be_shared-requires-sync-T
may_be_shared-requires-sync-T c κs = search (plan_sync, sendable, crosses) depth 40 fits 6000

pub may_be_moved-requires-send-T : goal.may_be_moved-requires-send-T
may_be_moved-requires-send-T c κs = search (pass_send, sendable, crosses) depth 40 fits 6000
