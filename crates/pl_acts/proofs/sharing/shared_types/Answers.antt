use denote.Param.Send.{sendable}
use Rattle.std.proofs.Crossing.{crosses}
use Rattle.pl_acts.proofs.Crossing.{held_send, held_sync, noted_send, noted_sync, sight_send, sight_sync}
use Rattle.pl_acts.proofs.sharing.shared_types.Goals as goal

pub may_be_shared-requires-4-send-T : goal.may_be_shared-requires-4-send-T
may_be_shared-requires-4-send-T c κs = search (held_send, sendable, crosses) depth 40 fits 6000

pub may_be_shared-requires-4-sync-T : goal.may_be_shared-requires-4-sync-T
may_be_shared-requires-4-sync-T c κs = search (held_sync, sendable, crosses) depth 40 fits 6000

pub may_be_shared-requires-6-send-T : goal.may_be_shared-requires-6-send-T
may_be_shared-requires-6-send-T c κs = search (noted_send, sendable, crosses) depth 40 fits 6000

pub may_be_shared-requires-6-sync-T : goal.may_be_shared-requires-6-sync-T
may_be_shared-requires-6-sync-T c κs = search (noted_sync, sendable, crosses) depth 40 fits 6000

pub may_be_shared-requires-9-send-T : goal.may_be_shared-requires-9-send-T
may_be_shared-requires-9-send-T c κs = search (sight_send, sendable, crosses) depth 40 fits 6000

pub may_be_shared-requires-9-sync-T : goal.may_be_shared-requires-9-sync-T
may_be_shared-requires-9-sync-T c κs = search (sight_sync, sendable, crosses) depth 40 fits 6000

pub may_be_shared-requires-10-send-T : goal.may_be_shared-requires-10-send-T
may_be_shared-requires-10-send-T c κs = search (sight_send, sendable, crosses) depth 40 fits 6000

pub may_be_shared-requires-10-sync-T : goal.may_be_shared-requires-10-sync-T
may_be_shared-requires-10-sync-T c κs = search (sight_sync, sendable, crosses) depth 40 fits 6000
