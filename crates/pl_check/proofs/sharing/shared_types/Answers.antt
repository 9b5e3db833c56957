use Rattle.std.proofs.Crossing.{crosses}
use denote.Param.Send.{sendable}
use Rattle.pl_model.proofs.Crossing.{model_parts}
use Rattle.pl_check.proofs.sharing.shared_types.Goals as goal

pub may_be_shared-requires-send-T : goal.may_be_shared-requires-send-T
may_be_shared-requires-send-T c κs = search (model_parts, sendable, crosses) depth 40 fits 6000

pub may_be_shared-requires-sync-T : goal.may_be_shared-requires-sync-T
may_be_shared-requires-sync-T c κs = search (model_parts, sendable, crosses) depth 40 fits 6000
