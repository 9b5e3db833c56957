use Rattle.std.proofs.Crossing.{crosses}
use denote.Param.Send.{sendable}
use Rattle.pl_syntax.proofs.Crossing.{kind_parts, item_parts, tree_parts}
use Rattle.pl_syntax.proofs.sharing.shared_types.Goals as goal

pub may_be_shared-requires-send-T : goal.may_be_shared-requires-send-T
may_be_shared-requires-send-T c κs = search (tree_parts, sendable, crosses) depth 40 fits 6000

pub may_be_shared-requires-sync-T : goal.may_be_shared-requires-sync-T
may_be_shared-requires-sync-T c κs = search (tree_parts, sendable, crosses) depth 40 fits 6000

pub may_be_shared-requires-2-send-T : goal.may_be_shared-requires-2-send-T
may_be_shared-requires-2-send-T c κs = search (item_parts, sendable, crosses) depth 40 fits 6000

pub may_be_shared-requires-2-sync-T : goal.may_be_shared-requires-2-sync-T
may_be_shared-requires-2-sync-T c κs = search (item_parts, sendable, crosses) depth 40 fits 6000

pub may_be_shared-requires-4-send-T : goal.may_be_shared-requires-4-send-T
may_be_shared-requires-4-send-T c κs = search (kind_parts, sendable, crosses) depth 40 fits 6000

pub may_be_shared-requires-4-sync-T : goal.may_be_shared-requires-4-sync-T
may_be_shared-requires-4-sync-T c κs = search (kind_parts, sendable, crosses) depth 40 fits 6000
