-- A tree may be sent to another thread and be read by several, part by part.
use Rattle.std.proofs.Crossing.{crosses}
use denote.Param.Send.{IsSend, IsSync, sendable}
use Rattle.pl_syntax.proofs.expressions.AstExpr.TheLaws.TheKnot as expression
use Rattle.pl_syntax.specs.contracts.parameters.AstParam
use Rattle.pl_syntax.specs.contracts.links.AstLink
use Rattle.pl_syntax.specs.contracts.reservations.AstReservation
use Rattle.pl_syntax.specs.contracts.alternatives.AstAlternative
use Rattle.pl_syntax.specs.contracts.timelines.AstTimeline
use Rattle.pl_syntax.specs.contracts.kinds.AstKind
use Rattle.pl_syntax.specs.contracts.whole.Item

pub param_send : IsSend AstParam.the_field.row
param_send = search (expression.both_send-AstExpr, sendable, crosses) depth 40

pub param_sync : IsSync AstParam.the_field.row
param_sync = search (expression.both_sync-AstExpr, sendable, crosses) depth 40

pub reservation_send : IsSend AstReservation.the_field.row
reservation_send = search (expression.both_send-AstExpr, sendable, crosses) depth 40

pub reservation_sync : IsSync AstReservation.the_field.row
reservation_sync = search (expression.both_sync-AstExpr, sendable, crosses) depth 40

pub link_send : IsSend AstLink.the_field.row
link_send = search (sendable, crosses) depth 40

pub link_sync : IsSync AstLink.the_field.row
link_sync = search (sendable, crosses) depth 40

pub alternative_send : IsSend AstAlternative.the_field.row
alternative_send = search (expression.both_send-AstExpr, sendable, crosses) depth 40

pub alternative_sync : IsSync AstAlternative.the_field.row
alternative_sync = search (expression.both_sync-AstExpr, sendable, crosses) depth 40

pub timeline_send : IsSend AstTimeline.the_field.row
timeline_send = search (sendable, crosses) depth 40

pub timeline_sync : IsSync AstTimeline.the_field.row
timeline_sync = search (sendable, crosses) depth 40

pub ruleset kind_parts = (
  expression.both_send-AstExpr,
  expression.both_sync-AstExpr,
  param_send,
  param_sync,
  reservation_send,
  reservation_sync,
  link_send,
  link_sync,
  alternative_send,
  alternative_sync,
)

pub kind_send : IsSend AstKind.the_field.row
kind_send = search (kind_parts, sendable, crosses) depth 40 fits 6000

pub kind_sync : IsSync AstKind.the_field.row
kind_sync = search (kind_parts, sendable, crosses) depth 40 fits 6000

pub ruleset item_parts = (timeline_send, timeline_sync, kind_send, kind_sync)

pub item_send : IsSend Item.the_field.row
item_send = search (item_parts, sendable, crosses) depth 40

pub item_sync : IsSync Item.the_field.row
item_sync = search (item_parts, sendable, crosses) depth 40

pub ruleset tree_parts = (item_send, item_sync)
