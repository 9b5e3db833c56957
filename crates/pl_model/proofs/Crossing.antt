-- A model may be sent to another thread and be read by several, part by part.
use Rattle.std.proofs.Crossing.{crosses}
use denote.Param.Send.{IsSend, IsSync, sendable}
use Rattle.pl_model.proofs.expressions.Expr.TheLaws.TheKnot as expression
use Rattle.pl_model.specs.contracts.parameters.Param
use Rattle.pl_model.specs.contracts.reservations.Reservation
use Rattle.pl_model.specs.contracts.links.Link
use Rattle.pl_model.specs.contracts.alternatives.Alternative
use Rattle.pl_model.specs.contracts.timelines.Timeline
use Rattle.pl_model.specs.contracts.kinds.Kind

pub timeline_send : IsSend Timeline.the_field.row
timeline_send = search (sendable, crosses) depth 40

pub timeline_sync : IsSync Timeline.the_field.row
timeline_sync = search (sendable, crosses) depth 40

pub param_send : IsSend Param.the_field.row
param_send = search (expression.both_send-Expr, sendable, crosses) depth 40

pub param_sync : IsSync Param.the_field.row
param_sync = search (expression.both_sync-Expr, sendable, crosses) depth 40

pub reservation_send : IsSend Reservation.the_field.row
reservation_send = search (expression.both_send-Expr, sendable, crosses) depth 40

pub reservation_sync : IsSync Reservation.the_field.row
reservation_sync = search (expression.both_sync-Expr, sendable, crosses) depth 40

pub link_send : IsSend Link.the_field.row
link_send = search (sendable, crosses) depth 40

pub link_sync : IsSync Link.the_field.row
link_sync = search (sendable, crosses) depth 40

pub alternative_send : IsSend Alternative.the_field.row
alternative_send = search (expression.both_send-Expr, sendable, crosses) depth 40

pub alternative_sync : IsSync Alternative.the_field.row
alternative_sync = search (expression.both_sync-Expr, sendable, crosses) depth 40

pub ruleset kind_parts = (
  expression.both_send-Expr,
  expression.both_sync-Expr,
  param_send,
  param_sync,
  reservation_send,
  reservation_sync,
  link_send,
  link_sync,
  alternative_send,
  alternative_sync,
)

pub kind_send : IsSend Kind.the_field.row
kind_send = search (kind_parts, sendable, crosses) depth 40 fits 6000

pub kind_sync : IsSync Kind.the_field.row
kind_sync = search (kind_parts, sendable, crosses) depth 40 fits 6000

pub ruleset model_parts = (timeline_send, timeline_sync, kind_send, kind_sync)
