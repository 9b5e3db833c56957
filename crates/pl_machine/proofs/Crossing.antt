-- A log and its entries may be sent to another thread and be read by several.
use denote.Param.Send.{IsSend, IsSync, sendable}
use Rattle.std.proofs.Crossing.{crosses}
use Rattle.pl_entry.specs.contracts.event.Event
use Rattle.pl_entry.specs.contracts.reply.Reply
use Rattle.pl_entry.specs.contracts.entry.Entry
use Rattle.pl_log.specs.contracts.log.Log

event_send : IsSend Event.the_field.row
event_send = search (sendable, crosses) depth 40 fits 6000

event_sync : IsSync Event.the_field.row
event_sync = search (sendable, crosses) depth 40 fits 6000

reply_send : IsSend Reply.the_field.row
reply_send = search (sendable, crosses) depth 80 fits 6000

reply_sync : IsSync Reply.the_field.row
reply_sync = search (sendable, crosses) depth 80 fits 6000

pub entry_send : IsSend Entry.the_field.row
entry_send = search (event_send, reply_send, sendable, crosses) depth 80 fits 6000

pub entry_sync : IsSync Entry.the_field.row
entry_sync = search (event_sync, reply_sync, sendable, crosses) depth 80 fits 6000

pub log_send : IsSend Log.the_field.row
log_send = search (entry_send, sendable, crosses) depth 80 fits 6000

pub log_sync : IsSync Log.the_field.row
log_sync = search (entry_sync, sendable, crosses) depth 80 fits 6000

pub ruleset machine_parts = (
  entry_send,
  entry_sync,
  log_send,
  log_sync,
)
