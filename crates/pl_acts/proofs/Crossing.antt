-- What lies under the lock and what its history holds may be sent to another thread and be read by several, part by part.
use denote.Param.Send.{IsSend, IsSync, sendable}
use Rattle.std.proofs.Crossing.{crosses}
use Rattle.pl_model.proofs.Crossing.{model_parts}
use Rattle.pl_model.specs.contracts.whole.Model
use Rattle.pl_semantics.proofs.Crossing.{state_parts}
use Rattle.pl_board.proofs.Crossing.{board_send, board_sync}
use Rattle.pl_machine.proofs.Crossing.{machine_parts}
use Rattle.pl_machine.specs.contracts.machine.Machine
use Rattle.pl_acts.specs.contracts.replicated.Replicated
use Rattle.pl_acts.specs.contracts.held.Held
use Rattle.pl_acts.specs.contracts.sight.Sight
use Rattle.pl_acts.specs.contracts.noted.Noted

machine_send : IsSend Machine.the_field.row
machine_send = search (machine_parts, board_send, state_parts, sendable, crosses) depth 40 fits 6000

machine_sync : IsSync Machine.the_field.row
machine_sync = search (machine_parts, board_sync, state_parts, sendable, crosses) depth 40 fits 6000

replicated_send : IsSend Replicated.the_field.row
replicated_send = search (machine_send, sendable, crosses) depth 40 fits 6000

replicated_sync : IsSync Replicated.the_field.row
replicated_sync = search (machine_sync, sendable, crosses) depth 40 fits 6000

pub held_send : IsSend Held.the_field.row
held_send = search (replicated_send, sendable, crosses) depth 40 fits 6000

pub held_sync : IsSync Held.the_field.row
held_sync = search (replicated_sync, sendable, crosses) depth 40 fits 6000

pub sight_send : IsSend Sight.the_field.row
sight_send = search (machine_send, sendable, crosses) depth 40 fits 6000

pub sight_sync : IsSync Sight.the_field.row
sight_sync = search (machine_sync, sendable, crosses) depth 40 fits 6000

pub held_whole : IsSend Held.the_row
held_whole = search (held_send, sendable, crosses) depth 40 fits 6000

model_send : IsSend Model.the_field.row
model_send = search (model_parts, sendable, crosses) depth 40 fits 6000

model_sync : IsSync Model.the_field.row
model_sync = search (model_parts, sendable, crosses) depth 40 fits 6000

pub noted_send : IsSend Noted.the_field.row
noted_send = search (machine_parts, model_send, sendable, crosses) depth 40 fits 6000

pub noted_sync : IsSync Noted.the_field.row
noted_sync = search (machine_parts, model_sync, sendable, crosses) depth 40 fits 6000
