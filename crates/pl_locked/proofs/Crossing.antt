-- A plan may be sent to another thread and be read by several. A pass may be sent to one.
use denote.Param.Send.{IsSend, IsSync, struct_send, struct_sync, recorded_send, recorded_sync}
use denote.Struct.Declared.{shape}
use denote.Struct.Struct.{Struct}
use Rattle.pl_turn.proofs.lock.TurnLock.TheSendSync as lock
use Rattle.pl_turn.proofs.pass.Pass.TheSendSync as pass
use Rattle.pl_turn.specs.contracts.pass.Pass
use Rattle.pl_acts.proofs.bells.Bells.TheSendSync as bells
use Rattle.pl_acts.proofs.Crossing.{held_whole}
use Rattle.pl_acts.specs.contracts.held.Held
use Rattle.pl_acts.specs.contracts.noted.Noted
use Rattle.pl_locked.specs.contracts.plan.SharedPlan

pub plan_send_fields : IsSend SharedPlan.the_field.row
plan_send_fields = struct_send (shape SharedPlan.the_type) (lock.the_field_send Held.the_row Noted.the_row _ held_whole, (bells.the_field_send, tt))

pub plan_sync_fields : IsSync SharedPlan.the_field.row
plan_sync_fields = struct_sync (shape SharedPlan.the_type) (lock.the_field_sync Held.the_row Noted.the_row _ held_whole, (bells.the_field_sync, tt))

pub plan_send : IsSend SharedPlan.the_row
plan_send = let T = SharedPlan.the_type in recorded_send (Struct (shape T)) T.D T.to T.to_one plan_send_fields

pub plan_sync : IsSync SharedPlan.the_row
plan_sync = let T = SharedPlan.the_type in recorded_sync (Struct (shape T)) T.D T.to T.to_one plan_sync_fields

pub pass_send : IsSend (Pass.the_row Held.the_row Noted.the_row)
pass_send = pass.the_send Held.the_row Noted.the_row held_whole
