-- A crew may be sent to another thread and be read by several. A member may be sent to one.
use denote.Param.Send.{IsSend, IsSync, struct_send, struct_sync, recorded_send, recorded_sync, sendable}
use denote.Struct.Declared.{shape}
use denote.Struct.Struct.{Struct}
use Rattle.std.proofs.Crossing.{crosses}
use Rattle.pl_turn.proofs.pass.Pass.TheSendSync as pass
use Rattle.pl_marks.proofs.author.Author.TheSendSync as author
use Rattle.pl_acts.proofs.role.Role.TheSendSync as role
use Rattle.pl_acts.proofs.Crossing.{held_whole}
use Rattle.pl_acts.specs.contracts.held.Held
use Rattle.pl_acts.specs.contracts.noted.Noted
use Rattle.pl_locked.proofs.Crossing.{plan_send_fields, plan_sync_fields}
use Rattle.pl_many.specs.contracts.crew.Crew
use Rattle.pl_many.specs.contracts.member.Member

pub crew_send : IsSend Crew.the_row
crew_send = let T = Crew.the_type in recorded_send (Struct (shape T)) T.D T.to T.to_one (struct_send (shape T) (plan_send_fields, tt))

pub crew_sync : IsSync Crew.the_row
crew_sync = let T = Crew.the_type in recorded_sync (Struct (shape T)) T.D T.to T.to_one (struct_sync (shape T) (plan_sync_fields, tt))

pub member_send : IsSend Member.the_row
member_send =
    let T = Member.the_type in
    recorded_send (Struct (shape T)) T.D T.to T.to_one
    (struct_send (shape T) (author.the_field_send, (pass.the_field_send Held.the_row Noted.the_row held_whole, (search (role.the_send, sendable, crosses) depth 40 fits 6000, tt))))
