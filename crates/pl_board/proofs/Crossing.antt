-- A plan state that is watched may be sent to another thread and be read by several, part by part.
use Rattle.std.proofs.Crossing.{crosses}
use Rattle.std.proofs.MapsCrossing as maps
use Rattle.std.proofs.MapsCrossingOver as over
use denote.RattleType.{RattleType}
use denote.Param.Send.{IsSend, IsSync, part_keyless, sendable}
use Rattle.pl_points.specs.contracts.told.Told
use Rattle.pl_update.specs.contracts.timelines.lines.Lines
use Rattle.pl_state.specs.contracts.timeline.StateTimeline
use Rattle.pl_state.specs.contracts.sets.Sets
use Rattle.pl_state.specs.contracts.starts.Starts
use Rattle.pl_state.specs.contracts.musts.Musts
use Rattle.pl_board.specs.contracts.board.Board
use Rattle.pl_conflict.specs.contracts.set.ConflictSet
use Rattle.pl_links.specs.contracts.links.Links
use Rattle.pl_memo.specs.contracts.difference.Difference
use Rattle.pl_memo.specs.contracts.memory.Answer
use Rattle.pl_memo.specs.contracts.memory.Memory
use Rattle.pl_update.specs.contracts.evaluations.evaluations.Evaluations
use Rattle.pl_semantics.specs.contracts.plan_state.PlanState
use Rattle.pl_semantics.proofs.Crossing.{state_parts}

-- what is noted for proofs alone owns nothing
told_send : (A : RattleType) → IsSend (Told.the_row A)
told_send A = record { owned = λ d vs. ((λ vss. (tt, ((λ uss. (tt, tt)), tt))), tt); leaving = λ k f vs. tt }

told_sync : (A : RattleType) → IsSync (Told.the_row A)
told_sync A = record { shared = λ d b o κ q. part_keyless (Told.the_row A) (told_send A) q d b o }

pub set_send : IsSend ConflictSet.the_field.row
set_send = search (maps.crosses, over.crosses, sendable, crosses) depth 40 fits 6000

pub set_sync : IsSync ConflictSet.the_field.row
set_sync = search (maps.crosses, over.crosses, sendable, crosses) depth 40 fits 6000

-- a state timeline, by its lists in rows
sets_send : IsSend Sets.the_field.row
sets_send = search (sendable, crosses) depth 60 fits 12000

sets_sync : IsSync Sets.the_field.row
sets_sync = search (sendable, crosses) depth 60 fits 12000

starts_send : IsSend Starts.the_field.row
starts_send = search (sendable, crosses) depth 60 fits 12000

starts_sync : IsSync Starts.the_field.row
starts_sync = search (sendable, crosses) depth 60 fits 12000

musts_send : IsSend Musts.the_field.row
musts_send = search (starts_send, starts_sync, sendable, crosses) depth 60 fits 12000

musts_sync : IsSync Musts.the_field.row
musts_sync = search (starts_send, starts_sync, sendable, crosses) depth 60 fits 12000

state_line_send : IsSend StateTimeline.the_field.row
state_line_send = search (sets_send, sets_sync, musts_send, musts_sync, told_send, told_sync, sendable, crosses) depth 100 fits 20000

state_line_sync : IsSync StateTimeline.the_field.row
state_line_sync = search (sets_send, sets_sync, musts_send, musts_sync, told_send, told_sync, sendable, crosses) depth 100 fits 20000

pub lines_send : IsSend Lines.the_field.row
lines_send = search (state_line_send, state_line_sync, told_send, told_sync, sendable, crosses) depth 150 fits 40000

pub lines_sync : IsSync Lines.the_field.row
lines_sync = search (state_line_send, state_line_sync, told_send, told_sync, sendable, crosses) depth 150 fits 40000

pub evaluations_send : IsSend Evaluations.the_field.row
evaluations_send = search (maps.crosses, over.crosses, sendable, crosses) depth 40 fits 6000

pub evaluations_sync : IsSync Evaluations.the_field.row
evaluations_sync = search (maps.crosses, over.crosses, sendable, crosses) depth 40 fits 6000

pub links_send : IsSend Links.the_field.row
links_send = search (maps.crosses, over.crosses, sendable, crosses) depth 40 fits 6000

pub links_sync : IsSync Links.the_field.row
links_sync = search (maps.crosses, over.crosses, sendable, crosses) depth 40 fits 6000

-- what is remembered, by its differences and its answers
difference_send : IsSend Difference.the_field.row
difference_send = search (sendable, crosses) depth 40 fits 6000

difference_sync : IsSync Difference.the_field.row
difference_sync = search (sendable, crosses) depth 40 fits 6000

answer_send : IsSend Answer.the_field.row
answer_send = search (difference_send, difference_sync, sendable, crosses) depth 40 fits 6000

answer_sync : IsSync Answer.the_field.row
answer_sync = search (difference_send, difference_sync, sendable, crosses) depth 40 fits 6000

pub memory_send : IsSend Memory.the_field.row
memory_send = search (answer_send, answer_sync, sendable, crosses) depth 40 fits 6000

pub memory_sync : IsSync Memory.the_field.row
memory_sync = search (answer_send, answer_sync, sendable, crosses) depth 40 fits 6000

pub plan_state_send : IsSend PlanState.the_field.row
plan_state_send = search (state_parts, sendable, crosses) depth 40 fits 6000

pub plan_state_sync : IsSync PlanState.the_field.row
plan_state_sync = search (state_parts, sendable, crosses) depth 40 fits 6000

pub ruleset watched_parts = (
  set_send,
  set_sync,
  lines_send,
  lines_sync,
  evaluations_send,
  evaluations_sync,
  links_send,
  links_sync,
  plan_state_send,
  plan_state_sync,
  memory_send,
  memory_sync,
)

pub board_send : IsSend Board.the_field.row
board_send = search (watched_parts, sendable, crosses) depth 40 fits 6000

pub board_sync : IsSync Board.the_field.row
board_sync = search (watched_parts, sendable, crosses) depth 40 fits 6000
