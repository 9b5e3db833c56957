-- A plan state may be sent to another thread and be read by several, part by part.
use Rattle.std.proofs.Crossing.{crosses}
use Rattle.std.proofs.MapsCrossing as maps
use Rattle.std.proofs.MapsCrossingOver as over
use denote.Param.Send.{IsSend, IsSync, sendable}
use Rattle.pl_model.proofs.Crossing.{model_parts}
use Rattle.pl_model.specs.contracts.whole.Model
use Rattle.pl_plan.specs.contracts.plan.Plan
use Rattle.pl_facts.specs.contracts.goals.Goals
use Rattle.pl_facts.specs.contracts.bases.Bases
use Rattle.pl_semantics.specs.contracts.shared_model.SharedModel

model_send : IsSend Model.the_field.row
model_send = search (model_parts, sendable, crosses) depth 40 fits 6000

model_sync : IsSync Model.the_field.row
model_sync = search (model_parts, sendable, crosses) depth 40 fits 6000

pub shared_send : IsSend SharedModel.the_field.row
shared_send = search (model_send, model_sync, sendable, crosses) depth 40 fits 6000

pub shared_sync : IsSync SharedModel.the_field.row
shared_sync = search (model_send, model_sync, sendable, crosses) depth 40 fits 6000

pub plan_send : IsSend Plan.the_field.row
plan_send = search (maps.crosses, over.crosses, sendable, crosses) depth 40 fits 6000

pub plan_sync : IsSync Plan.the_field.row
plan_sync = search (maps.crosses, over.crosses, sendable, crosses) depth 40 fits 6000

pub goals_send : IsSend Goals.the_field.row
goals_send = search (maps.crosses, over.crosses, sendable, crosses) depth 40 fits 6000

pub goals_sync : IsSync Goals.the_field.row
goals_sync = search (maps.crosses, over.crosses, sendable, crosses) depth 40 fits 6000

pub bases_send : IsSend Bases.the_field.row
bases_send = search (sendable, crosses) depth 40 fits 6000

pub bases_sync : IsSync Bases.the_field.row
bases_sync = search (sendable, crosses) depth 40 fits 6000

pub ruleset state_parts = (
  shared_send,
  shared_sync,
  plan_send,
  plan_sync,
  goals_send,
  goals_sync,
  bases_send,
  bases_sync,
)
