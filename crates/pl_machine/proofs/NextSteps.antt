-- What stands behind a front of a legal log is a step.
use Rattle.std.proofs.Common.{◌≡◌, suc, ◌+◌, ◌<◌, ◌≤◌, List, [], ◌∷◌, ◌++◌, length, true, Option, Some, None, arith, length-append}
use Rattle.std.specs.Prelude.{unwrap_or}
use Rattle.pl_model.specs.declared.whole.Model.{Model}
use Rattle.pl_facts.specs.declared.options.Options.{Options}
use Rattle.pl_entry.specs.declared.reply.Reply.{Reply}
use Rattle.pl_entry.specs.declared.entry.Entry.{Entry}
use Rattle.pl_entry.specs.Bounds.{IsEventInRange}
use Rattle.pl_machine.specs.World.{World, fresh_world}
use Rattle.pl_machine.specs.Step.{is_enabled, reply_of, after}
use Rattle.pl_machine.specs.Legal.{MayFollow, legal_from, world_from, options_in, no_options, options_of, IsOpenedRun, Legal, world_of}

-- the entry is a step behind the log, which has room for it
pub record IsNextStep (m : Model) (log : List Entry) (e : Entry) : Type 0 where
  pub event : IsEventInRange (world_of m log).state.model e.event
  pub enabled : is_enabled (world_of m log) e.event ≡ true
  pub answers : e.reply ≡ reply_of (world_of m log) e.event
  pub room : length log < (options_of log).entries

may_follow : (w : World) (es more : List Entry) (e : Entry) → legal_from w (es ++ e ∷ more) → MayFollow (world_from w es) e
may_follow w [] more e legal = legal.0
may_follow w (x ∷ es) more e legal = may_follow (after w x.event) es more e legal.1

opened_on : (m : Model) (o : Option Options) (answer : Reply) (es more : List Entry) (e : Entry) → IsOpenedRun m o answer (es ++ e ∷ more)
    → MayFollow (world_from (fresh_world m (unwrap_or o no_options)) es) e × (suc (length es) < (unwrap_or o no_options).entries)
opened_on m None answer es more e run = absurd run
opened_on m (Some o) answer es more e run =
    let bounded : length (es ++ e ∷ more) + 1 ≤ o.entries = run.bounded in
    let long : length (es ++ e ∷ more) ≡ length es + suc (length more) = length-append es (e ∷ more) in
    (may_follow (fresh_world m o) es more e run.steps, omega (arith, bounded, long))

pub next_step : (m : Model) (log more : List Entry) (e : Entry) → Legal m log → Legal m (log ++ e ∷ more) → IsNextStep m log e
unfolding world_of
next_step m [] more e front legal = absurd front
next_step m (first ∷ es) more e front legal =
    let on = opened_on m (options_in first.event) first.reply es more e legal in
    record { event = on.0.event; enabled = on.0.enabled; answers = on.0.answers; room = on.1 }
