-- A legal log, its fronts and what stands behind them.
use Rattle.std.proofs.Common.{◌≡◌, suc, ◌+◌, ◌≤◌, List, [], ◌∷◌, ◌++◌, length, Option, Some, None, arith, length-append}
use Rattle.std.specs.Prelude.{unwrap_or}
use Rattle.pl_model.specs.declared.whole.Model.{Model}
use Rattle.pl_facts.specs.declared.options.Options.{Options}
use Rattle.pl_entry.specs.declared.event.Event.{Event}
use Rattle.pl_entry.specs.declared.reply.Reply.{Reply}
use Rattle.pl_entry.specs.declared.entry.Entry.{Entry}
use Rattle.pl_machine.specs.World.{World, fresh_world}
use Rattle.pl_machine.specs.Step.{after}
use Rattle.pl_machine.specs.Legal.{MayFollow, legal_from, world_from, options_in, IsOpenedRun, Legal, no_options, world_of}
use Rattle.pl_machine.proofs.Runs.{world_append}
use Rattle.pl_laws.specs.Laws.{with_entry}

pub legal_split : (w : World) (es more : List Entry) → legal_from w (es ++ more) → legal_from w es × legal_from (world_from w es) more
legal_split w [] more legal = (tt, legal)
legal_split w (e ∷ es) more legal = let rest = legal_split (after w e.event) es more legal.1 in ((legal.0, rest.0), rest.1)

-- a front of a legal log, and the rest behind it
pub record GoesOn (m : Model) (log more : List Entry) : Type 0 where
  pub front : Legal m log
  pub rest : legal_from (world_of m log) more
  pub world : world_of m (log ++ more) ≡ world_from (world_of m log) more
  pub bounded : length log + length more ≤ 250000

opened_on : (m : Model) (o : Option Options) (answer : Reply) (es more : List Entry) → IsOpenedRun m o answer (es ++ more)
    → IsOpenedRun m o answer es × legal_from (world_from (fresh_world m (unwrap_or o no_options)) es) more × (suc (length es) + length more ≤ 250000)
opened_on m None answer es more run = absurd run
opened_on m (Some o) answer es more run =
    let parts = legal_split (fresh_world m o) es more run.steps in
    let most : o.entries ≤ 250000 = run.options.entries.1 in
    let bounded : length (es ++ more) + 1 ≤ o.entries = run.bounded in
    let both = length-append es more in
    (record { answers = run.answers; options = run.options; steps = parts.0; bounded = omega (arith, both, bounded) }, parts.1, omega (arith, both, bounded, most))

pub goes_on : (m : Model) (first : Entry) (es more : List Entry) → Legal m (first ∷ es ++ more) → GoesOn m (first ∷ es) more
unfolding world_of
goes_on m first es more legal =
    let parts = opened_on m (options_in first.event) first.reply es more legal in
    record { front = parts.0; rest = parts.1; world = world_append (fresh_world m (unwrap_or (options_in first.event) no_options)) es more; bounded = parts.2 }

-- an entry behind a legal log
pub record LastEntry (m : Model) (log : List Entry) (happened : Event) (answer : Reply) : Type 0 where
  pub front : Legal m log
  pub follows : MayFollow (world_of m log) (record { event = happened; reply = answer })
  pub leaves : world_of m (with_entry log happened answer) ≡ after (world_of m log) happened
  pub bounded : length log + 1 ≤ 250000

pub last_entry : (m : Model) (log : List Entry) (happened : Event) (answer : Reply) → (Legal m (record { event = happened; reply = answer } ∷ []) → ⊥) → Legal m (with_entry log happened answer) → LastEntry m log happened answer
last_entry m [] happened answer begins legal = absurd (begins legal)
last_entry m (first ∷ es) happened answer begins legal =
    let on = goes_on m first es (record { event = happened; reply = answer } ∷ []) legal in
    record { front = on.front; follows = on.rest.0; leaves = on.world; bounded = on.bounded }
