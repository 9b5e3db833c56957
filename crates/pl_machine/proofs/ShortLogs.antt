-- A legal log has an entry, and at most as many as may be.
use Rattle.std.proofs.Common.{◌+◌, ◌<◌, ◌≤◌, List, [], ◌∷◌, length, Option, Some, None, arith}
use Rattle.pl_model.specs.declared.whole.Model.{Model}
use Rattle.pl_facts.specs.declared.options.Options.{Options}
use Rattle.pl_entry.specs.declared.reply.Reply.{Reply}
use Rattle.pl_entry.specs.declared.entry.Entry.{Entry}
use Rattle.pl_machine.specs.Legal.{Legal, IsOpenedRun, options_in}

pub opened_short : (m : Model) (o : Option Options) (answer : Reply) (es : List Entry) → IsOpenedRun m o answer es → length es + 1 ≤ 250000
opened_short m None answer es run = absurd run
opened_short m (Some o) answer es run = omega (arith, run.bounded, run.options.entries.1)

pub log_is_some : (m : Model) (log : List Entry) → Legal m log → 0 < length log
log_is_some m [] legal = absurd legal
log_is_some m (first ∷ es) legal = omega arith

pub log_is_short : (m : Model) (log : List Entry) → Legal m log → length log ≤ 250000
log_is_short m [] legal = absurd legal
log_is_short m (first ∷ es) legal = omega (arith, opened_short m (options_in first.event) first.reply es legal)
