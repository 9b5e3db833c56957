-- Each entry of a legal log may stand in a journal under its place.
use Rattle.std.proofs.Common.{◌≡◌, ℕ, suc, ◌+◌, ◌<◌, ◌≤◌, List, [], ◌∷◌, ◌++◌, length, true, Option, Some, None, Ok, Err, refl, subst, ◌∙◌, arith, length-append}
use Rattle.std.specs.Prelude.{unwrap_or}
use Rattle.pl_model.specs.declared.whole.Model.{Model}
use Rattle.pl_facts.specs.declared.options.Options.{Options}
use Rattle.pl_entry.specs.declared.event.Event.{Event}
use Rattle.pl_entry.specs.declared.event.Event.TheVariants as event
use Rattle.pl_entry.specs.declared.reply.Reply.{Reply}
use Rattle.pl_entry.specs.declared.entry.Entry.{Entry}
use Rattle.pl_entry.specs.Bounds.{AreOptions, IsEventInRange, IsReplyTo, IsNumberOf, IsJournalEntry}
use Rattle.pl_machine.specs.World.{World, fresh_world}
use Rattle.pl_machine.specs.Step.{is_enabled, after}
use Rattle.pl_machine.specs.Legal.{legal_from, options_in, IsOpenedRun, Legal}
use Rattle.pl_machine.proofs.Models.{model_after}
use Rattle.pl_journal.specs.Rendering.Lines.{AreEntries}

-- ---- entries

numbered : (w : World) (e : Event) (n : ℕ) → 1 ≤ n → is_enabled w e ≡ true → IsNumberOf n e
numbered w (event.Opened o) n least enabled = absurd (cc)
numbered w (event.Input line) n least enabled = least
numbered w (event.Fix k m) n least enabled = least
numbered w event.Rest n least enabled = least
numbered w (event.Commit h) n least enabled = least
numbered w event.Dispatch n least enabled = least
numbered w event.Close n least enabled = least

written_from : (m : Model) (count : ℕ) (w : World) (es : List Entry) → w.state.model ≡ m → 1 ≤ count → legal_from w es → AreEntries m count es
written_from m count w [] model least legal = tt
written_from m count w (e ∷ es) model least legal = (
  record {
    numbered = numbered w e.event count least legal.0.enabled;
    event = subst (λ (k : Model). IsEventInRange k e.event) model legal.0.event;
    reply = subst (λ (k : Model). IsReplyTo k e.event e.reply) model legal.0.reply;
  },
  written_from m (count + 1) (after w e.event) es (model_after w e.event ∙ model) (omega arith) legal.1,
)

opened_first : (m : Model) (happened : Event) (answer : Reply) (o : Option Options) (es : List Entry) → options_in happened ≡ o → IsOpenedRun m o answer es → IsJournalEntry m 0 (record { event = happened; reply = answer })
opened_first m (event.Opened options) answer None es is run = absurd run
opened_first m (event.Opened options) answer (Some o) es is run =
    let same : o ≡ options = cc in
    record { numbered = refl; event = subst AreOptions same run.options; reply = run.answers }
opened_first m (event.Input line) answer None es is run = absurd run
opened_first m (event.Input line) answer (Some o) es is run = absurd (cc)
opened_first m (event.Fix k mv) answer None es is run = absurd run
opened_first m (event.Fix k mv) answer (Some o) es is run = absurd (cc)
opened_first m event.Rest answer None es is run = absurd run
opened_first m event.Rest answer (Some o) es is run = absurd (cc)
opened_first m (event.Commit h) answer None es is run = absurd run
opened_first m (event.Commit h) answer (Some o) es is run = absurd (cc)
opened_first m event.Dispatch answer None es is run = absurd run
opened_first m event.Dispatch answer (Some o) es is run = absurd (cc)
opened_first m event.Close answer None es is run = absurd run
opened_first m event.Close answer (Some o) es is run = absurd (cc)

opened_rest : (m : Model) (o : Option Options) (answer : Reply) (es : List Entry) → IsOpenedRun m o answer es → AreEntries m 1 es
opened_rest m None answer es run = absurd run
opened_rest m (Some o) answer es run = written_from m 1 (fresh_world m o) es refl (omega arith) run.steps

pub written : (m : Model) (log : List Entry) → Legal m log → AreEntries m 0 log
written m [] legal = absurd legal
written m (first ∷ es) legal = (opened_first m first.event first.reply (options_in first.event) es refl legal, opened_rest m (options_in first.event) first.reply es legal)
