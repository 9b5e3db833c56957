-- What a machine's answer says of the line.
use Rattle.std.proofs.Common.{◌≡◌, ℕ, ◌<◌, ◌≤◌, List, length, Option, Some, None, Result, Ok, Err, IfOk, true, false, ◌∙◌, ap, sym, subst}
use Rattle.pl_model.specs.declared.whole.Model.{Model}
use Rattle.pl_entry.specs.declared.reply.Reply.{Reply}
use Rattle.pl_entry.specs.declared.entry.Entry.{Entry}
use Rattle.pl_journal.specs.Rendering.Lines.{text_of}
use Rattle.pl_machine.specs.declared.stop.Stop.{Stop}
use Rattle.pl_machine.specs.declared.stop.Stop.TheVariants as stop
use Rattle.pl_machine.specs.World.{World}
use Rattle.pl_machine.specs.Step.{is_enabled, reply_of}
use Rattle.pl_machine.specs.Legal.{IsHistory}
use Rattle.pl_machine.specs.Taking.{Answers}
use Rattle.pl_machine.specs.Sound.{State}
use Rattle.pl_replay.specs.declared.verdict.Verdict.{Verdict}
use Rattle.pl_replay.specs.declared.verdict.Verdict.TheVariants as verdict
use Rattle.pl_replay.specs.Journals.{IsNextLine, Differs, JudgesLine}

pub not_now : (old new : State) (line : List ℕ) (e : Entry) (n : ℕ) (why : Stop) → why ≡ stop.NotNow → n ≡ length old.log → IsNextLine old.model old.log line e → IsHistory old.model old.log old.world → Answers old e.event (Err why) new → JudgesLine old line (Some (verdict.NotNow n)) new
not_now old new line e n why because number is history fact =
    let answers = subst (λ (w : Stop). Answers old e.event (Err w) new) because fact in
    (number, record { entry = e; reads = is; disabled = subst (λ (w : World). is_enabled w e.event ≡ false) history.world answers.1 })

pub log_full : (old new : State) (line : List ℕ) (e : Entry) (n : ℕ) (why : Stop) → why ≡ stop.LogFull → n ≡ length old.log → IsNextLine old.model old.log line e → IsHistory old.model old.log old.world → Answers old e.event (Err why) new → JudgesLine old line (Some (verdict.Full n)) new
log_full old new line e n why because number is history fact =
    let answers = subst (λ (w : Stop). Answers old e.event (Err w) new) because fact in (
      number,
      record {
        entry = e;
        reads = is;
        enabled = subst (λ (w : World). is_enabled w e.event ≡ true) history.world answers.1;
        full = let same = ap (λ o. o.entries) history.options in subst (λ k. k ≤ length old.log) (sym same) answers.2;
      },
    )

answered : (old new : State) (line : List ℕ) (e : Entry) (n : ℕ) (r : Reply) (wrong : Option Verdict) → n ≡ length old.log → IsNextLine old.model old.log line e → IsHistory old.model old.log old.world → Answers old e.event (Ok r) new
    → Differs new.model n (record { event = e.event; reply = r }) line wrong → JudgesLine old line wrong new
answered old new line e n r None number is history answers differs = record {
  entry = record { event = e.event; reply = r };
  shows = subst (λ (m : Model). line ≡ text_of m (length old.log) (record { event = e.event; reply = r })) answers.1.model (subst (λ k. line ≡ text_of new.model k (record { event = e.event; reply = r })) number differs);
  log = answers.1.log;
  unspoiled = answers.1.spoiled;
  model = answers.1.model;
}
answered old new line e n r (Some v) number is history answers differs = subst (λ (v : Verdict). JudgesLine old line (Some v) new) (sym differs.0) (
  number,
  record {
    entry = e;
    reads = is;
    enabled = subst (λ (w : World). is_enabled w e.event ≡ true) history.world answers.0.enabled;
    room = let same = ap (λ o. o.entries) history.options in subst (λ k. length old.log < k) (sym same) answers.0.room;
    answers = subst (λ (w : World). r ≡ reply_of w e.event) history.world answers.1.step.answers;
    differs = λ same. differs.1 (text_same same);
  },
)
  where
    text_same : e.reply ≡ r → line ≡ text_of new.model n (record { event = e.event; reply = r })
    text_same same =
        let here : text_of old.model (length old.log) e ≡ text_of old.model (length old.log) (record { event = e.event; reply = r }) = ap (λ (r : Reply). text_of old.model (length old.log) (record { event = e.event; reply = r })) same in
        let there : text_of old.model (length old.log) (record { event = e.event; reply = r }) ≡ text_of new.model (length old.log) (record { event = e.event; reply = r }) = ap (λ (m : Model). text_of m (length old.log) (record { event = e.event; reply = r })) (sym answers.1.model) in
        is.text ∙ here ∙ there ∙ ap (λ k. text_of new.model k (record { event = e.event; reply = r })) (sym number)

pub answered_ok : {E : Type 0} (old new : State) (line : List ℕ) (e : Entry) (n : ℕ) (r : Reply) (m : Model) (wrong : Result (Option Verdict) E) → n ≡ length old.log → IsNextLine old.model old.log line e → IsHistory old.model old.log old.world → Answers old e.event (Ok r) new
    → m ≡ new.model → IfOk wrong (λ w. Differs m n (record { event = e.event; reply = r }) line w) → IfOk wrong (λ w. JudgesLine old line w new)
answered_ok old new line e n r m (Ok w) number is history answers same differs =
    answered old new line e n r w number is history answers (subst (λ (m : Model). Differs m n (record { event = e.event; reply = r }) line w) same differs)
answered_ok old new line e n r m (Err x) number is history answers same differs = tt

-- behind the answer the line is still that of its entry
pub still_shows : (old new : State) (line : List ℕ) (e : Entry) (n : ℕ) (r : Reply) (m : Model) → n ≡ length old.log → IsNextLine old.model old.log line e → Answers old e.event (Ok r) new → m ≡ new.model → line ≡ text_of m n e
still_shows old new line e n r m number is answers same = is.text ∙ ap (λ k. text_of old.model k e) (sym number) ∙ ap (λ (m : Model). text_of m n e) (sym (same ∙ answers.1.model))

-- an entry whose reply is the one that was read has the line
pub same_line : (m : Model) (n : ℕ) (answered : Entry) (read : Reply) (line : List ℕ) → line ≡ text_of m n (record { event = answered.event; reply = read }) → read ≡ answered.reply → line ≡ text_of m n answered
same_line m n answered read line is same = is ∙ ap (λ (r : Reply). text_of m n (record { event = answered.event; reply = r })) same
