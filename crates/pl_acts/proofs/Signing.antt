-- A mark beside each entry.
use Rattle.std.proofs.Common.{◌≡◌, ◌<◌, ◌≤◌, List, [], ◌∷◌, ◌++◌, length, Result, Ok, Err, OnOk, OnErr, refl, sym, ◌∙◌, ap, subst, inl, inr, arith, length-append}
use Rattle.pl_marks.specs.declared.author.Author.{Author}
use Rattle.pl_marks.specs.Marks.{Signed, AreFew}
use Rattle.pl_entry.specs.declared.event.Event.{Event}
use Rattle.pl_entry.specs.declared.event.Event.TheVariants as event
use Rattle.pl_entry.specs.declared.reply.Reply.{Reply}
use Rattle.pl_entry.specs.declared.reply.Reply.TheVariants as reply
use Rattle.pl_entry.specs.declared.entry.Entry.{Entry}
use Rattle.pl_machine.specs.declared.stop.Stop.{Stop}
use Rattle.pl_machine.specs.declared.stop.Stop.TheVariants as stop
use Rattle.pl_machine.specs.declared.repaired.Repaired.{Repaired}
use Rattle.pl_machine.specs.declared.repaired.Repaired.TheVariants as repaired
use Rattle.pl_machine.specs.Sound.{State}
use Rattle.pl_machine.specs.Solo.{Picks, Drawn}
use Rattle.pl_machine.specs.Taking.{Answers}
use Rattle.pl_machine.specs.Mending.{RepairsOnce}
use Rattle.pl_acts.specs.Items.{signed_on}
use Rattle.pl_acts.specs.Signing.{Written, IsTied, IsWritten, TakesBack, SignedAnswers, RepairsSigned}
use Rattle.pl_acts.proofs.Replicas.{still_behind, behind_repaired}

authors_on : (by : Author) (s s1 : Signed) → s1 ≡ signed_on by s → s1.authors ≡ s.authors ++ by ∷ []
authors_on by s s1 more = ap (λ (x : Signed). x.authors) more

pub some_signed : (by : Author) (s s1 : Signed) → s1 ≡ signed_on by s → 0 < length s1.authors
some_signed by s s1 more = (let long = ap length (authors_on by s s1 more) ∙ length-append s.authors (by ∷ []) in omega (arith, long))

taken_back : (by : Author) (s s1 s2 : Signed) → s1 ≡ signed_on by s → TakesBack s1 s2 → s2 ≡ s
taken_back by s s1 s2 more back = back s.authors by (authors_on by s s1 more) ∙ ap (λ (x : Signed). record x { authors = s.authors }) more

-- ---- how many there are

pub few : (w : Written) → IsTied w → length w.machine.log ≤ 250000 → AreFew w.signs
few w tied short = (let each = tied.each in omega (arith, each, short))

tied_more : (by : Author) (old : Written) (m : State) (s : Signed) (e : Entry) → IsTied old → m.log ≡ old.machine.log ++ e ∷ [] → s ≡ signed_on by old.signs → IsTied (record { machine = m; signs = s })
tied_more by old m s e tied log more =
    let opening : s.opening ≡ old.signs.opening = ap (λ (x : Signed). x.opening) more in
    let authors = ap length (authors_on by old.signs s more) ∙ length-append old.signs.authors (by ∷ []) in
    let long = ap length log ∙ length-append old.machine.log (e ∷ []) in
    let some = tied.some in
    let each = tied.each in
    record { some = omega (arith, opening, some); each = omega (arith, opening, authors, long, each) }

pub tied_same : (old : Written) (m : State) (s : Signed) → IsTied old → m.log ≡ old.machine.log → s ≡ old.signs → IsTied (record { machine = m; signs = s })
tied_same old m s tied log same =
    let opening : s.opening ≡ old.signs.opening = ap (λ (x : Signed). x.opening) same in
    let authors : length s.authors ≡ length old.signs.authors = ap (λ (x : Signed). length x.authors) same in
    let long : length m.log ≡ length old.machine.log = ap length log in
    let some = tied.some in
    let each = tied.each in
    record { some = omega (arith, opening, some); each = omega (arith, opening, authors, long, each) }

-- a refusal leaves the log
refused_log : (old m : State) (e : Event) (st : Stop) → Answers old e (Err st) m → m.log ≡ old.log
refused_log old m e stop.Spoiled answers = ap (λ (x : State). x.log) answers.1
refused_log old m e stop.NotNow answers = ap (λ (x : State). x.log) answers.2
refused_log old m e stop.LogFull answers = ap (λ (x : State). x.log) answers.3
refused_log old m e stop.Memory answers = answers.1.log

-- ---- an event

refused_by : (by : Author) (old : Written) (m : State) (s : Signed) (e : Event) (st : Stop) → Answers old.machine e (Err st) m → s ≡ old.signs → SignedAnswers by old e (Err st) (record { machine = m; signs = s })
refused_by by old m s e stop.Spoiled answers same = (answers, same)
refused_by by old m s e stop.NotNow answers same = (answers, same)
refused_by by old m s e stop.LogFull answers same = (answers, same)
refused_by by old m s e stop.Memory answers same = inl (answers, same)

-- the mark stays where the event was made, and is taken back where it was refused
pub signed_answers : (by : Author) (old : Written) (m : State) (s s2 : Signed) (e : Event) (r : Result Reply Stop) → Answers old.machine e r m → s ≡ signed_on by old.signs → OnOk r (s2 ≡ s) → OnErr r (TakesBack s s2)
    → SignedAnswers by old e r (record { machine = m; signs = s2 })
signed_answers by old m s s2 e (Ok r) answers more same back = (answers, same ∙ more)
signed_answers by old m s s2 e (Err st) answers more same back = refused_by by old m s2 e st answers (taken_back by old.signs s s2 more back)

pub written_answers : (by : Author) (rs : List State) (old : Written) (m : State) (s s2 : Signed) (e : Event) (r : Result Reply Stop) → IsWritten rs old → Answers old.machine e r m → s ≡ signed_on by old.signs → OnOk r (s2 ≡ s) → OnErr r (TakesBack s s2)
    → IsWritten rs (record { machine = m; signs = s2 })
written_answers by rs old m s s2 e (Ok r) is answers more same back = record {
  behind = still_behind old.machine m e (Ok r) rs is.behind answers;
  tied = tied_more by old m s2 (record { event = e; reply = r }) is.tied answers.1.log (same ∙ more);
}
written_answers by rs old m s s2 e (Err st) is answers more same back = record {
  behind = still_behind old.machine m e (Err st) rs is.behind answers;
  tied = tied_same old m s2 is.tied (refused_log old.machine m e st answers) (taken_back by old.signs s s2 more back);
}

same_written : (old : Written) (s : Signed) → s ≡ old.signs → record { machine = old.machine; signs = s } ≡ old
same_written old s same = ap (λ (x : Signed). record old { signs = x }) same

-- memory was wanting for the mark
pub unsigned : (by : Author) (old : Written) (s : Signed) (e : Event) (st : Stop) → (st ≡ stop.Memory) × (s ≡ old.signs) → SignedAnswers by old e (Err st) (record { machine = old.machine; signs = s })
unsigned by old s e st why = (let P : Stop → Type 0 = λ x. SignedAnswers by old e (Err x) (record { machine = old.machine; signs = s }) in subst P (sym why.0) (inr (same_written old s why.1)))

pub written_same : (rs : List State) (old : Written) (s : Signed) (st : Stop) → IsWritten rs old → (st ≡ stop.Memory) × (s ≡ old.signs) → IsWritten rs (record { machine = old.machine; signs = s })
written_same rs old s st is why = record { behind = is.behind; tied = tied_same old old.machine s is.tied refl why.1 }

-- ---- one turn of repair

module _ {C : Type 0} (picks : Picks C) (drawn : Drawn C) (by : Author) (old : Written) (m : State) (c c2 : C) where
  not_repaired : (s : Signed) (st : Stop) → RepairsOnce picks drawn old.machine c (Err st) m c2 → s ≡ old.signs → RepairsSigned picks drawn by old c (Err st) (record { machine = m; signs = s }) c2
  not_repaired s stop.Spoiled did same = (did, same)
  not_repaired s stop.NotNow did same = (did, same)
  not_repaired s stop.LogFull did same = (did, same)
  not_repaired s stop.Memory did same = inl (did, same)

  pub signed_repair : (s s2 : Signed) (r : Result Repaired Stop) → RepairsOnce picks drawn old.machine c r m c2 → s ≡ signed_on by old.signs → OnOk r (s2 ≡ s) → OnErr r (TakesBack s s2)
      → RepairsSigned picks drawn by old c r (record { machine = m; signs = s2 }) c2
  signed_repair s s2 (Ok done) did more same back = (did, same ∙ more)
  signed_repair s s2 (Err st) did more same back = not_repaired s2 st did (taken_back by old.signs s s2 more back)

  repaired_log : (done : Repaired) → RepairsOnce picks drawn old.machine c (Ok done) m c2 → (e : Entry) × (m.log ≡ old.machine.log ++ e ∷ [])
  repaired_log (repaired.Fixed p) did = (record { event = event.Fix p.conflict p.mv; reply = reply.Done }, did.4.log)
  repaired_log (repaired.Rested why) did = (record { event = event.Rest; reply = reply.Rested why }, did.2.log)

  not_repaired_log : (st : Stop) → RepairsOnce picks drawn old.machine c (Err st) m c2 → m.log ≡ old.machine.log
  not_repaired_log stop.Spoiled did = ap (λ (x : State). x.log) did.1
  not_repaired_log stop.NotNow did = ap (λ (x : State). x.log) did.2
  not_repaired_log stop.LogFull did = ap (λ (x : State). x.log) did.3
  not_repaired_log stop.Memory did = did.1.log

  pub written_repair : (rs : List State) (s s2 : Signed) (r : Result Repaired Stop) → IsWritten rs old → RepairsOnce picks drawn old.machine c r m c2 → s ≡ signed_on by old.signs → OnOk r (s2 ≡ s) → OnErr r (TakesBack s s2)
      → IsWritten rs (record { machine = m; signs = s2 })
  written_repair rs s s2 (Ok done) is did more same back =
      let logged = repaired_log done did in
      record { behind = behind_repaired picks drawn old.machine m c c2 (Ok done) rs is.behind did; tied = tied_more by old m s2 logged.0 is.tied logged.1 (same ∙ more) }
  written_repair rs s s2 (Err st) is did more same back = record {
    behind = behind_repaired picks drawn old.machine m c c2 (Err st) rs is.behind did;
    tied = tied_same old m s2 is.tied (not_repaired_log st did) (taken_back by old.signs s s2 more back);
  }

-- memory was wanting for the mark, and the chooser was not asked
pub not_marked : {C : Type 0} (picks : Picks C) (drawn : Drawn C) (by : Author) (old : Written) (c : C) (s : Signed) (st : Stop) → (st ≡ stop.Memory) × (s ≡ old.signs) → RepairsSigned picks drawn by old c (Err st) (record { machine = old.machine; signs = s }) c
not_marked picks drawn by old c s st why =
    let P : Stop → Type 0 = λ x. RepairsSigned picks drawn by old c (Err x) (record { machine = old.machine; signs = s }) c in
    subst P (sym why.0) (inr (same_written old s why.1, refl))
