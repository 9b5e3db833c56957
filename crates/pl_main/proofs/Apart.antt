-- No input has the causes of two statuses of a reading of a journal.
use Rattle.std.proofs.Common.{◌≡◌, ℕ, ◌+◌, ◌⊎◌, inl, inr, List, [], ◌∷◌, ◌++◌, not, Option, Some, None, refl, sym, ◌∙◌, ap, subst}
use Rattle.std.proofs.lemmas.List.{append-nil}
use Rattle.std.proofs.lemmas.List.Elements.{filter-append}
use Rattle.std.proofs.lemmas.Option.{same_Some}
use Rattle.pl_io.specs.Lines.{lines_of}
use Rattle.pl_model.specs.declared.whole.Model.{Model}
use Rattle.pl_entry.specs.declared.entry.Entry.{Entry}
use Rattle.pl_input.specs.Words.{is_blank_line, model_text_of, split_of}
use Rattle.pl_machine.specs.Legal.{Legal}
use Rattle.pl_journal.specs.Rendering.Lines.{text_of}
use Rattle.pl_check.specs.Accepting.{IsModelText}
use Rattle.pl_check.proofs.Apart.{one_model, checked_model}
use Rattle.pl_input.proofs.Reading.{gave_lines}
use Rattle.pl_input.proofs.Comparing.{GoesOn, goes_on, all_or_stuck}
use Rattle.pl_replay.specs.declared.verdict.Verdict.{Verdict}
use Rattle.pl_replay.specs.Journals.{entry_lines, lines_from, IsJournalOf, IsWrongAtLast}
use Rattle.pl_replay.proofs.Verdicts.{never_begins}
use Rattle.pl_main.specs.declared.form.Form.{Form}
use Rattle.pl_main.specs.Top.{total_limit}
use Rattle.pl_main.specs.Replays.{journal_line_limit, HasTaken, IsRightJournal, IsWrong, no_entry, wrong_last, IsWrongJournal, IsRightSoFar, IsPastJournal, by_line, by_end, IsRefusedBy, IsRefused, no_model, no_foreword, IsRightBehind, in_foreword, in_journal}
use Rattle.pl_main.specs.Limits.{IsWithinLimits, HasRightJournal, HasWrongJournal, Decides}
use Rattle.pl_main.specs.Statuses.{SaysReadBack}
use Rattle.pl_main.specs.Forewords.{tells, refuses, said_before}
use Rattle.pl_main.proofs.Jobs.{IsJobStatus, is_done, is_refused, is_read, is_write, is_limit, is_full, is_wrong, is_memory}
use Rattle.pl_main.proofs.OneInput.{split_text}
use Rattle.pl_main.proofs.Causes.{no_model_of, text_then_limit, no_text, head_not_past, is_within}
use Rattle.pl_input.specs.Reads.{GivesLines}
use Rattle.pl_main.specs.declared.told.Told.{Told}
use Rattle.pl_main.proofs.Prefacing.{tells_on, refuses_on, same_told, told_not_refused, told_not_unended, refused_not_unended}

abbrev Lines : Type 0
Lines = List (List ℕ)

-- ---- lines of entries

entries_append : (xs ys : Lines) → entry_lines (xs ++ ys) ≡ entry_lines xs ++ entry_lines ys
entries_append xs ys = filter-append (λ line. not (is_blank_line line)) xs ys

no_last : (xs : Lines) (x : List ℕ) (ys : Lines) → [] ≡ (xs ++ x ∷ []) ++ ys → ⊥
no_last [] x ys e = let h : [] ≡ x ∷ ys = e in (cc)
no_last (z ∷ xs) x ys e = let h : [] ≡ z ∷ ((xs ++ x ∷ []) ++ ys) = e in (cc)

-- a legal log has an entry
no_log : (m : Model) (log : List Entry) → Legal m log → lines_from m 0 log ≡ [] → ⊥
no_log m [] legal none = legal
no_log m (e ∷ es) legal none = let h : text_of m 0 e ∷ lines_from m (0 + 1) es ≡ [] = none in (cc)

-- no legal log, and not the empty one, begins with the lines of a wrong journal
log_not_wrong : (m : Model) (words : List ℕ) (log : List Entry) (front more : Lines) (v : Verdict) → IsModelText words m → (log ≡ []) ⊎ Legal m log → IsWrongAtLast m front v → lines_from m 0 log ≡ front ++ more → ⊥
log_not_wrong m words log front more v accepted (inl none) wrong same =
    no_last (lines_from m 0 wrong.log) wrong.line more (ap (λ (l : List Entry). lines_from m 0 l) (sym none) ∙ same ∙ ap (λ (ls : Lines). ls ++ more) wrong.shows)
log_not_wrong m words log front more v accepted (inr legal) wrong same = never_begins m log front more v (checked_model words m accepted) legal wrong same

-- ---- the lines that were taken

taken_text : (form : Form) (m : Model) (input words : List ℕ) (what : Told) (behind : Lines) (rest : List ℕ) (left : Option (List ℕ)) → HasTaken form m input words what behind rest left → (split_of input).text ≡ Some words
taken_text form m input words what behind rest left read = split_text journal_line_limit input read.lines read.left rest words read.gave read.text

-- what is said of all lines, where it is clear from those that were taken
taken_said : (form : Form) (m : Model) (input words : List ℕ) (what : Told) (behind : Lines) (rest : List ℕ) (left : Option (List ℕ)) → HasTaken form m input words what behind rest left
    → said_before form m (lines_of input) ≡ tells what (behind ++ lines_of rest)
taken_said form m input words what behind rest left read =
    ap (said_before form m) (gave_lines journal_line_limit total_limit input read.lines read.left rest read.gave)
    ∙ tells_on form m read.lines (lines_of rest) behind words what read.text read.behind

all_said : (form : Form) (m : Model) (input words : List ℕ) (what : Told) (behind : Lines) (left : Option (List ℕ)) → HasTaken form m input words what behind [] left → said_before form m (lines_of input) ≡ tells what behind
all_said form m input words what behind left read = taken_said form m input words what behind [] left read ∙ ap (tells what) (append-nil behind)

-- the journal's lines that are told of two models are one
said_same : (form : Form) (m n : Model) (lines : Lines) (what other : Told) (xs ys : Lines) → n ≡ m → said_before form m lines ≡ tells what xs → said_before form n lines ≡ tells other ys → xs ≡ ys
said_same form m n lines what other xs ys same first second = (same_told what other xs ys (sym first ∙ ap (λ (x : Model). said_before form x lines) (sym same) ∙ second)).1

-- two models of one input
model_same : (input words others : List ℕ) (m n : Model) → (split_of input).text ≡ Some words → (split_of input).text ≡ Some others → IsModelText words m → IsModelText others n → n ≡ m
model_same input words others m n is also accepted accepted2 =
    one_model words n m (subst (λ (w : List ℕ). IsModelText w n) (same_Some others words (sym also ∙ is)) accepted2) accepted

-- ---- a journal that is legal

-- the lines of a journal are those of a legal log, and begin with the lines of a wrong journal
right_and_wrong : (form : Form) (input words others : List ℕ) (m n : Model) (what other : Told) (lines behind : Lines) (log : List Entry) (front more : Lines) (v : Verdict) → (split_of input).text ≡ Some words → (split_of input).text ≡ Some others → IsModelText words m → IsModelText others n
    → said_before form m (lines_of input) ≡ tells what lines → said_before form n (lines_of input) ≡ tells other behind
    → IsJournalOf m (entry_lines lines) log → entry_lines behind ≡ front ++ more → ((front ≡ []) × (more ≡ [])) ⊎ IsWrongAtLast n front v → ⊥
right_and_wrong form input words others m n what other lines behind log front more v text text2 accepted accepted2 said said2 journal are wrong = by_wrong wrong
  where
    same : n ≡ m
    same = model_same input words others m n text text2 accepted accepted2

    shown : lines_from m 0 log ≡ front ++ more
    shown = sym journal.shows ∙ ap entry_lines (said_same form m n (lines_of input) what other lines behind same said said2) ∙ are

    by_wrong : ((front ≡ []) × (more ≡ [])) ⊎ IsWrongAtLast n front v → ⊥
    by_wrong (inl none) = no_log m log journal.legal (shown ∙ ap (λ (ls : Lines). ls ++ more) none.0 ∙ none.1)
    by_wrong (inr last) = log_not_wrong m words log front more v accepted (inr journal.legal) (subst (λ (x : Model). IsWrongAtLast x front v) same last) shown

-- the lines that were taken up to a wrong entry
front_is : (m : Model) (behind : Lines) (rest : List ℕ) (v : Verdict) → IsWrong m behind rest v → ((entry_lines behind ≡ []) × (entry_lines (lines_of rest) ≡ [])) ⊎ IsWrongAtLast m (entry_lines behind) v
front_is m behind rest v (no_entry none used verdict) = inl (none, ap (λ (r : List ℕ). entry_lines (lines_of r)) used)
front_is m behind rest v (wrong_last wrong ends) = inr wrong

pub right_not_wrong : (form : Form) (input : List ℕ) (left held now other_left other_held other_now : Option (List ℕ)) → IsRightJournal form input left held now → IsWrongJournal form input other_left other_held other_now → ⊥
right_not_wrong form input left held now other_left other_held other_now right wrong =
    right_and_wrong form input right.words wrong.words right.model wrong.model right.what wrong.what right.behind (wrong.behind ++ lines_of wrong.rest) right.log (entry_lines wrong.behind) (entry_lines (lines_of wrong.rest)) wrong.verdict
    (taken_text form right.model input right.words right.what right.behind [] left right.read) (taken_text form wrong.model input wrong.words wrong.what wrong.behind wrong.rest other_left wrong.read) right.accepted wrong.accepted
    (all_said form right.model input right.words right.what right.behind left right.read) (taken_said form wrong.model input wrong.words wrong.what wrong.behind wrong.rest other_left wrong.read) right.journal
    (entries_append wrong.behind (lines_of wrong.rest)) (front_is wrong.model wrong.behind wrong.rest wrong.verdict wrong.wrong)

pub right_not_past : (form : Form) (input : List ℕ) (left held now other_left other_held other_now : Option (List ℕ)) → IsRightJournal form input left held now → IsPastJournal form input other_left other_held other_now → ⊥
right_not_past form input left held now other_left other_held other_now right past =
    all_or_stuck journal_line_limit past.lines right.read.lines past.left past.rest right.read.left []
    (goes_on journal_line_limit total_limit input past.lines right.read.lines past.left past.rest right.read.left [] past.why past.gave right.read.gave) refl past.why

-- ---- an input that is refused

-- what stands before a journal is refused, and what is said of all lines tells so
not_refused_by : (form : Form) (m : Model) (input words : List ℕ) (lines : Lines) (left : ℕ) (rest line : List ℕ) (what : Told) (behind : Lines) → GivesLines journal_line_limit total_limit input lines left rest → model_text_of lines ≡ Some words
    → IsRefusedBy form m lines rest line → said_before form m (lines_of input) ≡ tells what behind → ⊥
not_refused_by form m input words lines left rest line what behind gave text (by_line says) told =
    told_not_refused what behind (lines_of rest) line
    (sym told ∙ ap (said_before form m) (gave_lines journal_line_limit total_limit input lines left rest gave) ∙ refuses_on form m lines (lines_of rest) [] words line text says)
not_refused_by form m input words lines left rest line what behind gave text (by_end says none) told =
    told_not_unended what behind line
    (sym told ∙ ap (said_before form m) (gave_lines journal_line_limit total_limit input lines left rest gave ∙ ap (λ (r : List ℕ). lines ++ lines_of r) none ∙ append-nil lines) ∙ says)

-- an input whose journal is told is not refused
told_not_no_foreword : (form : Form) (input words : List ℕ) (m : Model) (what : Told) (behind : Lines) (left held now : Option (List ℕ)) → (split_of input).text ≡ Some words → IsModelText words m → said_before form m (lines_of input) ≡ tells what behind
    → IsRefused form input left held now → ⊥
told_not_no_foreword form input words m what behind left held now text accepted told (no_model none) = no_model_of journal_line_limit input words m left held now text accepted none
told_not_no_foreword form input words m what behind left held now text accepted told (no_foreword none) =
    let same : none.model ≡ m = model_same input words none.words m none.model text (split_text journal_line_limit input none.lines none.left none.rest none.words none.gave none.text) accepted none.accepted in
    not_refused_by form none.model input none.words none.lines none.left none.rest none.line what behind none.gave none.text none.refused (ap (λ (x : Model). said_before form x (lines_of input)) same ∙ told)

pub right_not_refused : (form : Form) (input : List ℕ) (left held now other_left other_held other_now : Option (List ℕ)) → IsRightJournal form input left held now → IsRefused form input other_left other_held other_now → ⊥
right_not_refused form input left held now other_left other_held other_now right refused =
    told_not_no_foreword form input right.words right.model right.what right.behind other_left other_held other_now (taken_text form right.model input right.words right.what right.behind [] left right.read) right.accepted
    (all_said form right.model input right.words right.what right.behind left right.read) refused

pub wrong_not_refused : (form : Form) (input : List ℕ) (left held now other_left other_held other_now : Option (List ℕ)) → IsWrongJournal form input left held now → IsRefused form input other_left other_held other_now → ⊥
wrong_not_refused form input left held now other_left other_held other_now wrong refused =
    told_not_no_foreword form input wrong.words wrong.model wrong.what (wrong.behind ++ lines_of wrong.rest) other_left other_held other_now (taken_text form wrong.model input wrong.words wrong.what wrong.behind wrong.rest left wrong.read) wrong.accepted
    (taken_said form wrong.model input wrong.words wrong.what wrong.behind wrong.rest left wrong.read) refused

-- ---- a line that is too long

-- Lines that are right so far go on behind those whose saying is clear: what is said of them.
right_behind_said : (form : Form) (m : Model) (lines : Lines) (what : Told) (taken : Lines) → IsRightBehind form m lines → said_before form m lines ≡ tells what taken
    → (log : List Entry) × ((log ≡ []) ⊎ Legal m log) × (entry_lines taken ≡ lines_from m 0 log)
right_behind_said form m lines what taken (in_foreword line says) told = absurd (told_not_unended what taken line (sym told ∙ says))
right_behind_said form m lines what taken (in_journal other behind log says right entries) told =
    (log, right, ap entry_lines (same_told what other taken behind (sym told ∙ says)).1 ∙ entries)

refused_not_right : (form : Form) (m : Model) (lines : Lines) (line : List ℕ) (behind : Lines) → IsRightBehind form m lines → said_before form m lines ≡ refuses line behind → ⊥
refused_not_right form m lines line behind (in_foreword other says) refused = refused_not_unended behind line other (sym refused ∙ says)
refused_not_right form m lines line behind (in_journal what taken log says right entries) refused = told_not_refused what taken behind line (sym says ∙ refused)

pub refusal_not_past : (form : Form) (input : List ℕ) (left held now other_left other_held other_now : Option (List ℕ)) → IsRefused form input left held now → IsPastJournal form input other_left other_held other_now → ⊥
refusal_not_past form input left held now other_left other_held other_now (no_model refused) past = by_asked past.asked
  where
    by_asked : (model_text_of past.lines ≡ None) ⊎ IsRightSoFar form past.lines → ⊥
    by_asked (inl none) = head_not_past journal_line_limit input past.lines past.left past.rest left held now past.why past.gave none refused
    by_asked (inr so_far) = no_model_of journal_line_limit input so_far.words so_far.model left held now (split_text journal_line_limit input past.lines past.left past.rest so_far.words past.gave so_far.text) so_far.accepted refused
refusal_not_past form input left held now other_left other_held other_now (no_foreword none) past = by_refused none.refused
  where
    on : GoesOn journal_line_limit past.lines none.lines past.left past.rest none.left none.rest
    on = goes_on journal_line_limit total_limit input past.lines none.lines past.left past.rest none.left none.rest past.why past.gave none.gave

    by_asked : said_before form none.model none.lines ≡ refuses none.line [] → (model_text_of past.lines ≡ None) ⊎ IsRightSoFar form past.lines → ⊥
    by_asked says (inl nothing) =
        no_text past.lines none.words (text_then_limit journal_line_limit input past.lines none.lines past.left past.rest none.left none.rest none.words past.why past.gave none.gave none.text) nothing
    by_asked says (inr so_far) =
        let same : so_far.model ≡ none.model = model_same input none.words so_far.words none.model so_far.model (split_text journal_line_limit input none.lines none.left none.rest none.words none.gave none.text)
        (split_text journal_line_limit input past.lines past.left past.rest so_far.words past.gave so_far.text) none.accepted so_far.accepted in
        refused_not_right form none.model past.lines none.line on.more (subst (λ (m : Model). IsRightBehind form m past.lines) same so_far.right)
        (ap (said_before form none.model) on.is ∙ refuses_on form none.model none.lines on.more [] none.words none.line none.text says)

    by_refused : IsRefusedBy form none.model none.lines none.rest none.line → ⊥
    by_refused (by_line says) = by_asked says past.asked
    by_refused (by_end says used) = all_or_stuck journal_line_limit past.lines none.lines past.left past.rest none.left none.rest on used past.why

pub wrong_not_past : (form : Form) (input : List ℕ) (left held now other_left other_held other_now : Option (List ℕ)) → IsWrongJournal form input left held now → IsPastJournal form input other_left other_held other_now → ⊥
wrong_not_past form input left held now other_left other_held other_now wrong past = by_wrong wrong.wrong
  where
    on : GoesOn journal_line_limit past.lines wrong.read.lines past.left past.rest wrong.read.left wrong.rest
    on = goes_on journal_line_limit total_limit input past.lines wrong.read.lines past.left past.rest wrong.read.left wrong.rest past.why past.gave wrong.read.gave

    by_asked : IsWrongAtLast wrong.model (entry_lines wrong.behind) wrong.verdict → (model_text_of past.lines ≡ None) ⊎ IsRightSoFar form past.lines → ⊥
    by_asked at_last (inl none) =
        no_text past.lines wrong.words (text_then_limit journal_line_limit input past.lines wrong.read.lines past.left past.rest wrong.read.left wrong.rest wrong.words past.why past.gave wrong.read.gave wrong.read.text) none
    by_asked at_last (inr so_far) =
        let same : so_far.model ≡ wrong.model = model_same input wrong.words so_far.words wrong.model so_far.model (taken_text form wrong.model input wrong.words wrong.what wrong.behind wrong.rest left wrong.read)
        (split_text journal_line_limit input past.lines past.left past.rest so_far.words past.gave so_far.text) wrong.accepted so_far.accepted in
        let said : said_before form wrong.model past.lines ≡ tells wrong.what (wrong.behind ++ on.more) =
        ap (said_before form wrong.model) on.is ∙ tells_on form wrong.model wrong.read.lines on.more wrong.behind wrong.words wrong.what wrong.read.text wrong.read.behind in
        let right = right_behind_said form wrong.model past.lines wrong.what (wrong.behind ++ on.more) (subst (λ (m : Model). IsRightBehind form m past.lines) same so_far.right) said in
        log_not_wrong wrong.model wrong.words right.0 (entry_lines wrong.behind) (entry_lines on.more) wrong.verdict wrong.accepted right.1 at_last
        (sym right.2 ∙ entries_append wrong.behind on.more)

    by_wrong : IsWrong wrong.model wrong.behind wrong.rest wrong.verdict → ⊥
    by_wrong (no_entry none used verdict) = all_or_stuck journal_line_limit past.lines wrong.read.lines past.left past.rest wrong.read.left wrong.rest on used past.why
    by_wrong (wrong_last at_last ends) = by_asked at_last past.asked

-- ---- an input within the limits

pub journal_within : (form : Form) (input : List ℕ) (left held now : Option (List ℕ)) → IsWithinLimits journal_line_limit input → IsPastJournal form input left held now → ⊥
journal_within form input left held now within past = is_within journal_line_limit input past.lines past.left past.rest within past.gave past.why

-- ---- what the journal is decides

right_decides : (form : Form) (input : List ℕ) (left held now : Option (List ℕ)) (status : ℕ) → SaysReadBack form input left held now status → IsJobStatus status → (status ≡ 4 → ⊥) → (status ≡ 5 → ⊥)
    → HasRightJournal form input → (status ≡ 0) ⊎ (status ≡ 9)
right_decides form input left held now status says (is_done e) no_read no_write has = inl e
right_decides form input left held now status says (is_refused e) no_read no_write has = absurd (told_not_no_foreword form input has.words has.model has.what has.behind left held now has.text has.accepted has.before (says.refused e))
right_decides form input left held now status says (is_read e) no_read no_write has = absurd (no_read e)
right_decides form input left held now status says (is_write e) no_read no_write has = absurd (no_write e)
right_decides form input left held now status says (is_limit e) no_read no_write has = absurd (has.no_limit left held now (says.limit e))
right_decides form input left held now status says (is_full e) no_read no_write has = absurd (says.never_full e)
right_decides form input left held now status says (is_wrong e) no_read no_write has =
    let wrong = says.wrong e in
    absurd (right_and_wrong form input has.words wrong.words has.model wrong.model has.what wrong.what has.behind (wrong.behind ++ lines_of wrong.rest) has.log (entry_lines wrong.behind) (entry_lines (lines_of wrong.rest)) wrong.verdict
    has.text (taken_text form wrong.model input wrong.words wrong.what wrong.behind wrong.rest left wrong.read) has.accepted wrong.accepted
    has.before (taken_said form wrong.model input wrong.words wrong.what wrong.behind wrong.rest left wrong.read) has.journal
    (entries_append wrong.behind (lines_of wrong.rest)) (front_is wrong.model wrong.behind wrong.rest wrong.verdict wrong.wrong))
right_decides form input left held now status says (is_memory e) no_read no_write has = inr e

wrong_decides : (form : Form) (input : List ℕ) (left held now : Option (List ℕ)) (status : ℕ) → SaysReadBack form input left held now status → IsJobStatus status → (status ≡ 4 → ⊥) → (status ≡ 5 → ⊥)
    → HasWrongJournal form input → (status ≡ 8) ⊎ (status ≡ 9)
wrong_decides form input left held now status says (is_wrong e) no_read no_write has = inl e
wrong_decides form input left held now status says (is_refused e) no_read no_write has = absurd (told_not_no_foreword form input has.words has.model has.what has.behind left held now has.text has.accepted has.before (says.refused e))
wrong_decides form input left held now status says (is_read e) no_read no_write has = absurd (no_read e)
wrong_decides form input left held now status says (is_write e) no_read no_write has = absurd (no_write e)
wrong_decides form input left held now status says (is_limit e) no_read no_write has = absurd (has.no_limit left held now (says.limit e))
wrong_decides form input left held now status says (is_full e) no_read no_write has = absurd (says.never_full e)
wrong_decides form input left held now status says (is_done e) no_read no_write has =
    let right = says.done e in
    absurd (right_and_wrong form input right.words has.words right.model has.model right.what has.what right.behind has.behind right.log has.front has.more has.verdict
    (taken_text form right.model input right.words right.what right.behind [] left right.read) has.text right.accepted has.accepted
    (all_said form right.model input right.words right.what right.behind left right.read) has.before right.journal has.lines has.wrong)
wrong_decides form input left held now status says (is_memory e) no_read no_write has = inr e

pub decides : (form : Form) (input : List ℕ) (left held now : Option (List ℕ)) (status : ℕ) → SaysReadBack form input left held now status → IsJobStatus status → (status ≡ 4 → ⊥) → (status ≡ 5 → ⊥) → Decides form input status
decides form input left held now status says is no_read no_write = record {
  right = right_decides form input left held now status says is no_read no_write;
  wrong = wrong_decides form input left held now status says is no_read no_write;
}
