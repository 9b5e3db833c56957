-- The end of a reading of a journal, by the input's bytes.
use Rattle.std.proofs.Common.{◌≡◌, ℕ, ◌⊎◌, inl, inr, List, [], ◌∷◌, ◌++◌, Option, Some, None, Result, Ok, Err, refl, sym, ◌∙◌, ap, subst, arith}
use Rattle.std.specs.declared.vec.Vec.{Vec}
use Rattle.std.specs.declared.alloc.Global.{Global}
use Rattle.pl_io.specs.declared.errors.LineFault.{LineFault}
use Rattle.pl_io.specs.Lines.{ahead}
use Rattle.pl_io.specs.Reader.{Reader}
use Rattle.pl_model.specs.declared.whole.Model.{Model}
use Rattle.pl_input.specs.Words.{model_text_of}
use Rattle.pl_input.specs.declared.halt.Halt.{Halt}
use Rattle.pl_input.specs.declared.halt.Halt.TheVariants as halt
use Rattle.pl_input.specs.Reads.{GivesLines, ReadsLines, IsUsedUp}
use Rattle.pl_input.specs.Stops.{HaltFor, StopsBy}
use Rattle.pl_input.specs.Heads.{IsBegun, HasNoBegin, HeadHalts}
use Rattle.pl_journal.specs.Written.{Adds}
use Rattle.pl_input.proofs.Reading.{known}
use Rattle.pl_input.proofs.Beginning.{head_then}
use Rattle.pl_input.proofs.Stopping.{never_full, never_writes, read_leaves, limit_leaves, stops_by}
use Rattle.pl_replay.specs.declared.verdict.Verdict.{Verdict}
use Rattle.pl_replay.specs.Journals.{entry_lines, lines_from, IsWrongAtLast}
use Rattle.pl_replay.specs.Verifying.{EndsInEntry, IsNoJournal, Stops}
use Rattle.pl_main.specs.declared.form.Form.{Form}
use Rattle.pl_main.specs.declared.judgement.Judgement.{Judgement}
use Rattle.pl_main.specs.declared.judgement.Judgement.TheVariants as judged
use Rattle.pl_input.specs.Places.{Place, place_of}
use Rattle.pl_main.specs.Runs.{IsKeptModel, TextFails}
use Rattle.pl_main.specs.Top.{total_limit, fresh_reader, no_begin_line, ShowsNoLine, ShowsLimit, IsNoModel, faulty, IsReadTo}
use Rattle.pl_main.specs.Replays.{journal_line_limit, HasTaken, IsRightJournal, IsWrong, no_entry, wrong_last, IsWrongJournal, IsRightSoFar, IsJournalShort, of_right, of_wrong, of_refusal, ReadsBack, ReadsBackKnown, IsRefusedBy, by_line, by_end, IsNoForeword, IsRefused, no_model, no_foreword, in_foreword, in_journal}
use Rattle.pl_main.specs.Readings.{WritesAs, RightBehind, WrongBehind, ShortBehind, right_cut, wrong_cut, TextCut, refusal_cut, TextReads, ForewordFails, BehindStops, before_journal, in_journal_stops, BehindCut, foreword_cut, journal_behind_cut, TextRefused, text_fails, foreword_fails, behind_cut}
use Rattle.pl_main.specs.Forewords.{unended, tells, refuses, said_from, said_before, ForewordTells, ForewordRefuses, ForewordStops}
use Rattle.pl_main.proofs.Heading.{begins_at, begins_nowhere, shows_none, shows_limit, head_stopped, fresh_begun, fresh_nowhere, fresh_halts}
use Rattle.std.proofs.lemmas.Option.{same_Some}
use Rattle.std.specs.Prelude.{⊤}
use Rattle.pl_input.specs.Reads.{GivesLinesKnown}
use Rattle.pl_input.proofs.Reading.{halts_later}
use Rattle.pl_check.specs.Accepting.{IsModelText}
use Rattle.pl_input.proofs.Reading.{took_more, used_later}
use Rattle.pl_input.specs.Reads.{Halts}
use Rattle.pl_main.specs.declared.told.Told.{Told}
use Rattle.pl_main.proofs.OneInput.{text_goes_on}
use Rattle.pl_main.proofs.Prefacing.{head_said, tells_on}
use Rattle.pl_main.proofs.Replaying.{no_text}

abbrev Lines : Type 0
Lines = List (List ℕ)

abbrev fresh : Reader
fresh = fresh_reader journal_line_limit

-- ---- the lines that were taken, where the input's bytes are known

record IsAt (input : List ℕ) (lines : Lines) (place : Place) (source_left : Option (List ℕ)) : Type 0 where
  rest : List ℕ
  is : place.ahead ≡ Some rest
  gave : GivesLines journal_line_limit total_limit input lines place.reader.room rest
  source : IsReadTo rest source_left

at_place : (input : List ℕ) (lines : Lines) (place : Place) (source_left : Option (List ℕ)) → ReadsLines fresh (Some input) lines place.reader place.ahead → ahead place.reader.held source_left ≡ place.ahead → IsAt input lines place source_left
at_place input lines place source_left took behind =
    let k = known journal_line_limit total_limit journal_line_limit total_limit (Some input) input lines place.reader.room place.ahead refl refl refl took.gave in
    record { rest = k.rest; is = k.is; gave = k.gave; source = record { came = place.reader.held; few = took.few (omega arith); behind = behind ∙ k.is } }

-- all bytes were read
none_left : (input : List ℕ) (lines : Lines) (mid : ℕ) (middle after : Option (List ℕ)) (rest : List ℕ) → GivesLinesKnown journal_line_limit total_limit (Some input) lines mid middle → IsUsedUp middle after → after ≡ Some rest → rest ≡ []
none_left input lines mid middle after rest gave used is = same_Some rest [] (sym is ∙ used_later journal_line_limit total_limit (Some input) lines mid middle after gave used)

-- ---- what stands before the journal

-- The text of a model, and what is asked for before the journal.
record IsOpened (form : Form) (m : Model) (what : Told) (input : List ℕ) (middle : Place) : Type 0 where
  lines : Lines
  words : List ℕ
  took : ReadsLines fresh (Some input) lines middle.reader middle.ahead
  text : model_text_of lines ≡ Some words
  before : said_before form m lines ≡ tells what []
  accepted : IsModelText words m

-- what is said behind the model's text
said_behind : (form : Form) (m : Model) (kept : Option (Vec ℕ Global)) (start : Place) (input : List ℕ) (begun : IsBegun fresh (Some input) kept start.reader start.ahead) (lines : Lines)
    → said_before form m (begun.lines ++ lines) ≡ said_from form m start.reader.number lines
said_behind form m kept start input begun lines = head_said form m start.reader.number begun.lines lines begun.words begun.head (omega (arith, begun.took.number))

opened : (form : Form) (m : Model) (what : Told) (kept : Option (Vec ℕ Global)) (start middle : Place) (input : List ℕ)
    → IsBegun fresh (Some input) kept start.reader start.ahead → IsKeptModel kept m → ForewordTells form m start what middle → IsOpened form m what input middle
opened form m what kept start middle input begun text before = record {
  lines = begun.lines ++ before.lines;
  words = begun.words;
  took = took_more fresh start.reader middle.reader (Some input) start.ahead middle.ahead begun.lines before.lines begun.took before.took;
  text = (head_then begun.lines begun.words before.lines begun.head).0;
  before = said_behind form m kept start input begun before.lines ∙ before.says;
  accepted = text begun.words begun.keeps;
}

-- the lines of the journal that were taken
record Taken (form : Form) (m : Model) (what : Told) (input words : List ℕ) (lines : Lines) (place : Place) (source_left : Option (List ℕ)) : Type 0 where
  rest : List ℕ
  is : place.ahead ≡ Some rest
  taken : HasTaken form m input words what lines rest source_left

taken_behind : (form : Form) (m : Model) (what : Told) (input : List ℕ) (middle place : Place) (source_left : Option (List ℕ)) (lines : Lines)
    → (opening : IsOpened form m what input middle) → ReadsLines middle.reader middle.ahead lines place.reader place.ahead → ahead place.reader.held source_left ≡ place.ahead → Taken form m what input opening.words lines place source_left
taken_behind form m what input middle place source_left lines opening took behind =
    let stand = at_place input (opening.lines ++ lines) place source_left (took_more fresh middle.reader place.reader (Some input) middle.ahead place.ahead opening.lines lines opening.took took) behind in
    record {
      rest = stand.rest;
      is = stand.is;
      taken = record {
        lines = opening.lines ++ lines;
        left = place.reader.room;
        gave = stand.gave;
        text = text_goes_on opening.lines lines opening.words opening.text;
        behind = tells_on form m opening.lines lines [] opening.words what opening.text opening.before;
        source = stand.source;
      };
    }

-- ---- a journal

abbrev right_whole : (form : Form) (m : Model) (what : Told) (middle place : Place) (input : List ℕ) (source_left held now : Option (List ℕ))
    → IsOpened form m what input middle → RightBehind what m middle held place now → ahead place.reader.held source_left ≡ place.ahead → IsRightJournal form input source_left held now
right_whole form m what middle place input source_left held now opening right behind =
    let t = taken_behind form m what input middle place source_left right.lines opening right.took behind in
    let none : t.rest ≡ [] = none_left input opening.lines middle.reader.room middle.ahead place.ahead t.rest opening.took.gave right.used_up t.is in
    record {
      model = m;
      log = right.log;
      words = opening.words;
      what = what;
      behind = right.lines;
      accepted = opening.accepted;
      read = subst (λ (r : List ℕ). HasTaken form m input opening.words what right.lines r source_left) none t.taken;
      journal = right.journal;
      text = right.text;
      says = right.says;
      written = right.written;
    }

no_last : (xs : Lines) (x : List ℕ) → [] ≡ xs ++ x ∷ [] → ⊥
no_last [] x e = let h : [] ≡ x ∷ [] = e in (cc)
no_last (z ∷ xs) x e = let h : [] ≡ z ∷ (xs ++ x ∷ []) = e in (cc)

wrong_is : (m : Model) (before after : Option (List ℕ)) (lines : Lines) (v : Verdict) (rest : List ℕ) → (IsUsedUp before after → rest ≡ [])
    → IsNoJournal (entry_lines lines) v before after ⊎ IsWrongAtLast m (entry_lines lines) v → (entry_lines lines ≡ []) ⊎ EndsInEntry lines → IsWrong m lines rest v
wrong_is m before after lines v rest none_left (inl none) last = no_entry none.none (none_left none.used_up) none.verdict
wrong_is m before after lines v rest none_left (inr wrong) (inl none) = absurd (no_last (lines_from m 0 wrong.log) wrong.line (sym none ∙ wrong.shows))
wrong_is m before after lines v rest none_left (inr wrong) (inr ends) = wrong_last wrong ends

abbrev wrong_whole : (form : Form) (m : Model) (what : Told) (middle place : Place) (input : List ℕ) (source_left held now : Option (List ℕ))
    → IsOpened form m what input middle → WrongBehind m middle held place now → ahead place.reader.held source_left ≡ place.ahead → IsWrongJournal form input source_left held now
wrong_whole form m what middle place input source_left held now opening wrong behind =
    let t = taken_behind form m what input middle place source_left wrong.lines opening wrong.took behind in
    record {
      model = m;
      verdict = wrong.verdict;
      words = opening.words;
      what = what;
      behind = wrong.lines;
      rest = t.rest;
      accepted = opening.accepted;
      read = t.taken;
      wrong = wrong_is m middle.ahead place.ahead wrong.lines wrong.verdict t.rest (λ used. none_left input opening.lines middle.reader.room middle.ahead place.ahead t.rest opening.took.gave used t.is) wrong.wrong wrong.no_further;
      written = wrong.written;
    }

-- ---- a line that is not given

record IsStopped (e : Halt) (form : Form) (input : List ℕ) (source_left : Option (List ℕ)) : Type 0 where
  lines : Lines
  left : ℕ
  rest : List ℕ
  gave : GivesLines journal_line_limit total_limit input lines left rest
  why : StopsBy e journal_line_limit left (Some rest)
  source : e ≡ halt.Read → ShowsNoLine journal_line_limit left rest source_left
  past : e ≡ halt.Limit → ShowsLimit journal_line_limit left rest source_left
  asked : (model_text_of lines ≡ None) ⊎ IsRightSoFar form lines

halted : (e : Halt) (form : Form) (input : List ℕ) (source_left : Option (List ℕ)) (lines : Lines) (place : Place) (f : LineFault)
    → Halts fresh (Some input) lines f place.reader place.ahead → HaltFor f e → ahead place.reader.held source_left ≡ place.ahead → (model_text_of lines ≡ None) ⊎ IsRightSoFar form lines → IsStopped e form input source_left
halted e form input source_left lines place f halts is behind asked =
    let k = known journal_line_limit total_limit journal_line_limit total_limit (Some input) input lines halts.left halts.rest refl refl refl halts.gave in
    record {
      lines = lines;
      left = halts.left;
      rest = k.rest;
      gave = k.gave;
      why = subst (λ (r : Option (List ℕ)). StopsBy e journal_line_limit halts.left r) k.is (stops_by e journal_line_limit halts.left halts.rest f is halts.why);
      source = λ read.
          shows_none journal_line_limit halts.left halts.rest k.rest place.reader.held place.ahead source_left
          (read_leaves fresh place.reader (Some input) place.ahead lines f halts (subst (λ (h : Halt). HaltFor f h) read is)) k.is behind;
      past = λ over.
          shows_limit journal_line_limit halts.left halts.rest k.rest place.reader.held place.ahead source_left
          (limit_leaves fresh place.reader (Some input) place.ahead lines f halts (subst (λ (h : Halt). HaltFor f h) over is) (omega arith)) k.is behind;
      asked = asked;
    }

-- in the journal
journal_stopped : (e : Halt) (form : Form) (m : Model) (what : Told) (middle place : Place) (input : List ℕ) (source_left : Option (List ℕ)) (f : LineFault)
    → IsOpened form m what input middle → Stops m middle.reader middle.ahead f place.reader place.ahead → HaltFor f e → ahead place.reader.held source_left ≡ place.ahead → IsStopped e form input source_left
journal_stopped e form m what middle place input source_left f opening stops is behind =
    halted e form input source_left (opening.lines ++ stops.lines) place f (halts_later fresh middle.reader place.reader (Some input) middle.ahead place.ahead opening.lines stops.lines f opening.took stops.halts) is behind
    (inr (record {
      model = m;
      words = opening.words;
      text = text_goes_on opening.lines stops.lines opening.words opening.text;
      accepted = opening.accepted;
      right = in_journal what stops.lines stops.log (tells_on form m opening.lines stops.lines [] opening.words what opening.text opening.before) stops.right stops.entries;
    }))

-- before the journal
foreword_stopped : (e : Halt) (form : Form) (m : Model) (kept : Option (Vec ℕ Global)) (start place : Place) (input : List ℕ) (source_left : Option (List ℕ))
    → IsBegun fresh (Some input) kept start.reader start.ahead → IsKeptModel kept m → ForewordStops e form m start place → ahead place.reader.held source_left ≡ place.ahead → IsStopped e form input source_left
foreword_stopped e form m kept start place input source_left begun text stops behind =
    halted e form input source_left (begun.lines ++ stops.lines) place stops.reason
    (halts_later fresh start.reader place.reader (Some input) start.ahead place.ahead begun.lines stops.lines stops.reason begun.took stops.halts) stops.stops behind
    (inr (record {
      model = m;
      words = begun.words;
      text = (head_then begun.lines begun.words stops.lines begun.head).0;
      accepted = text begun.words begun.keeps;
      right = in_foreword stops.text (said_behind form m kept start input begun stops.lines ∙ stops.says);
    }))

-- a line is not given because a read failed or a limit was passed
abbrev StopsIn : Halt → Type 0
StopsIn halt.Limit = ⊤
StopsIn halt.Read = ⊤
StopsIn halt.Full = ⊥
StopsIn halt.Write = ⊥
StopsIn halt.Memory = ⊥

behind_stopped : (e : Halt) (form : Form) (m : Model) (kept : Option (Vec ℕ Global)) (start place : Place) (input : List ℕ) (source_left held now : Option (List ℕ)) → StopsIn e
    → IsBegun fresh (Some input) kept start.reader start.ahead → IsKeptModel kept m → BehindStops e form m start held place now → ahead place.reader.held source_left ≡ place.ahead → IsStopped e form input source_left × (now ≡ held)
behind_stopped e form m kept start place input source_left held now by begun text (before_journal stops silent) behind = (foreword_stopped e form m kept start place input source_left begun text stops behind, silent)
behind_stopped halt.Limit form m kept start place input source_left held now by begun text (in_journal_stops read) behind =
    (journal_stopped halt.Limit form m read.what read.middle place input source_left read.reads.reason (opened form m read.what kept start read.middle input begun text read.before) read.reads.stops read.reads.halts behind, read.reads.silent)
behind_stopped halt.Read form m kept start place input source_left held now by begun text (in_journal_stops read) behind =
    (journal_stopped halt.Read form m read.what read.middle place input source_left read.reads.reason (opened form m read.what kept start read.middle input begun text read.before) read.reads.stops read.reads.halts behind, read.reads.silent)
behind_stopped halt.Full form m kept start place input source_left held now by begun text (in_journal_stops read) behind = absurd by
behind_stopped halt.Write form m kept start place input source_left held now by begun text (in_journal_stops read) behind = absurd by
behind_stopped halt.Memory form m kept start place input source_left held now by begun text (in_journal_stops read) behind = absurd by

-- ---- what is refused

refused_by : (form : Form) (m : Model) (kept : Option (Vec ℕ Global)) (start place : Place) (input : List ℕ) (rest line : List ℕ) (begun : IsBegun fresh (Some input) kept start.reader start.ahead) (before : ForewordRefuses form m start line place)
    → place.ahead ≡ Some rest → (said_from form m start.reader.number before.lines ≡ refuses line []) ⊎ ((said_from form m start.reader.number before.lines ≡ unended line) × IsUsedUp start.ahead place.ahead)
    → IsRefusedBy form m (begun.lines ++ before.lines) rest line
refused_by form m kept start place input rest line begun before is (inl says) = by_line (said_behind form m kept start input begun before.lines ∙ says)
refused_by form m kept start place input rest line begun before is (inr ends) =
    by_end (said_behind form m kept start input begun before.lines ∙ ends.0) (none_left input begun.lines start.reader.room start.ahead place.ahead rest begun.took.gave ends.1 is)

abbrev foreword_whole : (form : Form) (m : Model) (kept : Option (Vec ℕ Global)) (start place : Place) (input : List ℕ) (source_left held now : Option (List ℕ))
    → IsBegun fresh (Some input) kept start.reader start.ahead → IsKeptModel kept m → ForewordFails form m start held place now → ahead place.reader.held source_left ≡ place.ahead → IsNoForeword form input source_left held now
foreword_whole form m kept start place input source_left held now begun text fails behind =
    let stand = at_place input (begun.lines ++ fails.before.lines) place source_left (took_more fresh start.reader place.reader (Some input) start.ahead place.ahead begun.lines fails.before.lines begun.took fails.before.took) behind in
    record {
      model = m;
      words = begun.words;
      lines = begun.lines ++ fails.before.lines;
      left = place.reader.room;
      rest = stand.rest;
      line = fails.line;
      gave = stand.gave;
      text = (head_then begun.lines begun.words fails.before.lines begun.head).0;
      accepted = text begun.words begun.keeps;
      refused = refused_by form m kept start place input stand.rest fails.line begun fails.before stand.is fails.before.says;
      source = stand.source;
      written = fails.written;
    }

-- a text that is refused, behind which no line was asked for
refused_whole : (kept : Option (Vec ℕ Global)) (start place : Place) (input : List ℕ) (source_left held now : Option (List ℕ))
    → IsBegun fresh (Some input) kept start.reader start.ahead → (fails : TextFails kept None None) → Adds held now fails.line → place ≡ start → ahead place.reader.held source_left ≡ place.ahead
    → IsNoModel journal_line_limit input source_left held now
refused_whole kept start place input source_left held now begun fails adds same behind =
    faulty begun.words fails.line (begins_at journal_line_limit kept start.reader input start.ahead source_left begun (subst (λ (p : Place). ahead p.reader.held source_left ≡ p.ahead) same behind)) (fails.refused begun.words begun.keeps) adds

text_refused : (form : Form) (kept : Option (Vec ℕ Global)) (start place : Place) (input : List ℕ) (source_left held now : Option (List ℕ))
    → IsBegun fresh (Some input) kept start.reader start.ahead → TextRefused form kept start held place now → ahead place.reader.held source_left ≡ place.ahead → IsRefused form input source_left held now
text_refused form kept start place input source_left held now begun (text_fails fails same) behind =
    no_model (refused_whole kept start place input source_left held now begun (record { line = fails.line; refused = fails.refused; written = no_text fails.line }) fails.written same behind)
text_refused form kept start place input source_left held now begun (foreword_fails read) behind = no_foreword (foreword_whole form read.model kept start place input source_left held now begun read.text read.reads behind)

-- ---- a write that failed

short_whole : (form : Form) (m : Model) (what : Told) (middle place : Place) (input : List ℕ) (source_left held now : Option (List ℕ))
    → IsOpened form m what input middle → ShortBehind what m middle held place now → ahead place.reader.held source_left ≡ place.ahead → IsJournalShort form input source_left held now
short_whole form m what middle place input source_left held now opening (right_cut right front) behind = of_right (right_whole form m what middle place input source_left None None opening right behind) front
short_whole form m what middle place input source_left held now opening (wrong_cut wrong front) behind = of_wrong (wrong_whole form m what middle place input source_left None None opening wrong behind) front

behind_short : (form : Form) (m : Model) (kept : Option (Vec ℕ Global)) (start place : Place) (input : List ℕ) (source_left held now : Option (List ℕ))
    → IsBegun fresh (Some input) kept start.reader start.ahead → IsKeptModel kept m → BehindCut form m start held place now → ahead place.reader.held source_left ≡ place.ahead → IsJournalShort form input source_left held now
behind_short form m kept start place input source_left held now begun text (foreword_cut fails front) behind =
    of_refusal fails.line (no_foreword (foreword_whole form m kept start place input source_left (Some []) (Some fails.line) begun text (record { line = fails.line; before = fails.before; written = refl }) behind)) front
behind_short form m kept start place input source_left held now begun text (journal_behind_cut read) behind =
    short_whole form m read.what read.middle place input source_left held now (opened form m read.what kept start read.middle input begun text read.before) read.reads behind

cut_whole : (form : Form) (kept : Option (Vec ℕ Global)) (start place : Place) (input : List ℕ) (source_left held now : Option (List ℕ))
    → IsBegun fresh (Some input) kept start.reader start.ahead → TextCut form kept start held place now → ahead place.reader.held source_left ≡ place.ahead
    → IsJournalShort form input source_left held now
cut_whole form kept start place input source_left held now begun (behind_cut text) behind = behind_short form text.model kept start place input source_left held now begun text.text text.reads behind
cut_whole form kept start place input source_left held now begun (refusal_cut fails front same) behind =
    of_refusal fails.line (no_model (refused_whole kept start place input source_left (Some []) (Some fails.line) begun fails refl same behind)) front

-- ---- the whole, where the text begins

begun_known : (form : Form) (kept : Option (Vec ℕ Global)) (start place : Place) (input : List ℕ) (source_left held now : Option (List ℕ)) (r : Result Judgement Halt)
    → IsBegun fresh (Some input) kept start.reader start.ahead → TextReads form kept start held r place now → ahead place.reader.held source_left ≡ place.ahead
    → ReadsBack form input source_left held now r
begun_known form kept start place input source_left held now (Ok judged.Right) begun text behind =
    let read = text.reads in
    right_whole form text.model read.what read.middle place input source_left held now (opened form text.model read.what kept start read.middle input begun text.text read.before) read.reads behind
begun_known form kept start place input source_left held now (Ok judged.Wrong) begun text behind =
    let read = text.reads in
    wrong_whole form text.model read.what read.middle place input source_left held now (opened form text.model read.what kept start read.middle input begun text.text read.before) read.reads behind
begun_known form kept start place input source_left held now (Ok judged.Refused) begun text behind = text_refused form kept start place input source_left held now begun text behind
begun_known form kept start place input source_left held now (Err halt.Limit) begun text behind =
    let both = behind_stopped halt.Limit form text.model kept start place input source_left held now tt begun text.text text.reads behind in
    let s = both.0 in
    record { lines = s.lines; left = s.left; rest = s.rest; gave = s.gave; why = s.why; source = s.past refl; asked = s.asked; silent = both.1 }
begun_known form kept start place input source_left held now (Err halt.Full) begun text behind = absurd text
begun_known form kept start place input source_left held now (Err halt.Read) begun text behind =
    let both = behind_stopped halt.Read form text.model kept start place input source_left held now tt begun text.text text.reads behind in
    let s = both.0 in
    record { lines = s.lines; left = s.left; rest = s.rest; gave = s.gave; source = s.source refl; asked = s.asked; silent = both.1 }
begun_known form kept start place input source_left held now (Err halt.Write) begun text behind = cut_whole form kept start place input source_left held now begun text behind
begun_known form kept start place input source_left held now (Err halt.Memory) begun text behind = text

begun_ran : (form : Form) (kept : Option (Vec ℕ Global)) (start place : Place) (input source_left held now : Option (List ℕ)) (r : Result Judgement Halt)
    → IsBegun fresh input kept start.reader start.ahead → TextReads form kept start held r place now → ahead place.reader.held source_left ≡ place.ahead
    → ReadsBackKnown form input source_left held now r
begun_ran form kept start place None source_left held now r begun text behind = tt
begun_ran form kept start place (Some input) source_left held now r begun text behind = begun_known form kept start place input source_left held now r begun text behind

pub begun_reads : (form : Form) (old : Reader) (kept : Option (Vec ℕ Global)) (new last : Reader) (left after source_left held now : Option (List ℕ)) (r : Result Judgement Halt) → old ≡ fresh_reader journal_line_limit
    → IsBegun old (ahead old.held left) kept new (ahead new.held after) → TextReads form kept (place_of new after) held r (place_of last source_left) now → ReadsBackKnown form left source_left held now r
begun_reads form old kept new last left after source_left held now r is begun text =
    begun_ran form kept (place_of new after) (place_of last source_left) left source_left held now r (fresh_begun journal_line_limit old kept new left (ahead new.held after) is begun) text refl

-- the text that was kept stands within the reader's limits
pub begun_limit : (old : Reader) (before : Option (List ℕ)) (kept : Option (Vec ℕ Global)) (new : Reader) (after : Option (List ℕ)) → old ≡ fresh_reader journal_line_limit → IsBegun old before kept new after → new.limit ≡ 4160
begun_limit old before kept new after is begun = begun.took.limit ∙ ap (λ (r : Reader). r.limit) is

-- ---- where it does not

no_begin_known : (form : Form) (new : Reader) (input : List ℕ) (source_left held now : Option (List ℕ)) (r : Result Judgement Halt)
    → HasNoBegin (fresh_reader journal_line_limit) (Some input) new (ahead new.held source_left) → WritesAs judged.Refused no_begin_line held r now → ReadsBack form input source_left held now r
no_begin_known form new input source_left held now (Ok judged.Refused) head writes = no_model (begins_nowhere journal_line_limit new input (ahead new.held source_left) source_left held now head refl writes.1)
no_begin_known form new input source_left held now (Ok judged.Right) head writes = absurd (let h : judged.Right ≡ judged.Refused = writes.0 in (cc))
no_begin_known form new input source_left held now (Ok judged.Wrong) head writes = absurd (let h : judged.Wrong ≡ judged.Refused = writes.0 in (cc))
no_begin_known form new input source_left held now (Err halt.Limit) head writes = absurd writes
no_begin_known form new input source_left held now (Err halt.Full) head writes = absurd writes
no_begin_known form new input source_left held now (Err halt.Read) head writes = absurd writes
no_begin_known form new input source_left held now (Err halt.Write) head writes =
    of_refusal no_begin_line (no_model (begins_nowhere journal_line_limit new input (ahead new.held source_left) source_left (Some []) (Some no_begin_line) head refl refl)) writes
no_begin_known form new input source_left held now (Err halt.Memory) head writes = writes

no_begin_ran : (form : Form) (new : Reader) (input source_left held now : Option (List ℕ)) (r : Result Judgement Halt)
    → HasNoBegin (fresh_reader journal_line_limit) input new (ahead new.held source_left) → WritesAs judged.Refused no_begin_line held r now → ReadsBackKnown form input source_left held now r
no_begin_ran form new None source_left held now r head writes = tt
no_begin_ran form new (Some input) source_left held now r head writes = no_begin_known form new input source_left held now r head writes

pub refused_reads : (form : Form) (old new : Reader) (left source_left held now : Option (List ℕ)) (r : Result Judgement Halt) → old ≡ fresh_reader journal_line_limit
    → HasNoBegin old (ahead old.held left) new (ahead new.held source_left) → WritesAs judged.Refused no_begin_line held r now → ReadsBackKnown form left source_left held now r
refused_reads form old new left source_left held now r is head writes =
    no_begin_ran form new left source_left held now r (fresh_nowhere journal_line_limit old new left (ahead new.held source_left) is head) writes

-- ---- where the reader stops

head_known : (form : Form) (new : Reader) (input : List ℕ) (source_left held : Option (List ℕ)) (f : LineFault) (e : Halt) → HeadHalts (fresh_reader journal_line_limit) (Some input) f new (ahead new.held source_left) → HaltFor f e
    → ReadsBack form input source_left held held (Err e)
head_known form new input source_left held f halt.Limit head is =
    let s = head_stopped journal_line_limit new input source_left f halt.Limit head is in
    record { lines = s.lines; left = s.left; rest = s.rest; gave = s.gave; why = s.why; source = s.past refl; asked = inl s.none; silent = refl }
head_known form new input source_left held f halt.Full head is = absurd (never_full f is)
head_known form new input source_left held f halt.Read head is =
    let s = head_stopped journal_line_limit new input source_left f halt.Read head is in
    record { lines = s.lines; left = s.left; rest = s.rest; gave = s.gave; source = s.source refl; asked = inl s.none; silent = refl }
head_known form new input source_left held f halt.Write head is = absurd (never_writes f is)
head_known form new input source_left held f halt.Memory head is = refl

head_ran : (form : Form) (new : Reader) (input source_left held : Option (List ℕ)) (f : LineFault) (e : Halt) → HeadHalts (fresh_reader journal_line_limit) input f new (ahead new.held source_left) → HaltFor f e → ReadsBackKnown form input source_left held held (Err e)
head_ran form new None source_left held f e head is = tt
head_ran form new (Some input) source_left held f e head is = head_known form new input source_left held f e head is

pub head_reads : (form : Form) (old new : Reader) (left source_left held : Option (List ℕ)) (f : LineFault) (e : Halt) → old ≡ fresh_reader journal_line_limit → HeadHalts old (ahead old.held left) f new (ahead new.held source_left) → HaltFor f e
    → ReadsBackKnown form left source_left held held (Err e)
head_reads form old new left source_left held f e is head halts = head_ran form new left source_left held f e (fresh_halts journal_line_limit old new left (ahead new.held source_left) f is head) halts
