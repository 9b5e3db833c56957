-- The end of a reading of a journal.
use Rattle.std.proofs.Common.{◌≡◌, ℕ, ◌⊎◌, List, [], length, Bool, false, Option, Some, None, IfSome, Result, Ok, Err, refl, sym, ◌∙◌, ap, subst}
use Rattle.std.specs.declared.vec.Vec.{Vec}
use Rattle.std.specs.declared.alloc.Global.{Global}
use Rattle.pl_io.specs.declared.errors.LineFault.{LineFault}
use Rattle.pl_io.specs.Reader.{Reader}
use Rattle.pl_io.specs.Writes.{AppendsFront}
use Rattle.pl_model.specs.declared.whole.Model.{Model}
use Rattle.pl_machine.specs.World.{World}
use Rattle.pl_machine.specs.Legal.{world_of}
use Rattle.pl_machine.specs.Sound.{State}
use Rattle.pl_check.specs.declared.accepting.Accepted.TheVariants as accepted
use Rattle.pl_input.specs.declared.halt.Halt.{Halt}
use Rattle.pl_input.specs.declared.halt.Halt.TheVariants as halt
use Rattle.pl_input.specs.Reads.{ReadsLines}
use Rattle.pl_input.specs.Stops.{HaltFor}
use Rattle.pl_journal.specs.Written.{Adds}
use Rattle.pl_input.proofs.Stopping.{never_full, never_writes}
use Rattle.pl_replay.specs.declared.verdict.Verdict.{Verdict}
use Rattle.pl_replay.specs.declared.verdict.Verdict.TheVariants as verdict
use Rattle.pl_replay.specs.Journals.{entry_lines, IsWrongAtLast}
use Rattle.pl_replay.specs.Verifying.{EndsInEntry, IsNoJournal, IsLegalJournal, Verified, Stops}
use Rattle.pl_report.specs.Verdicts.{verdict_line}
use Rattle.pl_main.specs.declared.form.Form.{Form}
use Rattle.pl_main.specs.declared.judgement.Judgement.{Judgement}
use Rattle.pl_main.specs.declared.judgement.Judgement.TheVariants as judged
use Rattle.pl_input.specs.Places.{Place}
use Rattle.pl_main.specs.Runs.{AcceptsKept}
use Rattle.pl_main.specs.Replays.{state_of, IsTextOf}
use Rattle.pl_main.specs.Readings.{WritesAs, WritesRight, WritesJudged, RightBehind, right_cut, wrong_cut, ModelReads, refusal_cut, TextReads, before_journal, in_journal_stops, foreword_cut, journal_behind_cut, BehindReads, text_fails, foreword_fails, behind_cut}
use Rattle.pl_main.specs.Forewords.{FitsTold, ForewordTells, ForewordRefuses, ForewordReads}
use Rattle.pl_main.specs.declared.told.Told.{Told}

-- ---- what is written

pub put_stops : (judgement : Judgement) (text : List ℕ) (held now : Option (List ℕ)) (e : Halt) → e ≡ halt.Write → AppendsFront held now text → WritesAs judgement text held (Err e) now
put_stops judgement text held now e is front = subst (λ (h : Halt). WritesAs judgement text held (Err h) now) (sym is) front

pub no_memory : (judgement : Judgement) (text : List ℕ) (held now : Option (List ℕ)) (e : Halt) → e ≡ halt.Memory → now ≡ held → WritesAs judgement text held (Err e) now
no_memory judgement text held now e is same = subst (λ (h : Halt). WritesAs judgement text held (Err h) now) (sym is) same

pub no_memory_right : (what : Told) (s : State) (held now : Option (List ℕ)) (e : Halt) → e ≡ halt.Memory → now ≡ held → WritesRight what s held (Err e) now
no_memory_right what s held now e is same = subst (λ (h : Halt). WritesRight what s held (Err h) now) (sym is) same

pub right_written : (what : Told) (s : State) (text : List ℕ) (held : Option (List ℕ)) (r : Result Judgement Halt) (now : Option (List ℕ)) → IsTextOf what s text → WritesAs judged.Right text held r now → WritesRight what s held r now
right_written what s text held (Ok given) now says writes = (writes.0, (text, says, writes.1))
right_written what s text held (Err halt.Limit) now says writes = absurd writes
right_written what s text held (Err halt.Full) now says writes = absurd writes
right_written what s text held (Err halt.Read) now says writes = absurd writes
right_written what s text held (Err halt.Memory) now says writes = writes
right_written what s text held (Err halt.Write) now says writes = (text, says, writes)

-- ---- a journal over a model

-- a machine that stands behind a log
machine_is : (m : Model) (s : State) → s.spoiled ≡ false → s.model ≡ m → s.world ≡ world_of m s.log → s ≡ state_of m s.log
machine_is m s unspoiled model world =
    ap (λ (b : Bool). record { spoiled = b; model = s.model; log = s.log; world = s.world }) unspoiled
    ∙ ap (λ (n : Model). record { spoiled = false; model = n; log = s.log; world = s.world }) model
    ∙ ap (λ (w : World). record { spoiled = false; model = m; log = s.log; world = w }) world

abbrev right_behind : (what : Told) (m : Model) (start : Place) (held : Option (List ℕ)) (place : Place) (now : Option (List ℕ)) (v : Verdict) (lines : List (List ℕ)) (s : State)
    → ReadsLines start.reader start.ahead lines place.reader place.ahead → IsLegalJournal m (entry_lines lines) v s start.ahead place.ahead → (text : List ℕ) → IsTextOf what s text → Adds held now text → RightBehind what m start held place now
right_behind what m start held place now v lines s took legal text says adds = record {
  lines = lines;
  log = s.log;
  took = took;
  journal = legal.journal;
  used_up = legal.used_up;
  text = text;
  says = subst (λ (x : State). IsTextOf what x text) (machine_is m s legal.unspoiled legal.model legal.world) says;
  written = adds;
}

pub no_text : (text : List ℕ) → Adds None None text
no_text text = tt

right_ends : (what : Told) (m : Model) (start : Place) (held : Option (List ℕ)) (place : Place) (now : Option (List ℕ)) (v : Verdict) (lines : List (List ℕ)) (s : State) (r : Result Judgement Halt)
    → ReadsLines start.reader start.ahead lines place.reader place.ahead → IsLegalJournal m (entry_lines lines) v s start.ahead place.ahead → WritesRight what s held r now → ModelReads what m start held r place now
right_ends what m start held place now v lines s (Ok judged.Right) took legal (is, (text, says, adds)) = right_behind what m start held place now v lines s took legal text says adds
right_ends what m start held place now v lines s (Ok judged.Wrong) took legal writes = absurd (let h : judged.Wrong ≡ judged.Right = writes.0 in (cc))
right_ends what m start held place now v lines s (Ok judged.Refused) took legal writes = absurd (let h : judged.Refused ≡ judged.Right = writes.0 in (cc))
right_ends what m start held place now v lines s (Err halt.Limit) took legal writes = absurd writes
right_ends what m start held place now v lines s (Err halt.Full) took legal writes = absurd writes
right_ends what m start held place now v lines s (Err halt.Read) took legal writes = absurd writes
right_ends what m start held place now v lines s (Err halt.Memory) took legal writes = writes
right_ends what m start held place now v lines s (Err halt.Write) took legal (text, says, front) =
    right_cut (right_behind what m start None place None v lines s took legal text says (no_text text)) front

wrong_ends : (what : Told) (m : Model) (start : Place) (held : Option (List ℕ)) (place : Place) (now : Option (List ℕ)) (v : Verdict) (lines : List (List ℕ)) (r : Result Judgement Halt)
    → ReadsLines start.reader start.ahead lines place.reader place.ahead → IsNoJournal (entry_lines lines) v start.ahead place.ahead ⊎ IsWrongAtLast m (entry_lines lines) v → (entry_lines lines ≡ []) ⊎ EndsInEntry lines
    → WritesAs judged.Wrong (verdict_line m v) held r now → ModelReads what m start held r place now
wrong_ends what m start held place now v lines (Ok judged.Wrong) took wrong last writes = record { lines = lines; verdict = v; took = took; wrong = wrong; no_further = last; written = writes.1 }
wrong_ends what m start held place now v lines (Ok judged.Right) took wrong last writes = absurd (let h : judged.Right ≡ judged.Wrong = writes.0 in (cc))
wrong_ends what m start held place now v lines (Ok judged.Refused) took wrong last writes = absurd (let h : judged.Refused ≡ judged.Wrong = writes.0 in (cc))
wrong_ends what m start held place now v lines (Err halt.Limit) took wrong last writes = absurd writes
wrong_ends what m start held place now v lines (Err halt.Full) took wrong last writes = absurd writes
wrong_ends what m start held place now v lines (Err halt.Read) took wrong last writes = absurd writes
wrong_ends what m start held place now v lines (Err halt.Memory) took wrong last writes = writes
wrong_ends what m start held place now v lines (Err halt.Write) took wrong last writes =
    wrong_cut (record { lines = lines; verdict = v; took = took; wrong = wrong; no_further = last; written = no_text (verdict_line m v) }) writes

-- what was written of a journal that was judged
pub judged_ends : (what : Told) (m : Model) (start : Place) (held : Option (List ℕ)) (place : Place) (now : Option (List ℕ)) (v : Verdict) (machine : Option State) (r : Result Judgement Halt)
    → Verified m start.reader start.ahead v machine place.reader place.ahead → WritesJudged what m v machine held r now → ModelReads what m start held r place now
judged_ends what m start held place now v (Some s) r verified writes = right_ends what m start held place now v verified.lines s r verified.took verified.judged writes
judged_ends what m start held place now v None r verified writes = wrong_ends what m start held place now v verified.lines r verified.took verified.judged verified.no_further writes

-- the machine behind a legal journal, and the verdict on it
pub machine_unspoiled : (m : Model) (old new : Reader) (before after : Option (List ℕ)) (v : Verdict) (machine : Option State) → Verified m old before v machine new after → IfSome machine (λ s. s.spoiled ≡ false)
machine_unspoiled m old new before after v None verified = tt
machine_unspoiled m old new before after v (Some s) verified = verified.judged.unspoiled

pub machine_verdict : (m : Model) (old new : Reader) (before after : Option (List ℕ)) (v : Verdict) (machine : Option State) → Verified m old before v machine new after → IfSome machine (λ s. v ≡ verdict.Legal (length s.log) s.world.done)
machine_verdict m old new before after v None verified = tt
machine_verdict m old new before after v (Some s) verified = verified.judged.verdict

-- what is to be told of the journal fits the machine's model
pub machine_fits : (what : Told) (m : Model) (old new : Reader) (before after : Option (List ℕ)) (v : Verdict) (machine : Option State) → FitsTold m what → Verified m old before v machine new after → IfSome machine (λ s. FitsTold s.model what)
machine_fits what m old new before after v None fits verified = tt
machine_fits what m old new before after v (Some s) fits verified = subst (λ (n : Model). FitsTold n what) (sym verified.judged.model) fits

pub journal_stops : (what : Told) (m : Model) (start place : Place) (held : Option (List ℕ)) (f : LineFault) (e : Halt) → Stops m start.reader start.ahead f place.reader place.ahead → HaltFor f e → ModelReads what m start held (Err e) place held
journal_stops what m start place held f halt.Limit stops is = record { reason = f; stops = stops; halts = is; silent = refl }
journal_stops what m start place held f halt.Read stops is = record { reason = f; stops = stops; halts = is; silent = refl }
journal_stops what m start place held f halt.Full stops is = absurd (never_full f is)
journal_stops what m start place held f halt.Write stops is = absurd (never_writes f is)
journal_stops what m start place held f halt.Memory stops is = refl

-- ---- what stands before a journal, and then the journal

pub foreword_stops : (form : Form) (m : Model) (start place : Place) (held : Option (List ℕ)) (e : Halt) → ForewordReads form m start (Err e) place → BehindReads form m start held (Err e) place held
foreword_stops form m start place held halt.Limit stops = before_journal stops refl
foreword_stops form m start place held halt.Read stops = before_journal stops refl
foreword_stops form m start place held halt.Full stops = absurd stops
foreword_stops form m start place held halt.Write stops = absurd stops
foreword_stops form m start place held halt.Memory stops = refl

pub foreword_refuses : (form : Form) (m : Model) (start place : Place) (held now : Option (List ℕ)) (line : List ℕ) (r : Result Judgement Halt) → ForewordRefuses form m start line place → WritesAs judged.Refused line held r now → BehindReads form m start held r place now
foreword_refuses form m start place held now line (Ok judged.Refused) before writes = record { line = line; before = before; written = writes.1 }
foreword_refuses form m start place held now line (Ok judged.Right) before writes = absurd (let h : judged.Right ≡ judged.Refused = writes.0 in (cc))
foreword_refuses form m start place held now line (Ok judged.Wrong) before writes = absurd (let h : judged.Wrong ≡ judged.Refused = writes.0 in (cc))
foreword_refuses form m start place held now line (Err halt.Limit) before writes = absurd writes
foreword_refuses form m start place held now line (Err halt.Full) before writes = absurd writes
foreword_refuses form m start place held now line (Err halt.Read) before writes = absurd writes
foreword_refuses form m start place held now line (Err halt.Write) before writes = foreword_cut (record { line = line; before = before; written = no_text line }) writes
foreword_refuses form m start place held now line (Err halt.Memory) before writes = writes

pub foreword_tells : (form : Form) (m : Model) (start middle place : Place) (held now : Option (List ℕ)) (what : Told) (r : Result Judgement Halt) → ForewordTells form m start what middle → ModelReads what m middle held r place now → BehindReads form m start held r place now
foreword_tells form m start middle place held now what (Ok judged.Right) before reads = record { what = what; middle = middle; before = before; reads = reads }
foreword_tells form m start middle place held now what (Ok judged.Wrong) before reads = record { what = what; middle = middle; before = before; reads = reads }
foreword_tells form m start middle place held now what (Ok judged.Refused) before reads = absurd reads
foreword_tells form m start middle place held now what (Err halt.Limit) before reads = in_journal_stops (record { what = what; middle = middle; before = before; reads = reads })
foreword_tells form m start middle place held now what (Err halt.Full) before reads = absurd reads
foreword_tells form m start middle place held now what (Err halt.Read) before reads = in_journal_stops (record { what = what; middle = middle; before = before; reads = reads })
foreword_tells form m start middle place held now what (Err halt.Write) before reads = journal_behind_cut (record { what = what; middle = middle; before = before; reads = reads })
foreword_tells form m start middle place held now what (Err halt.Memory) before reads = reads

-- ---- all this over a text

pub text_not_read : (form : Form) (kept : Option (Vec ℕ Global)) (start : Place) (held now : Option (List ℕ)) (line : List ℕ) (r : Result Judgement Halt)
    → AcceptsKept kept (accepted.Refused line) → WritesAs judged.Refused line held r now → TextReads form kept start held r start now
text_not_read form kept start held now line (Ok judged.Refused) text writes = text_fails (record { line = line; refused = text; written = writes.1 }) refl
text_not_read form kept start held now line (Ok judged.Right) text writes = absurd (let h : judged.Right ≡ judged.Refused = writes.0 in (cc))
text_not_read form kept start held now line (Ok judged.Wrong) text writes = absurd (let h : judged.Wrong ≡ judged.Refused = writes.0 in (cc))
text_not_read form kept start held now line (Err halt.Limit) text writes = absurd writes
text_not_read form kept start held now line (Err halt.Full) text writes = absurd writes
text_not_read form kept start held now line (Err halt.Read) text writes = absurd writes
text_not_read form kept start held now line (Err halt.Write) text writes = refusal_cut (record { line = line; refused = text; written = no_text line }) writes refl
text_not_read form kept start held now line (Err halt.Memory) text writes = writes

pub text_read : (form : Form) (kept : Option (Vec ℕ Global)) (start place : Place) (held now : Option (List ℕ)) (m : Model) (r : Result Judgement Halt)
    → AcceptsKept kept (accepted.Model m) → BehindReads form m start held r place now → TextReads form kept start held r place now
text_read form kept start place held now m (Ok judged.Right) text reads = record { model = m; text = text; reads = reads }
text_read form kept start place held now m (Ok judged.Wrong) text reads = record { model = m; text = text; reads = reads }
text_read form kept start place held now m (Ok judged.Refused) text reads = foreword_fails (record { model = m; text = text; reads = reads })
text_read form kept start place held now m (Err halt.Limit) text reads = record { model = m; text = text; reads = reads }
text_read form kept start place held now m (Err halt.Full) text reads = absurd reads
text_read form kept start place held now m (Err halt.Read) text reads = record { model = m; text = text; reads = reads }
text_read form kept start place held now m (Err halt.Write) text reads = behind_cut (record { model = m; text = text; reads = reads })
text_read form kept start place held now m (Err halt.Memory) text reads = reads
