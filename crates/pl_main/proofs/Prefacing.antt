-- What stands between `begin` and a journal, as far as it is read.
use Rattle.std.proofs.Common.{◌≡◌, ℕ, suc, ◌+◌, List, [], ◌∷◌, ◌++◌, length, Bool, true, false, if◌then◌else◌, Option, Some, None, Ok, Err, inl, inr, refl, sym, ◌∙◌, ap, subst}
use Rattle.std.specs.Prelude.{⊤}
use Rattle.pl_io.specs.declared.errors.LineFault.{LineFault}
use Rattle.pl_model.specs.declared.whole.Model.{Model}
use Rattle.pl_input.specs.declared.halt.Halt.{Halt}
use Rattle.pl_input.specs.declared.halt.Halt.TheVariants as halt
use Rattle.pl_input.specs.Words.{is_line_of, begin_word, text_before, model_text_of, lines_behind}
use Rattle.pl_input.specs.Heads.{IsHead}
use Rattle.pl_input.specs.Places.{Place}
use Rattle.pl_input.specs.Stops.{HaltFor}
use Rattle.pl_input.proofs.Beginning.{head_then}
use Rattle.pl_input.proofs.Reading.{took_none}
use Rattle.pl_input.proofs.Stopping.{never_full, never_writes}
use Rattle.pl_rate.specs.declared.rate.Rate.{Rate}
use Rattle.pl_prefs.specs.declared.prefer.Prefer.{Prefer}
use Rattle.pl_preface.specs.declared.refusal.Refusal.{Refusal}
use Rattle.pl_preface.specs.declared.refusal.Refusal.TheVariants as refusal
use Rattle.pl_preface.specs.Prefaces.{Reading, Said, so_far, whole, refused, said}
use Rattle.pl_preface.specs.Gives.{HasPreface, IsRefusal, PrefaceHalts}
use Rattle.pl_preface.specs.RateLines.{rate_in}
use Rattle.pl_preface.specs.PreferLines.{prefer_in}
use Rattle.pl_preface.specs.Refusals.{refusal_line}
use Rattle.pl_preface.proofs.Lines.{whole_later, refused_later}
use Rattle.pl_main.specs.declared.form.Form.{Form}
use Rattle.pl_main.specs.declared.form.Form.TheVariants as which
use Rattle.pl_main.specs.declared.foreword.Foreword.TheVariants as foreword
use Rattle.pl_main.specs.declared.told.Told.{Told}
use Rattle.pl_main.specs.declared.told.Told.TheVariants as told
use Rattle.pl_main.specs.Forewords.{SaidBefore, unended, tells, refuses, rates_label, prefers_label, by_items, said_from, lines_to_begin, said_before, ForewordTells, ForewordRefuses, ForewordStops, ForewordReads}
use Rattle.pl_main.proofs.OneInput.{behind_goes_on}

abbrev Lines : Type 0
Lines = List (List ℕ)

-- ---- what is read

nothing_read : (form : Form) (m : Model) (start : Place) (what : Told) → start.reader.failed ≡ None → said_from form m start.reader.number [] ≡ tells what [] → ForewordTells form m start what start
nothing_read form m start what working says = record { lines = []; took = took_none start.reader start.ahead working; says = says }

pub nothing_for_replay : (m : Model) (start : Place) → start.reader.failed ≡ None → ForewordReads which.Replay m start (Ok (foreword.Tells told.Verdict)) start
nothing_for_replay m start working = nothing_read which.Replay m start told.Verdict working refl

pub nothing_for_report : (m : Model) (start : Place) → start.reader.failed ≡ None → ForewordReads which.Report m start (Ok (foreword.Tells told.Report)) start
nothing_for_report m start working = nothing_read which.Report m start told.Report working refl

pub nothing_for_flex : (id : ℕ) (m : Model) (start : Place) → start.reader.failed ≡ None → ForewordReads (which.Flex id) m start (Ok (foreword.Tells (told.Flex id))) start
nothing_for_flex id m start working = nothing_read (which.Flex id) m start (told.Flex id) working refl

-- ---- items up to the line `journal`

-- the form asks for such items, each of which a line says
abbrev AsksFor : {X : Type 0} → Form → Model → Reading X → List ℕ → (List X → Told) → Type 0
AsksFor form m read label asks = (n : ℕ) (lines : Lines) → said_from form m n lines ≡ by_items label asks (said read n [] lines)

items_read : {X : Type 0} (form : Form) (m : Model) (read : Reading X) (label : List ℕ) (asks : List X → Told) → AsksFor form m read label asks
    → (start place : Place) (items : List X) → HasPreface read start.reader start.ahead items place.reader place.ahead → ForewordTells form m start (asks items) place
items_read form m read label asks by start place items has = record { lines = has.lines; took = has.took; says = by start.reader.number has.lines ∙ ap (by_items label asks) has.says }

items_refused : {X : Type 0} (form : Form) (m : Model) (read : Reading X) (label : List ℕ) (asks : List X → Told) → AsksFor form m read label asks
    → (start place : Place) (why : Refusal) (line : List ℕ) → IsRefusal read start.reader start.ahead why place.reader place.ahead → line ≡ refusal_line label why → ForewordRefuses form m start line place
items_refused form m read label asks by start place why line (inl has) is = record { lines = has.lines; took = has.took; says = inl (by start.reader.number has.lines ∙ ap (by_items label asks) has.says ∙ ap (λ (t : List ℕ). refuses t []) (sym is)) }
items_refused form m read label asks by start place why line (inr has) is = record {
  lines = has.1.lines;
  took = has.1.took;
  says = inr (by start.reader.number has.1.lines ∙ ap (by_items label asks) has.1.says ∙ ap unended (ap (refusal_line label) (sym has.0) ∙ sym is), has.1.used_up);
}

items_halt : {X : Type 0} (form : Form) (m : Model) (read : Reading X) (label : List ℕ) (asks : List X → Told) → AsksFor form m read label asks
    → (start place : Place) (f : LineFault) (e : Halt) → PrefaceHalts read start.reader start.ahead f place.reader place.ahead → HaltFor f e → ForewordStops e form m start place
items_halt form m read label asks by start place f e stops is = record { reason = f; lines = stops.lines; text = refusal_line label refusal.NoJournal; halts = stops.halts; stops = is; says = by start.reader.number stops.lines ∙ ap (by_items label asks) stops.says }

items_stop : {X : Type 0} (form : Form) (m : Model) (read : Reading X) (label : List ℕ) (asks : List X → Told) → AsksFor form m read label asks
    → (start place : Place) (f : LineFault) (e : Halt) → PrefaceHalts read start.reader start.ahead f place.reader place.ahead → HaltFor f e → ForewordReads form m start (Err e) place
items_stop form m read label asks by start place f halt.Limit stops is = items_halt form m read label asks by start place f halt.Limit stops is
items_stop form m read label asks by start place f halt.Read stops is = items_halt form m read label asks by start place f halt.Read stops is
items_stop form m read label asks by start place f halt.Full stops is = absurd (never_full f is)
items_stop form m read label asks by start place f halt.Write stops is = absurd (never_writes f is)
items_stop form m read label asks by start place f halt.Memory stops is = tt

items_unread : (form : Form) (m : Model) (start place : Place) (e : Halt) → e ≡ halt.Memory → ForewordReads form m start (Err e) place
items_unread form m start place e is = subst (λ (h : Halt). ForewordReads form m start (Err h) place) (sym is) tt

pub rates_read : (m : Model) (start place : Place) (rates : List Rate) → HasPreface (rate_in m) start.reader start.ahead rates place.reader place.ahead → ForewordTells which.Forecast m start (told.Forecast rates) place
rates_read m start place rates has = items_read which.Forecast m (rate_in m) rates_label told.Forecast (λ n lines. refl) start place rates has

pub rates_refused : (m : Model) (start place : Place) (why : Refusal) (line : List ℕ) → IsRefusal (rate_in m) start.reader start.ahead why place.reader place.ahead → line ≡ refusal_line rates_label why
    → ForewordRefuses which.Forecast m start line place
rates_refused m start place why line has is = items_refused which.Forecast m (rate_in m) rates_label told.Forecast (λ n lines. refl) start place why line has is

pub rates_stop : (m : Model) (start place : Place) (f : LineFault) (e : Halt) → PrefaceHalts (rate_in m) start.reader start.ahead f place.reader place.ahead → HaltFor f e → ForewordReads which.Forecast m start (Err e) place
rates_stop m start place f e stops is = items_stop which.Forecast m (rate_in m) rates_label told.Forecast (λ n lines. refl) start place f e stops is

pub rates_unread : (m : Model) (start place : Place) (e : Halt) → e ≡ halt.Memory → ForewordReads which.Forecast m start (Err e) place
rates_unread m start place e is = items_unread which.Forecast m start place e is

pub prefers_read : (steps : ℕ) (m : Model) (start place : Place) (prefers : List Prefer) → HasPreface (prefer_in m) start.reader start.ahead prefers place.reader place.ahead → ForewordTells (which.Improve steps) m start (told.Improve steps prefers) place
prefers_read steps m start place prefers has = items_read (which.Improve steps) m (prefer_in m) prefers_label (told.Improve steps) (λ n lines. refl) start place prefers has

pub prefers_refused : (steps : ℕ) (m : Model) (start place : Place) (why : Refusal) (line : List ℕ) → IsRefusal (prefer_in m) start.reader start.ahead why place.reader place.ahead → line ≡ refusal_line prefers_label why
    → ForewordRefuses (which.Improve steps) m start line place
prefers_refused steps m start place why line has is = items_refused (which.Improve steps) m (prefer_in m) prefers_label (told.Improve steps) (λ n lines. refl) start place why line has is

pub prefers_stop : (steps : ℕ) (m : Model) (start place : Place) (f : LineFault) (e : Halt) → PrefaceHalts (prefer_in m) start.reader start.ahead f place.reader place.ahead → HaltFor f e → ForewordReads (which.Improve steps) m start (Err e) place
prefers_stop steps m start place f e stops is = items_stop (which.Improve steps) m (prefer_in m) prefers_label (told.Improve steps) (λ n lines. refl) start place f e stops is

pub prefers_unread : (steps : ℕ) (m : Model) (start place : Place) (e : Halt) → e ≡ halt.Memory → ForewordReads (which.Improve steps) m start (Err e) place
prefers_unread steps m start place e is = items_unread (which.Improve steps) m start place e is

pub tells_working : (form : Form) (m : Model) (start : Place) (what : Told) (place : Place) → ForewordTells form m start what place → place.reader.failed ≡ None
tells_working form m start what place before = before.took.working

-- ---- behind the model's text

count_by : (b : Bool) (x : List ℕ) (xs more : Lines) (words : List ℕ) (text : Option (List ℕ)) → model_text_of xs ≡ text → text_before x b text ≡ Some words → (if b then xs else lines_behind xs) ≡ []
    → ((w : List ℕ) → IsHead xs w → lines_to_begin (xs ++ more) ≡ length xs) → suc (if b then 0 else lines_to_begin (xs ++ more)) ≡ suc (length xs)
count_by true x xs more words text is head behind next = ap suc (sym (ap (λ (ls : Lines). length ls) behind))
count_by false x xs more words None is head behind next = absurd (let h : None ≡ Some words = head in (cc))
count_by false x xs more words (Some t) is head behind next = ap suc (next t (record { text = is; behind = behind }))

head_count : (lines more : Lines) (words : List ℕ) → IsHead lines words → lines_to_begin (lines ++ more) ≡ length lines
head_count [] more words head = absurd (let e : None ≡ Some words = head.text in (cc))
head_count (x ∷ xs) more words head = count_by (is_line_of begin_word x) x xs more words (model_text_of xs) refl head.text head.behind (λ w h. head_count xs more w h)

-- what is said behind a head
pub head_said : (form : Form) (m : Model) (n : ℕ) (lines more : Lines) (words : List ℕ) → IsHead lines words → n ≡ length lines → said_before form m (lines ++ more) ≡ said_from form m n more
head_said form m n lines more words head number =
    ap (λ (k : ℕ). said_from form m k (lines_behind (lines ++ more))) (head_count lines more words head ∙ sym number)
    ∙ ap (λ (ls : Lines). said_from form m n ls) (head_then lines words more head).1

-- ---- more lines

-- it is clear what is to be told of the journal, or a line is refused
abbrev pub IsClear : SaidBefore → Type 0
IsClear (unended line) = ⊥
IsClear (tells what behind) = ⊤
IsClear (refuses line behind) = ⊤

abbrev pub lengthened : Lines → SaidBefore → SaidBefore
lengthened more (unended line) = unended line
lengthened more (tells what behind) = tells what (behind ++ more)
lengthened more (refuses line behind) = refuses line (behind ++ more)

items_on : {X : Type 0} (read : Reading X) (label : List ℕ) (asks : List X → Told) (n : ℕ) (lines more : Lines) (s : Said X) → said read n [] lines ≡ s → IsClear (by_items label asks s)
    → by_items label asks (said read n [] (lines ++ more)) ≡ lengthened more (by_items label asks s)
items_on read label asks n lines more (so_far items) is clear = absurd clear
items_on read label asks n lines more (whole items behind) is clear = ap (by_items label asks) (whole_later read n lines more behind items is)
items_on read label asks n lines more (refused why behind) is clear = ap (by_items label asks) (refused_later read n lines more behind why is)

from_on : (form : Form) (m : Model) (n : ℕ) (lines more : Lines) → IsClear (said_from form m n lines) → said_from form m n (lines ++ more) ≡ lengthened more (said_from form m n lines)
from_on which.Replay m n lines more clear = refl
from_on which.Report m n lines more clear = refl
from_on (which.Flex id) m n lines more clear = refl
from_on which.Forecast m n lines more clear = items_on (rate_in m) rates_label told.Forecast n lines more (said (rate_in m) n [] lines) refl clear
from_on (which.Improve steps) m n lines more clear = items_on (prefer_in m) prefers_label (told.Improve steps) n lines more (said (prefer_in m) n [] lines) refl clear

count_step : (b : Bool) (x : List ℕ) (xs more : Lines) (words : List ℕ) (text : Option (List ℕ)) → model_text_of xs ≡ text → text_before x b text ≡ Some words
    → ((w : List ℕ) → model_text_of xs ≡ Some w → lines_to_begin (xs ++ more) ≡ lines_to_begin xs) → suc (if b then 0 else lines_to_begin (xs ++ more)) ≡ suc (if b then 0 else lines_to_begin xs)
count_step true x xs more words text is e next = refl
count_step false x xs more words None is e next = absurd (let h : None ≡ Some words = e in (cc))
count_step false x xs more words (Some t) is e next = ap suc (next t is)

count_on : (lines more : Lines) (words : List ℕ) → model_text_of lines ≡ Some words → lines_to_begin (lines ++ more) ≡ lines_to_begin lines
count_on [] more words e = absurd (let h : None ≡ Some words = e in (cc))
count_on (x ∷ xs) more words e = count_step (is_line_of begin_word x) x xs more words (model_text_of xs) refl e (λ w h. count_on xs more w h)

-- what is clear stays so
said_on : (form : Form) (m : Model) (lines more : Lines) (words : List ℕ) (s : SaidBefore) → model_text_of lines ≡ Some words → said_before form m lines ≡ s → IsClear s → said_before form m (lines ++ more) ≡ lengthened more s
said_on form m lines more words s text is clear =
    ap (λ (k : ℕ). said_from form m k (lines_behind (lines ++ more))) (count_on lines more words text)
    ∙ ap (λ (ls : Lines). said_from form m (lines_to_begin lines) ls) (behind_goes_on lines more words text)
    ∙ from_on form m (lines_to_begin lines) (lines_behind lines) more (subst IsClear (sym is) clear)
    ∙ ap (lengthened more) is

pub tells_on : (form : Form) (m : Model) (lines more behind : Lines) (words : List ℕ) (what : Told) → model_text_of lines ≡ Some words → said_before form m lines ≡ tells what behind → said_before form m (lines ++ more) ≡ tells what (behind ++ more)
tells_on form m lines more behind words what text is = said_on form m lines more words (tells what behind) text is tt

pub refuses_on : (form : Form) (m : Model) (lines more behind : Lines) (words line : List ℕ) → model_text_of lines ≡ Some words → said_before form m lines ≡ refuses line behind → said_before form m (lines ++ more) ≡ refuses line (behind ++ more)
refuses_on form m lines more behind words line text is = said_on form m lines more words (refuses line behind) text is tt

-- two that are told of one input are one
pub same_told : (one other : Told) (xs ys : Lines) → tells one xs ≡ tells other ys → (one ≡ other) × (xs ≡ ys)
same_told one other xs ys e = ((cc), (cc))

pub told_not_refused : (what : Told) (xs ys : Lines) (line : List ℕ) → tells what xs ≡ refuses line ys → ⊥
told_not_refused what xs ys line e = (cc)

pub told_not_unended : (what : Told) (xs : Lines) (line : List ℕ) → tells what xs ≡ unended line → ⊥
told_not_unended what xs line e = (cc)

pub refused_not_unended : (xs : Lines) (line other : List ℕ) → refuses line xs ≡ unended other → ⊥
refused_not_unended xs line other e = (cc)
