-- What stands between the line `begin` and a journal: nothing, or rates or preferences up to the line `journal`.
use Rattle.std.specs.Prelude.{◌≡◌, ℕ, suc, ◌≤◌, List, [], ◌∷◌, length, All, ◌⊎◌, Result, Ok, Err, if◌then◌else◌, codes, ⊤}
use Rattle.pl_io.specs.declared.errors.LineFault.{LineFault}
use Rattle.pl_model.specs.declared.whole.Model.{Model}
use Rattle.pl_input.specs.declared.halt.Halt.{Halt}
use Rattle.pl_input.specs.declared.halt.Halt.TheVariants as halt
use Rattle.pl_input.specs.Words.{is_line_of, begin_word, lines_behind}
use Rattle.pl_input.specs.Reads.{ReadsLines, Halts, IsUsedUp}
use Rattle.pl_input.specs.Places.{Place}
use Rattle.pl_input.specs.Stops.{HaltFor}
use Rattle.pl_rate.specs.declared.rate.Rate.{Rate}
use Rattle.pl_rate.specs.Rates.{IsRateOf}
use Rattle.pl_prefs.specs.declared.prefer.Prefer.{Prefer}
use Rattle.pl_prefs.specs.Prefers.{IsPreferOf}
use Rattle.pl_preface.specs.declared.refusal.Refusal.TheVariants as refusal
use Rattle.pl_preface.specs.Prefaces.{Said, so_far, whole, refused, said}
use Rattle.pl_preface.specs.RateLines.{rate_in}
use Rattle.pl_preface.specs.PreferLines.{prefer_in}
use Rattle.pl_preface.specs.Refusals.{refusal_line}
use Rattle.pl_main.specs.declared.form.Form.{Form}
use Rattle.pl_main.specs.declared.form.Form.TheVariants as which
use Rattle.pl_main.specs.declared.told.Told.{Told}
use Rattle.pl_main.specs.declared.told.Told.TheVariants as told
use Rattle.pl_main.specs.declared.foreword.Foreword.{Foreword}
use Rattle.pl_main.specs.declared.foreword.Foreword.TheVariants as foreword

-- ---- what lines say

-- More lines are to come, and if there are none, this line refuses the input. Or it is clear what is to be told of the journal,
-- whose lines these are. Or this line refuses the input, and these lines stand behind the one that is refused.
pub data SaidBefore : Type 0 where
  unended : List ℕ → SaidBefore
  tells : Told → List (List ℕ) → SaidBefore
  refuses : List ℕ → List (List ℕ) → SaidBefore

abbrev pub rates_label : List ℕ
rates_label = codes "rate"

abbrev pub prefers_label : List ℕ
prefers_label = codes "prefer"

-- by what lines say up to the line `journal`, where such items ask for this to be told
abbrev pub by_items : {X : Type 0} → List ℕ → (List X → Told) → Said X → SaidBefore
by_items label asks (so_far items) = unended (refusal_line label refusal.NoJournal)
by_items label asks (whole items behind) = tells (asks items) behind
by_items label asks (refused why behind) = refuses (refusal_line label why) behind

-- by what is asked, the lines behind so many of the input, up to the line `begin`
abbrev pub said_from : Form → Model → ℕ → List (List ℕ) → SaidBefore
said_from which.Replay m n lines = tells told.Verdict lines
said_from which.Report m n lines = tells told.Report lines
said_from (which.Flex id) m n lines = tells (told.Flex id) lines
said_from which.Forecast m n lines = by_items rates_label told.Forecast (said (rate_in m) n [] lines)
said_from (which.Improve steps) m n lines = by_items prefers_label (told.Improve steps) (said (prefer_in m) n [] lines)

-- how many lines there are up to and with the first `begin` line
abbrev pub lines_to_begin : List (List ℕ) → ℕ
lines_to_begin [] = 0
lines_to_begin (line ∷ lines) = suc (if is_line_of begin_word line then 0 else lines_to_begin lines)

-- the lines of an input
abbrev pub said_before : Form → Model → List (List ℕ) → SaidBefore
said_before form m lines = said_from form m (lines_to_begin lines) (lines_behind lines)

-- ---- what is read of them

-- The lines up to the journal.
pub record ForewordTells (form : Form) (m : Model) (start : Place) (what : Told) (place : Place) : Type 0 where
  pub lines : List (List ℕ)
  pub took : ReadsLines start.reader start.ahead lines place.reader place.ahead
  pub says : said_from form m start.reader.number lines ≡ tells what []

-- The lines up to and with the one that is refused, or all lines if the journal is missing.
pub record ForewordRefuses (form : Form) (m : Model) (start : Place) (text : List ℕ) (place : Place) : Type 0 where
  pub lines : List (List ℕ)
  pub took : ReadsLines start.reader start.ahead lines place.reader place.ahead
  pub says : (said_from form m start.reader.number lines ≡ refuses text [])
      ⊎ ((said_from form m start.reader.number lines ≡ unended text) × IsUsedUp start.ahead place.ahead)

-- The next line is not given.
pub record ForewordStops (e : Halt) (form : Form) (m : Model) (start : Place) (place : Place) : Type 0 where
  pub reason : LineFault
  pub lines : List (List ℕ)
  pub text : List ℕ
  pub halts : Halts start.reader start.ahead lines reason place.reader place.ahead
  pub stops : HaltFor reason e
  pub says : said_from form m start.reader.number lines ≡ unended text

abbrev pub ForewordReads : Form → Model → Place → Result Foreword Halt → Place → Type 0
ForewordReads form m start (Ok (foreword.Tells what)) place = ForewordTells form m start what place
ForewordReads form m start (Ok (foreword.Refuses text)) place = ForewordRefuses form m start text.items place
ForewordReads form m start (Err halt.Limit) place = ForewordStops halt.Limit form m start place
ForewordReads form m start (Err halt.Read) place = ForewordStops halt.Read form m start place
ForewordReads form m start (Err halt.Full) place = ⊥
ForewordReads form m start (Err halt.Write) place = ⊥
ForewordReads form m start (Err halt.Memory) place = ⊤

-- ---- what holds of it

-- rates and preferences are those of the model
abbrev pub FitsTold : Model → Told → Type 0
FitsTold m told.Verdict = ⊤
FitsTold m told.Report = ⊤
FitsTold m (told.Flex id) = ⊤
FitsTold m (told.Forecast rates) = All (IsRateOf m) rates
FitsTold m (told.Improve steps prefers) = All (IsPreferOf m) prefers × (length prefers ≤ 64)

abbrev pub FitsForeword : Model → Foreword → Type 0
FitsForeword m (foreword.Tells what) = FitsTold m what
FitsForeword m (foreword.Refuses text) = ⊤
