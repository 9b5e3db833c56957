-- The statuses of the jobs.
use Rattle.std.proofs.Common.{◌≡◌, ℕ, List, [], ◌∷◌, length, Option, Result, Ok, Err, IsErrOf, IfErr, get_or, ltb, true, refl, subst, arith}
use Rattle.std.specs.Prelude.{All, Contains}
use Rattle.std.proofs.lemmas.Bool.{ltb-true}
use Rattle.std.proofs.lemmas.List.Elements.{All-nil, All-cons, All-contains, Contains-get_or}
use Rattle.pl_io.specs.declared.errors.LineFault.{LineFault}
use Rattle.pl_input.specs.declared.halt.Halt.{Halt}
use Rattle.pl_input.specs.declared.halt.Halt.TheVariants as halt
use Rattle.pl_input.specs.Stops.{HaltFor}
use Rattle.pl_journal.specs.Written.{WriteStops}
use Rattle.pl_input.specs.Places.{Place}
use Rattle.std.specs.declared.vec.Vec.{Vec}
use Rattle.std.specs.declared.alloc.Global.{Global}
use Rattle.pl_input.proofs.Stopping.{never_full}
use Rattle.pl_main.specs.declared.command.Task.{Task}
use Rattle.pl_main.specs.declared.command.Task.TheVariants as task
use Rattle.pl_main.specs.declared.outcome.Outcome.{Outcome}
use Rattle.pl_main.specs.declared.outcome.Outcome.TheVariants as outcome
use Rattle.pl_main.specs.declared.form.Form.{Form}
use Rattle.pl_main.specs.declared.judgement.Judgement.{Judgement}
use Rattle.pl_main.specs.declared.judgement.Judgement.TheVariants as judged
use Rattle.pl_main.specs.Readings.{WritesAs, TextReads}
use Rattle.pl_main.specs.Demos.{Shows}
use Rattle.pl_main.specs.Statuses.{status_of, status_of_journal, statuses_of, pair_statuses, IsStatusOf, IsPairStatus}

-- ---- any job, by cases

pub data IsJobStatus (status : ℕ) : Type 0 where
  is_done : status ≡ 0 → IsJobStatus status
  is_refused : status ≡ 3 → IsJobStatus status
  is_read : status ≡ 4 → IsJobStatus status
  is_write : status ≡ 5 → IsJobStatus status
  is_limit : status ≡ 6 → IsJobStatus status
  is_full : status ≡ 7 → IsJobStatus status
  is_wrong : status ≡ 8 → IsJobStatus status
  is_memory : status ≡ 9 → IsJobStatus status

more : (status : ℕ) (rest : List ℕ) → IsJobStatus status → All IsJobStatus rest → All IsJobStatus (status ∷ rest)
more status rest is others = All-cons IsJobStatus status rest is others

from_nine : All IsJobStatus (9 ∷ [])
from_nine = more 9 [] (is_memory refl) (All-nil IsJobStatus)

from_seven : All IsJobStatus (7 ∷ 9 ∷ [])
from_seven = more 7 (9 ∷ []) (is_full refl) from_nine

from_eight : All IsJobStatus (8 ∷ 9 ∷ [])
from_eight = more 8 (9 ∷ []) (is_wrong refl) from_nine

-- the statuses of a job that reads its input, before these
reads : (rest : List ℕ) → All IsJobStatus rest → All IsJobStatus (0 ∷ 3 ∷ 4 ∷ 5 ∷ 6 ∷ rest)
reads rest others =
    more 0 (3 ∷ 4 ∷ 5 ∷ 6 ∷ rest) (is_done refl)
    (more 3 (4 ∷ 5 ∷ 6 ∷ rest) (is_refused refl)
    (more 4 (5 ∷ 6 ∷ rest) (is_read refl)
    (more 5 (6 ∷ rest) (is_write refl)
    (more 6 rest (is_limit refl) others))))

job_statuses : (t : Task) → All IsJobStatus (statuses_of t)
job_statuses (task.Solo turns) = reads (7 ∷ 9 ∷ []) from_seven
job_statuses task.Check = reads (9 ∷ []) from_nine
job_statuses task.Replay = reads (8 ∷ 9 ∷ []) from_eight
job_statuses task.Report = reads (8 ∷ 9 ∷ []) from_eight
job_statuses (task.Flex id) = reads (8 ∷ 9 ∷ []) from_eight
job_statuses task.Forecast = reads (8 ∷ 9 ∷ []) from_eight
job_statuses (task.Improve steps) = reads (8 ∷ 9 ∷ []) from_eight
job_statuses (task.Demo goals) =
    more 0 (5 ∷ 7 ∷ 9 ∷ []) (is_done refl)
    (more 5 (7 ∷ 9 ∷ []) (is_write refl) from_seven)

pub is_job : (t : Task) (status : ℕ) → IsStatusOf t status → IsJobStatus status
unfolding IsStatusOf
is_job t status has = All-contains IsJobStatus (statuses_of t) status (job_statuses t) has

pub status_is : (r : Result Outcome Halt) → IsJobStatus (status_of r)
status_is (Ok outcome.Done) = is_done refl
status_is (Ok outcome.Refused) = is_refused refl
status_is (Err halt.Read) = is_read refl
status_is (Err halt.Write) = is_write refl
status_is (Err halt.Limit) = is_limit refl
status_is (Err halt.Full) = is_full refl
status_is (Err halt.Memory) = is_memory refl

-- ---- no job ends as words that are of no form do

never_usage : (status : ℕ) → IsJobStatus status → status ≡ 2 → ⊥
never_usage status (is_done e) two = omega (arith, e, two)
never_usage status (is_refused e) two = omega (arith, e, two)
never_usage status (is_read e) two = omega (arith, e, two)
never_usage status (is_write e) two = omega (arith, e, two)
never_usage status (is_limit e) two = omega (arith, e, two)
never_usage status (is_full e) two = omega (arith, e, two)
never_usage status (is_wrong e) two = omega (arith, e, two)
never_usage status (is_memory e) two = omega (arith, e, two)

pub job_not_usage : (t : Task) (status : ℕ) → IsStatusOf t status → status ≡ 2 → ⊥
job_not_usage t status is two = never_usage status (is_job t status is) two

pub pair_not_usage : (status : ℕ) → IsPairStatus status → status ≡ 2 → ⊥
unfolding IsPairStatus
pair_not_usage status has two = never_usage status (All-contains IsJobStatus pair_statuses status (reads (7 ∷ 9 ∷ []) from_seven) has) two

-- ---- each job

-- the status at this place of a list
at : (statuses : List ℕ) (place : ℕ) → ltb place (length statuses) ≡ true → Contains statuses (get_or statuses place 0)
at statuses place within = Contains-get_or statuses place 0 (ltb-true place (length statuses) within)

run_status : (r : Result Outcome Halt) → Contains pair_statuses (status_of r)
run_status (Ok outcome.Done) = at pair_statuses 0 refl
run_status (Ok outcome.Refused) = at pair_statuses 1 refl
run_status (Err halt.Read) = at pair_statuses 2 refl
run_status (Err halt.Write) = at pair_statuses 3 refl
run_status (Err halt.Limit) = at pair_statuses 4 refl
run_status (Err halt.Full) = at pair_statuses 5 refl
run_status (Err halt.Memory) = at pair_statuses 6 refl

pub pair_status : (r : Result Outcome Halt) → IsPairStatus (status_of r)
unfolding IsPairStatus
pair_status r = run_status r

pub solo_status : (turns : ℕ) (r : Result Outcome Halt) → IsStatusOf (task.Solo turns) (status_of r)
unfolding IsStatusOf
solo_status turns r = run_status r

check_place : (r : Result Outcome Halt) → (IsErrOf r halt.Full → ⊥) → Contains (statuses_of task.Check) (status_of r)
check_place (Ok outcome.Done) never = at (statuses_of task.Check) 0 refl
check_place (Ok outcome.Refused) never = at (statuses_of task.Check) 1 refl
check_place (Err halt.Read) never = at (statuses_of task.Check) 2 refl
check_place (Err halt.Write) never = at (statuses_of task.Check) 3 refl
check_place (Err halt.Limit) never = at (statuses_of task.Check) 4 refl
check_place (Err halt.Full) never = absurd (never refl)
check_place (Err halt.Memory) never = at (statuses_of task.Check) 5 refl

pub check_status : (r : Result Outcome Halt) → (IsErrOf r halt.Full → ⊥) → IsStatusOf task.Check (status_of r)
unfolding IsStatusOf
check_status r never = check_place r never

journal_place : (r : Result Judgement Halt) → (IsErrOf r halt.Full → ⊥) → Contains (statuses_of task.Replay) (status_of_journal r)
journal_place (Ok judged.Right) never = at (statuses_of task.Replay) 0 refl
journal_place (Ok judged.Refused) never = at (statuses_of task.Replay) 1 refl
journal_place (Ok judged.Wrong) never = at (statuses_of task.Replay) 5 refl
journal_place (Err halt.Read) never = at (statuses_of task.Replay) 2 refl
journal_place (Err halt.Write) never = at (statuses_of task.Replay) 3 refl
journal_place (Err halt.Limit) never = at (statuses_of task.Replay) 4 refl
journal_place (Err halt.Full) never = absurd (never refl)
journal_place (Err halt.Memory) never = at (statuses_of task.Replay) 6 refl

pub replay_status : (r : Result Judgement Halt) → (IsErrOf r halt.Full → ⊥) → IsStatusOf task.Replay (status_of_journal r)
unfolding IsStatusOf
replay_status r never = journal_place r never

pub report_status : (r : Result Judgement Halt) → (IsErrOf r halt.Full → ⊥) → IsStatusOf task.Report (status_of_journal r)
unfolding IsStatusOf
report_status r never = journal_place r never

pub flex_status : (id : ℕ) (r : Result Judgement Halt) → (IsErrOf r halt.Full → ⊥) → IsStatusOf (task.Flex id) (status_of_journal r)
unfolding IsStatusOf
flex_status id r never = journal_place r never

pub forecast_status : (r : Result Judgement Halt) → (IsErrOf r halt.Full → ⊥) → IsStatusOf task.Forecast (status_of_journal r)
unfolding IsStatusOf
forecast_status r never = journal_place r never

pub improve_status : (steps : ℕ) (r : Result Judgement Halt) → (IsErrOf r halt.Full → ⊥) → IsStatusOf (task.Improve steps) (status_of_journal r)
unfolding IsStatusOf
improve_status steps r never = journal_place r never

demo_place : (goals : ℕ) (held now : Option (List ℕ)) (r : Result Outcome Halt) → Shows goals held now r → Contains (statuses_of (task.Demo goals)) (status_of r)
demo_place goals held now (Ok outcome.Done) shows = at (statuses_of (task.Demo goals)) 0 refl
demo_place goals held now (Ok outcome.Refused) shows = absurd shows
demo_place goals held now (Err halt.Read) shows = absurd shows
demo_place goals held now (Err halt.Write) shows = at (statuses_of (task.Demo goals)) 1 refl
demo_place goals held now (Err halt.Limit) shows = absurd shows
demo_place goals held now (Err halt.Full) shows = at (statuses_of (task.Demo goals)) 2 refl
demo_place goals held now (Err halt.Memory) shows = at (statuses_of (task.Demo goals)) 3 refl

pub demo_status : (goals : ℕ) (held now : Option (List ℕ)) (r : Result Outcome Halt) → Shows goals held now r → IsStatusOf (task.Demo goals) (status_of r)
unfolding IsStatusOf
demo_status goals held now r shows = demo_place goals held now r shows

-- ---- no log is full where none is made

err_is : {A : Type 0} (h k : Halt) → ◌≡◌ {A = Result A Halt} (Err h) (Err k) → h ≡ k
err_is h k e = cc

pub fault_fills_none : {A : Type 0} (f : LineFault) (h : Halt) → HaltFor f h → ◌≡◌ {A = Result A Halt} (Err h) (Err halt.Full) → ⊥
fault_fills_none f h is full = never_full f (subst (λ (k : Halt). HaltFor f k) (err_is h halt.Full full) is)

pub line_fills_none : (before now : ℕ) (r : Result Outcome Halt) → IfErr r (WriteStops before now) → IsErrOf r halt.Full → ⊥
line_fills_none before now r stops full = subst (λ (x : Result Outcome Halt). IfErr x (WriteStops before now)) full stops

pub text_fills_none : (judgement : Judgement) (text : List ℕ) (held now : Option (List ℕ)) (r : Result Judgement Halt) → WritesAs judgement text held r now → IsErrOf r halt.Full → ⊥
text_fills_none judgement text held now r writes full = subst (λ (x : Result Judgement Halt). WritesAs judgement text held x now) full writes

pub journal_fills_none : (form : Form) (kept : Option (Vec ℕ Global)) (start : Place) (held : Option (List ℕ)) (r : Result Judgement Halt) (place : Place) (now : Option (List ℕ)) → TextReads form kept start held r place now → IsErrOf r halt.Full → ⊥
journal_fills_none form kept start held r place now reads full = subst (λ (x : Result Judgement Halt). TextReads form kept start held x place now) full reads
