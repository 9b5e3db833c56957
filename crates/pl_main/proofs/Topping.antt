-- What a whole run says, from its parts.
use Rattle.std.proofs.Common.{◌≡◌, ℕ, List, Option, Some, None, Result, Ok, Err, refl, arith}
use Rattle.pl_main.specs.declared.command.Task.TheVariants as task
use Rattle.pl_main.specs.Replays.{ReadsBack, ReadsBackKnown}
use Rattle.pl_main.specs.Statuses.{status_of, status_of_journal, SaysReadBack, SaysKnown, SaysEndedKnown}
use Rattle.pl_main.specs.Demos.{Shows}
use Rattle.pl_main.specs.Top.{ChecksKnown}
use Rattle.pl_main.specs.Endings.{EndedAsKnown, RunKind}
use Rattle.pl_input.specs.declared.halt.Halt.{Halt}
use Rattle.pl_input.specs.declared.halt.Halt.TheVariants as halt
use Rattle.pl_main.specs.declared.outcome.Outcome.{Outcome}
use Rattle.pl_main.specs.declared.outcome.Outcome.TheVariants as outcome
use Rattle.pl_main.specs.declared.form.Form.{Form}
use Rattle.pl_main.specs.declared.form.Form.TheVariants as which
use Rattle.pl_main.specs.declared.judgement.Judgement.{Judgement}
use Rattle.pl_main.specs.declared.judgement.Judgement.TheVariants as judged

pub says_of : (kind : RunKind) (input source_left held now : Option (List ℕ)) (r : Result Outcome Halt) → EndedAsKnown kind input source_left held now r → SaysEndedKnown kind input source_left held now (status_of r)
says_of kind None source_left held now r ran = tt
says_of kind (Some input) source_left held now (Ok outcome.Done) ran = record { done = λ e. ran; refused = λ e. absurd (omega (arith, e)); read_fault = λ e. absurd (omega (arith, e)); short = λ e. absurd (omega (arith, e)); limit = λ e. absurd (omega (arith, e)); full = λ e. absurd (omega (arith, e)); never_wrong = λ e. omega (arith, e); memory = λ e. absurd (omega (arith, e)) }
says_of kind (Some input) source_left held now (Ok outcome.Refused) ran = record { done = λ e. absurd (omega (arith, e)); refused = λ e. ran; read_fault = λ e. absurd (omega (arith, e)); short = λ e. absurd (omega (arith, e)); limit = λ e. absurd (omega (arith, e)); full = λ e. absurd (omega (arith, e)); never_wrong = λ e. omega (arith, e); memory = λ e. absurd (omega (arith, e)) }
says_of kind (Some input) source_left held now (Err halt.Limit) ran = record { done = λ e. absurd (omega (arith, e)); refused = λ e. absurd (omega (arith, e)); read_fault = λ e. absurd (omega (arith, e)); short = λ e. absurd (omega (arith, e)); limit = λ e. ran; full = λ e. absurd (omega (arith, e)); never_wrong = λ e. omega (arith, e); memory = λ e. absurd (omega (arith, e)) }
says_of kind (Some input) source_left held now (Err halt.Full) ran = record { done = λ e. absurd (omega (arith, e)); refused = λ e. absurd (omega (arith, e)); read_fault = λ e. absurd (omega (arith, e)); short = λ e. absurd (omega (arith, e)); limit = λ e. absurd (omega (arith, e)); full = λ e. ran; never_wrong = λ e. omega (arith, e); memory = λ e. absurd (omega (arith, e)) }
says_of kind (Some input) source_left held now (Err halt.Read) ran = record { done = λ e. absurd (omega (arith, e)); refused = λ e. absurd (omega (arith, e)); read_fault = λ e. ran; short = λ e. absurd (omega (arith, e)); limit = λ e. absurd (omega (arith, e)); full = λ e. absurd (omega (arith, e)); never_wrong = λ e. omega (arith, e); memory = λ e. absurd (omega (arith, e)) }
says_of kind (Some input) source_left held now (Err halt.Write) ran = record { done = λ e. absurd (omega (arith, e)); refused = λ e. absurd (omega (arith, e)); read_fault = λ e. absurd (omega (arith, e)); short = λ e. ran; limit = λ e. absurd (omega (arith, e)); full = λ e. absurd (omega (arith, e)); never_wrong = λ e. omega (arith, e); memory = λ e. absurd (omega (arith, e)) }
says_of kind (Some input) source_left held now (Err halt.Memory) ran = record { done = λ e. absurd (omega (arith, e)); refused = λ e. absurd (omega (arith, e)); read_fault = λ e. absurd (omega (arith, e)); short = λ e. absurd (omega (arith, e)); limit = λ e. absurd (omega (arith, e)); full = λ e. absurd (omega (arith, e)); never_wrong = λ e. omega (arith, e); memory = λ e. ran }

pub says_checked : (input source_left held now : Option (List ℕ)) (r : Result Outcome Halt) → ChecksKnown input source_left held now r → SaysKnown task.Check input source_left held now (status_of r)
says_checked None source_left held now r ran = tt
says_checked (Some input) source_left held now (Ok outcome.Done) ran = record { done = λ e. ran; refused = λ e. absurd (omega (arith, e)); short = λ e. absurd (omega (arith, e)); silent = λ e. absurd (omega (arith, e)); read_fault = λ e. absurd (omega (arith, e)); limit = λ e. absurd (omega (arith, e)); never_full = λ e. absurd (omega (arith, e)); never_wrong = λ e. omega (arith, e) }
says_checked (Some input) source_left held now (Ok outcome.Refused) ran = record { done = λ e. absurd (omega (arith, e)); refused = λ e. ran; short = λ e. absurd (omega (arith, e)); silent = λ e. absurd (omega (arith, e)); read_fault = λ e. absurd (omega (arith, e)); limit = λ e. absurd (omega (arith, e)); never_full = λ e. absurd (omega (arith, e)); never_wrong = λ e. omega (arith, e) }
says_checked (Some input) source_left held now (Err halt.Limit) ran = record { done = λ e. absurd (omega (arith, e)); refused = λ e. absurd (omega (arith, e)); short = λ e. absurd (omega (arith, e)); silent = λ e. absurd (omega (arith, e)); read_fault = λ e. absurd (omega (arith, e)); limit = λ e. ran; never_full = λ e. absurd (omega (arith, e)); never_wrong = λ e. omega (arith, e) }
says_checked (Some input) source_left held now (Err halt.Read) ran = record { done = λ e. absurd (omega (arith, e)); refused = λ e. absurd (omega (arith, e)); short = λ e. absurd (omega (arith, e)); silent = λ e. absurd (omega (arith, e)); read_fault = λ e. ran; limit = λ e. absurd (omega (arith, e)); never_full = λ e. absurd (omega (arith, e)); never_wrong = λ e. omega (arith, e) }
says_checked (Some input) source_left held now (Err halt.Write) ran = record { done = λ e. absurd (omega (arith, e)); refused = λ e. absurd (omega (arith, e)); short = λ e. ran; silent = λ e. absurd (omega (arith, e)); read_fault = λ e. absurd (omega (arith, e)); limit = λ e. absurd (omega (arith, e)); never_full = λ e. absurd (omega (arith, e)); never_wrong = λ e. omega (arith, e) }
says_checked (Some input) source_left held now (Err halt.Memory) ran = record { done = λ e. absurd (omega (arith, e)); refused = λ e. absurd (omega (arith, e)); short = λ e. absurd (omega (arith, e)); silent = λ e. ran; read_fault = λ e. absurd (omega (arith, e)); limit = λ e. absurd (omega (arith, e)); never_full = λ e. absurd (omega (arith, e)); never_wrong = λ e. omega (arith, e) }
says_checked (Some input) source_left held now (Err halt.Full) ran = absurd ran

pub says_shown : (goals : ℕ) (input source_left held now : Option (List ℕ)) (r : Result Outcome Halt) → Shows goals held now r → SaysKnown (task.Demo goals) input source_left held now (status_of r)
says_shown goals input source_left held now (Ok outcome.Done) shows = record { done = λ e. shows; never_refused = λ e. omega (arith, e); never_read = λ e. omega (arith, e); short = λ e. absurd (omega (arith, e)); never_limit = λ e. omega (arith, e); full = λ e. absurd (omega (arith, e)); silent = λ e. absurd (omega (arith, e)); never_wrong = λ e. omega (arith, e) }
says_shown goals input source_left held now (Ok outcome.Refused) shows = absurd shows
says_shown goals input source_left held now (Err halt.Full) shows = record { done = λ e. absurd (omega (arith, e)); never_refused = λ e. omega (arith, e); never_read = λ e. omega (arith, e); short = λ e. absurd (omega (arith, e)); never_limit = λ e. omega (arith, e); full = λ e. shows; silent = λ e. absurd (omega (arith, e)); never_wrong = λ e. omega (arith, e) }
says_shown goals input source_left held now (Err halt.Write) shows = record { done = λ e. absurd (omega (arith, e)); never_refused = λ e. omega (arith, e); never_read = λ e. omega (arith, e); short = λ e. shows; never_limit = λ e. omega (arith, e); full = λ e. absurd (omega (arith, e)); silent = λ e. absurd (omega (arith, e)); never_wrong = λ e. omega (arith, e) }
says_shown goals input source_left held now (Err halt.Memory) shows = record { done = λ e. absurd (omega (arith, e)); never_refused = λ e. omega (arith, e); never_read = λ e. omega (arith, e); short = λ e. absurd (omega (arith, e)); never_limit = λ e. omega (arith, e); full = λ e. absurd (omega (arith, e)); silent = λ e. shows; never_wrong = λ e. omega (arith, e) }
says_shown goals input source_left held now (Err halt.Limit) shows = absurd shows
says_shown goals input source_left held now (Err halt.Read) shows = absurd shows

reads_back : (form : Form) (input : List ℕ) (source_left held now : Option (List ℕ)) (r : Result Judgement Halt) → ReadsBack form input source_left held now r → SaysReadBack form input source_left held now (status_of_journal r)
reads_back form input source_left held now (Ok judged.Right) read = record { done = λ e. read; refused = λ e. absurd (omega (arith, e)); read_fault = λ e. absurd (omega (arith, e)); short = λ e. absurd (omega (arith, e)); limit = λ e. absurd (omega (arith, e)); never_full = λ e. omega (arith, e); wrong = λ e. absurd (omega (arith, e)); silent = λ e. absurd (omega (arith, e)) }
reads_back form input source_left held now (Ok judged.Refused) read = record { done = λ e. absurd (omega (arith, e)); refused = λ e. read; read_fault = λ e. absurd (omega (arith, e)); short = λ e. absurd (omega (arith, e)); limit = λ e. absurd (omega (arith, e)); never_full = λ e. omega (arith, e); wrong = λ e. absurd (omega (arith, e)); silent = λ e. absurd (omega (arith, e)) }
reads_back form input source_left held now (Ok judged.Wrong) read = record { done = λ e. absurd (omega (arith, e)); refused = λ e. absurd (omega (arith, e)); read_fault = λ e. absurd (omega (arith, e)); short = λ e. absurd (omega (arith, e)); limit = λ e. absurd (omega (arith, e)); never_full = λ e. omega (arith, e); wrong = λ e. read; silent = λ e. absurd (omega (arith, e)) }
reads_back form input source_left held now (Err halt.Read) read = record { done = λ e. absurd (omega (arith, e)); refused = λ e. absurd (omega (arith, e)); read_fault = λ e. read; short = λ e. absurd (omega (arith, e)); limit = λ e. absurd (omega (arith, e)); never_full = λ e. omega (arith, e); wrong = λ e. absurd (omega (arith, e)); silent = λ e. absurd (omega (arith, e)) }
reads_back form input source_left held now (Err halt.Write) read = record { done = λ e. absurd (omega (arith, e)); refused = λ e. absurd (omega (arith, e)); read_fault = λ e. absurd (omega (arith, e)); short = λ e. read; limit = λ e. absurd (omega (arith, e)); never_full = λ e. omega (arith, e); wrong = λ e. absurd (omega (arith, e)); silent = λ e. absurd (omega (arith, e)) }
reads_back form input source_left held now (Err halt.Limit) read = record { done = λ e. absurd (omega (arith, e)); refused = λ e. absurd (omega (arith, e)); read_fault = λ e. absurd (omega (arith, e)); short = λ e. absurd (omega (arith, e)); limit = λ e. read; never_full = λ e. omega (arith, e); wrong = λ e. absurd (omega (arith, e)); silent = λ e. absurd (omega (arith, e)) }
reads_back form input source_left held now (Err halt.Memory) read = record { done = λ e. absurd (omega (arith, e)); refused = λ e. absurd (omega (arith, e)); read_fault = λ e. absurd (omega (arith, e)); short = λ e. absurd (omega (arith, e)); limit = λ e. absurd (omega (arith, e)); never_full = λ e. omega (arith, e); wrong = λ e. absurd (omega (arith, e)); silent = λ e. read }
reads_back form input source_left held now (Err halt.Full) read = absurd read

pub says_replayed : (input source_left held now : Option (List ℕ)) (r : Result Judgement Halt) → ReadsBackKnown which.Replay input source_left held now r → SaysKnown task.Replay input source_left held now (status_of_journal r)
says_replayed None source_left held now r read = tt
says_replayed (Some input) source_left held now r read = reads_back which.Replay input source_left held now r read

pub says_reported : (input source_left held now : Option (List ℕ)) (r : Result Judgement Halt) → ReadsBackKnown which.Report input source_left held now r → SaysKnown task.Report input source_left held now (status_of_journal r)
says_reported None source_left held now r read = tt
says_reported (Some input) source_left held now r read = reads_back which.Report input source_left held now r read

pub says_moved : (id : ℕ) (input source_left held now : Option (List ℕ)) (r : Result Judgement Halt) → ReadsBackKnown (which.Flex id) input source_left held now r → SaysKnown (task.Flex id) input source_left held now (status_of_journal r)
says_moved id None source_left held now r read = tt
says_moved id (Some input) source_left held now r read = reads_back (which.Flex id) input source_left held now r read

pub says_foreseen : (input source_left held now : Option (List ℕ)) (r : Result Judgement Halt) → ReadsBackKnown which.Forecast input source_left held now r → SaysKnown task.Forecast input source_left held now (status_of_journal r)
says_foreseen None source_left held now r read = tt
says_foreseen (Some input) source_left held now r read = reads_back which.Forecast input source_left held now r read

pub says_bettered : (steps : ℕ) (input source_left held now : Option (List ℕ)) (r : Result Judgement Halt) → ReadsBackKnown (which.Improve steps) input source_left held now r → SaysKnown (task.Improve steps) input source_left held now (status_of_journal r)
says_bettered steps None source_left held now r read = tt
says_bettered steps (Some input) source_left held now r read = reads_back (which.Improve steps) input source_left held now r read

pub read_failed : (r : Result Outcome Halt) → status_of r ≡ 4 → r ≡ Err halt.Read
read_failed (Ok outcome.Done) e = absurd (omega (arith, e))
read_failed (Ok outcome.Refused) e = absurd (omega (arith, e))
read_failed (Err halt.Read) e = refl
read_failed (Err halt.Write) e = absurd (omega (arith, e))
read_failed (Err halt.Limit) e = absurd (omega (arith, e))
read_failed (Err halt.Full) e = absurd (omega (arith, e))
read_failed (Err halt.Memory) e = absurd (omega (arith, e))

pub write_failed : (r : Result Outcome Halt) → status_of r ≡ 5 → r ≡ Err halt.Write
write_failed (Ok outcome.Done) e = absurd (omega (arith, e))
write_failed (Ok outcome.Refused) e = absurd (omega (arith, e))
write_failed (Err halt.Read) e = absurd (omega (arith, e))
write_failed (Err halt.Write) e = refl
write_failed (Err halt.Limit) e = absurd (omega (arith, e))
write_failed (Err halt.Full) e = absurd (omega (arith, e))
write_failed (Err halt.Memory) e = absurd (omega (arith, e))
