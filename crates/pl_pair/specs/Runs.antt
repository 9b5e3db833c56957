-- What a run of a feeder and several workers comes to.
use Rattle.std.specs.Prelude.{◌≡◌, ◌<◌, ◌+◌, ℕ, List, [], ◌∷◌, ◌++◌, length, map, true, false, Option, Some, None, Result, Ok, Err, IfSome, ◌⊎◌, ⊤}
use Rattle.std.specs.List.{All}
use mathlib.Core.List.{IsPrefix}
use Rattle.pl_turn.specs.History.{IsEachOnce, StandsIn, times_in}
use Rattle.pl_turn.specs.Passes.{seen_of, mine_of, opening_of}
use Rattle.pl_io.specs.declared.errors.LineFault.{LineFault}
use Rattle.pl_io.specs.declared.errors.LineFault.TheVariants as fault
use Rattle.pl_io.specs.Lines.{lines_of}
use Rattle.pl_io.specs.Sparing.{read_size}
use Rattle.pl_io.specs.Writes.{AppendsFront}
use Rattle.pl_model.specs.declared.whole.Model.{Model}
use Rattle.pl_entry.specs.declared.entry.Entry.{Entry}
use Rattle.pl_machine.specs.declared.stop.Stop.{Stop}
use Rattle.pl_machine.specs.Legal.{Legal, options_of, world_of}
use Rattle.pl_input.specs.Words.{messages_of}
use Rattle.pl_machine.specs.Finished.{inputs_of}
use Rattle.pl_machine.specs.Sound.{State}
use Rattle.pl_journal.specs.Rendering.Lines.{text_of_log}
use Rattle.pl_input.specs.Reads.{GivesLinesKnown, StopsAt}
use Rattle.pl_input.specs.Stops.{IsStuckKnown}
use Rattle.pl_driver.specs.CutShort.{IsCutShort}
use Rattle.pl_journal.specs.Written.{Adds}
use Rattle.pl_acts.specs.declared.noted.Noted.{Noted}
use Rattle.pl_acts.specs.Items.{Signs, items_of, entries_in, model_in}
use Rattle.pl_acts.specs.Roles.{worker_of, kind_of, is_input}
use Rattle.pl_acts.specs.declared.role.Role.{Role}
use Rattle.pl_locked.specs.Plans.{PlanPass}
use Rattle.pl_input.specs.declared.halt.Halt.{Halt}
use Rattle.pl_input.specs.declared.halt.Halt.TheVariants as halt
use Rattle.pl_marks.specs.declared.author.Author.TheVariants.{Feeder}
use Rattle.pl_marks.specs.Marks.{Signed, marks_of}
use Rattle.pl_pair.specs.declared.ended.Ended.{Ended}
use Rattle.pl_pair.specs.declared.duty.Duty.{Duty}
use Rattle.pl_pair.specs.declared.duty.Duty.TheVariants.{Repair, Execute}
use Rattle.pl_pair.specs.declared.worker.Worker.{Worker}
use Rattle.pl_pair.specs.Duties.{role_of, begun_of, author_of}
use Rattle.pl_pair.specs.Joins.{own_lists_of, HasSeenIn}
use Rattle.pl_pair.specs.Served.{AreOf, AreOfUntil, Made, MakesOwn, AreSigned, Refused}
use Rattle.pl_pair.specs.Rounds.{IsBetween}
use Rattle.pl_pair.specs.Endings.{met_by}
use Rattle.pl_pair.specs.Chosen.{AreChosen}
use Rattle.pl_input.specs.Places.{Place}
use Rattle.pl_pair.specs.Asking.{Faults}
use Rattle.pl_pair.specs.Feeds.{EndsUsed, EndsRead}

-- The machine has the whole history, which begins with what each of these passes has seen, and each place past the opening stands in one own list of theirs.
pub record ClosesAll (first : PlanPass) (workers : List Worker) (machine : State) : Type 0 where
  pub signs : Signs
  pub some : 0 < signs.by.opening
  pub each : signs.by.opening + length signs.by.authors ≡ length machine.log
  pub legal : Legal machine.model machine.log
  pub model : model_in (seen_of first) ≡ Some machine.model
  pub first_seen : IsPrefix (seen_of first) (items_of machine.model machine.log signs)
  pub workers_seen : All (HasSeenIn (items_of machine.model machine.log signs)) workers
  pub stands : All (StandsIn (items_of machine.model machine.log signs)) (mine_of first ∷ own_lists_of workers)
  pub owners : IsEachOnce (opening_of first) (length (items_of machine.model machine.log signs)) (λ place. times_in place (mine_of first ∷ own_lists_of workers))

-- ---- the history

-- What a caller had seen at its end: the history begins with it, and the caller's own items stand in it.
pub record HadSeen (history seen : List Noted) (own : List (ℕ × Noted)) : Type 0 where
  pub begins : IsPrefix seen history
  pub holds : StandsIn seen own

-- What a worker that was hired for this did.
pub record Service : Type 0 where
  pub duty : Duty
  pub own : List (ℕ × Noted)
  pub seen : List Noted
  pub last : Role
  pub met : Option Stop

abbrev pub service_of : Worker → Service
service_of w = record { duty = w.duty; own = mine_of w.pass; seen = seen_of w.pass; last = w.role; met = w.refusal }

-- The history begins with all that the worker had seen, in which its own items stand. These are entries of its kind, signed by it: a planner's are what its chooser, made from its seed and passed on from entry to entry, proposes on a sight, a front
-- of the history that holds the entries that it was hired behind and its own entry before, or a rest; an executive's are what it chooses in the world before. A worker that met a refusal may have stopped the plan; one that met a full log had an event of its own kind in the open round.
pub record ServedIn (items : List Noted) (d : Service) : Type 0 where
  pub saw : HadSeen items d.seen d.own
  pub kinds : Made d.met (kind_of (role_of d.duty)) d.own
  pub made : MakesOwn d.met (role_of d.duty) (begun_of d.duty) items d.own d.last
  pub signed : AreSigned (author_of d.duty) d.own
  pub is : worker_of d.last ≡ worker_of (role_of d.duty)
  pub why : Refused d.met d.last items

abbrev pub owns_of : List Service → List (List (ℕ × Noted))
owns_of workers = map (λ (d : Service). d.own) workers

abbrev pub mets_of : List Service → List (Option Stop)
mets_of workers = map (λ (d : Service). d.met) workers

-- The history in the lock goes on from the entries that were handed in, and has one owner for each further entry: inputs are the feeder's, fixes and rests a planner's, commits, dispatches and closes the executive's.
-- It begins with all that the feeder had seen, in which its own entries stand, and with what each worker had seen. The stop, where there is one, is the own item of the feeder, or of a worker that met a refusal.
pub record History (duties : List Duty) (m : Model) (before log : List Entry) : Type 0 where
  pub signs : Signs
  pub feeder : List (ℕ × Noted)
  pub feeder_seen : List Noted
  pub workers : List Service
  pub hired : map (λ (d : Service). d.duty) workers ≡ duties
  pub legal : Legal m log
  pub stands : All (StandsIn (items_of m log signs)) (feeder ∷ owns_of workers)
  pub owners : IsEachOnce (length before) (length (items_of m log signs)) (λ place. times_in place (feeder ∷ owns_of workers))
  pub handed : signs.by.opening ≡ length before
  pub each_signed : signs.by.opening + length signs.by.authors ≡ length log
  pub feeder_signed : AreSigned Feeder feeder
  pub feeder_saw : HadSeen (items_of m log signs) feeder_seen feeder
  pub inputs : AreOfUntil is_input feeder
  pub each : All (ServedIn (items_of m log signs)) workers

-- ---- the messages

-- the messages of the bytes that a reader had left, where they are known
abbrev pub InMessages : Place → (List (Option (List ℕ)) → Type 0) → Type 0
InMessages place P = IfSome place.ahead (λ bytes. P (messages_of (lines_of bytes)))

-- a reader that was handed in had met a limit
abbrev pub HadLimit : Option LineFault → Type 0
HadLimit None = ⊥
HadLimit (Some fault.Read) = ⊥
HadLimit (Some (fault.Long n)) = ⊤
HadLimit (Some fault.Total) = ⊤
HadLimit (Some fault.Memory) = ⊥

-- a reader that was handed in works, or its read had failed
abbrev pub MayFault : Option LineFault → Type 0
MayFault None = ⊤
MayFault (Some fault.Read) = ⊤
MayFault (Some (fault.Long n)) = ⊥
MayFault (Some fault.Total) = ⊥
MayFault (Some fault.Memory) = ⊥

-- why no line was given behind those that were
abbrev pub WhyNone : Halt → Place → (left : ℕ) → Option (List ℕ) → Type 0
WhyNone halt.Limit place left rest = IsStuckKnown place.reader.limit left rest ⊎ HadLimit place.reader.failed
WhyNone halt.Read place left rest = MayFault place.reader.failed
WhyNone halt.Write place left rest = ⊥
WhyNone halt.Full place left rest = ⊥
WhyNone halt.Memory place left rest = ⊥

-- which faults of a reader end the run so
abbrev pub IsCauseOf : Halt → LineFault → Type 0
IsCauseOf halt.Read fault.Read = ⊤
IsCauseOf halt.Limit (fault.Long n) = ⊤
IsCauseOf halt.Limit fault.Total = ⊤
IsCauseOf _ _ = ⊥

-- What such a fault leaves of the reader: it answers the fault from now on.
pub record StoppedBy (e : Halt) (place : Place) (lines : List (List ℕ)) (left : ℕ) (rest : Option (List ℕ)) (behind : Place) : Type 0 where
  pub reason : LineFault
  pub cause : IsCauseOf e reason
  pub stops : StopsAt place.reader lines left rest reason behind.reader behind.ahead

-- These lines were given, and their messages are these inputs, none of which ends the run. Then the reader met a fault, or it had failed before, and is as it was.
pub record Given (e : Halt) (place : Place) (inputs : List (Option (List ℕ))) (behind : Place) : Type 0 where
  pub lines : List (List ℕ)
  pub left : ℕ
  pub rest : Option (List ℕ)
  pub gave : GivesLinesKnown place.reader.limit place.reader.room place.ahead lines left rest
  pub why : WhyNone e place left rest
  pub messages : messages_of lines ≡ inputs ++ None ∷ []
  pub stopped : place.reader.failed ≡ None → StoppedBy e place lines left rest behind
  pub still : (f : LineFault) → place.reader.failed ≡ Some f → behind.reader ≡ place.reader

-- ---- how far the input was read

-- The lines that were asked for, each within the reader's limits: their messages are these and no others. Where the last message is a line, it is the last that was asked for; where it is the end of the
-- input, all bytes were used up; where there is no message, no line was asked for. The reader holds fewer bytes than one read asks for, if it did before.
pub record ReadUpTo (place : Place) (messages : List (Option (List ℕ))) (behind : Place) : Type 0 where
  pub lines : List (List ℕ)
  pub more : List (Option (List ℕ))
  pub gave : GivesLinesKnown place.reader.limit place.reader.room place.ahead lines behind.reader.room behind.ahead
  pub few : length place.reader.held < read_size → length behind.reader.held < read_size
  pub said : messages_of lines ≡ messages ++ more
  pub no_others : (more ≡ []) ⊎ (more ≡ None ∷ [])
  pub no_further : EndsRead messages lines
  pub used_up : EndsUsed place messages behind
  pub none : messages ≡ [] → lines ≡ []

-- ---- how it ended

-- where the sink tells its bytes, the lines of the whole log came behind them
abbrev pub WritesLog : Model → List Entry → Option (List ℕ) → Option (List ℕ) → Type 0
WritesLog m log held now = Adds held now (text_of_log m log)

-- The input has ended, and the last round is closed: the further inputs are all messages, each once and in order. No line was asked for behind the last.
pub record RunsOut (m : Model) (log entries : List Entry) (place : Place) (held : Option (List ℕ)) (behind : Place) (now : Option (List ℕ)) : Type 0 where
  pub done : (world_of m log).done ≡ true
  pub closed : (world_of m log).closed ≡ true
  pub messages : InMessages place (λ messages. inputs_of entries ≡ messages)
  pub read : ReadUpTo place (inputs_of entries) behind
  pub written : WritesLog m log held now

-- No further message was read, between two rounds.
pub record RunsUntil (e : Halt) (m : Model) (log entries : List Entry) (place : Place) (held : Option (List ℕ)) (behind : Place) (now : Option (List ℕ)) : Type 0 where
  pub between : IsBetween (world_of m log)
  pub given : Given e place (inputs_of entries) behind
  pub written : WritesLog m log held now

-- one message, which is the next behind these inputs
abbrev pub IsNext : Place → (inputs pending : List (Option (List ℕ))) → Type 0
IsNext place inputs pending = (next : Option (List ℕ)) × ((pending ≡ next ∷ []) × InMessages place (λ messages. IsPrefix (inputs ++ next ∷ []) messages))

-- The log has as many entries as it may have, and one more is due: the round is open, and no further message was read, or it is closed and the next message was read.
pub record RunsFull (m : Model) (log entries : List Entry) (place : Place) (held : Option (List ℕ)) (behind : Place) (now : Option (List ℕ)) : Type 0 where
  pub full : length log ≡ (options_of log).entries
  pub going : (world_of m log).done ≡ false
  pub pending : List (Option (List ℕ))
  pub read : ReadUpTo place (inputs_of entries ++ pending) behind
  pub due : (((world_of m log).closed ≡ false) × (pending ≡ [])) ⊎ (((world_of m log).closed ≡ true) × IsNext place (inputs_of entries) pending)
  pub written : WritesLog m log held now

-- A front of the text of the whole log was written, and not all of it: all up to the last message's round; or no message was read.
pub data IsWrittenInPart (m : Model) (log entries : List Entry) (held now : Option (List ℕ)) : Type 0 where
  in_last_round : IsCutShort m log held now → IsWrittenInPart m log entries held now
  in_first_round : inputs_of entries ≡ [] → AppendsFront held now (text_of_log m log) → IsWrittenInPart m log entries held now

-- A write failed: the text of the whole log was written in part. No line was asked for behind the last input.
pub record RunsTorn (m : Model) (log entries : List Entry) (place : Place) (held : Option (List ℕ)) (behind : Place) (now : Option (List ℕ)) : Type 0 where
  pub read : ReadUpTo place (inputs_of entries) behind
  pub written : IsWrittenInPart m log entries held now

-- How far was read where memory was wanting for the message behind these inputs: it was read and is no input. Or memory was wanting to read it, and of the reader that is behind it no more is said.
pub data ReadsShort (place : Place) (inputs : List (Option (List ℕ))) (behind : Place) : Type 0 where
  one_behind : (next : Option (List ℕ)) → ReadUpTo place (inputs ++ next ∷ []) behind → InMessages place (λ messages. IsPrefix (inputs ++ next ∷ []) messages) → ReadsShort place inputs behind
  one_unread : (middle : Place) → ReadUpTo place inputs middle → Faults middle fault.Memory behind → ReadsShort place inputs behind

-- Memory was wanting: the text of the whole log was written in part, or all of it, the world not done, and no line was asked for behind the last input. Or, between two rounds, all of the text was written, and memory was wanting for the next message.
pub data RunsShort (m : Model) (log entries : List Entry) (place : Place) (held : Option (List ℕ)) (behind : Place) (now : Option (List ℕ)) : Type 0 where
  in_lines : ReadUpTo place (inputs_of entries) behind → IsWrittenInPart m log entries held now → RunsShort m log entries place held behind now
  all_lines : ReadUpTo place (inputs_of entries) behind → (world_of m log).done ≡ false → WritesLog m log held now → RunsShort m log entries place held behind now
  behind_lines : IsBetween (world_of m log) → ReadsShort place (inputs_of entries) behind → WritesLog m log held now → RunsShort m log entries place held behind now

abbrev pub RunEnds : Result (Unit {0}) Halt → Model → List Entry → List Entry → Place → Option (List ℕ) → Place → Option (List ℕ) → Type 0
RunEnds (Ok u) m log entries place held behind now = RunsOut m log entries place held behind now
RunEnds (Err halt.Read) m log entries place held behind now = RunsUntil halt.Read m log entries place held behind now
RunEnds (Err halt.Limit) m log entries place held behind now = RunsUntil halt.Limit m log entries place held behind now
RunEnds (Err halt.Full) m log entries place held behind now = RunsFull m log entries place held behind now
RunEnds (Err halt.Write) m log entries place held behind now = RunsTorn m log entries place held behind now
RunEnds (Err halt.Memory) m log entries place held behind now = RunsShort m log entries place held behind now

-- A run: one history, its further inputs a front of the messages, and what its answer says. Where the input ended, the feeder had seen all of it. The feeder stops the plan where it met a fault, a limit or a refusal: which of them, that is the answer. It is that of a full log only where no worker met another refusal.
pub record TeamRun (duties : List Duty) (start : State) (place : Place) (held : Option (List ℕ)) (r : Result (Unit {0}) Halt) (behind : Place) (now : Option (List ℕ)) : Type 0 where
  pub log : List Entry
  pub entries : List Entry
  pub begins : log ≡ start.log ++ entries
  pub history : History duties start.model start.log log
  pub chosen : AreChosen start.model start.log entries
  pub feeder_goes : r ≡ Ok tt → AreOf is_input history.feeder
  pub feeder_saw_all : r ≡ Ok tt → entries_in history.feeder_seen ≡ log
  pub refused : r ≡ Err halt.Full → (met_by (mets_of history.workers)).other ≡ false
  pub messages : InMessages place (λ messages. IsPrefix (inputs_of entries) messages)
  pub ends : RunEnds r start.model log entries place held behind now

-- ---- what a run hands back

-- how it ended
abbrev pub answer_of : Result Ended Halt → Result (Unit {0}) Halt
answer_of (Ok e) = Ok tt
answer_of (Err h) = Err h

-- Where it came to its end it hands a machine back, and its marks.
abbrev pub EndsWith : Result (Unit {0}) Halt → State → Signed → Result Ended Halt → Type 0
EndsWith (Ok u) machine by (Ok e) = (e.machine ≡ machine) × (e.marks.items ≡ marks_of by)
EndsWith (Ok u) machine by (Err h) = ⊥
EndsWith (Err d) machine by (Ok e) = ⊥
EndsWith (Err d) machine by (Err h) = h ≡ d

-- the machine has the whole log, and the marks are those of its authors
abbrev pub HandsBack : Result Ended Halt → Model → List Entry → Signed → Type 0
HandsBack (Ok e) m log by = (e.machine.model ≡ m) × (e.machine.log ≡ log) × (e.marks.items ≡ marks_of by)
HandsBack (Err h) m log by = ⊤

-- A run whose log is this, with these authors.
pub record RunsTo (whole : List Entry) (by : Signed) (duties : List Duty) (start : State) (place : Place) (held : Option (List ℕ)) (r : Result (Unit {0}) Halt) (behind : Place) (now : Option (List ℕ)) : Type 0 where
  pub run : TeamRun duties start place held r behind now
  pub log_is : run.log ≡ whole
  pub by_is : run.history.signs.by ≡ by

-- A run, and what it hands back.
pub record RunsTeam (duties : List Duty) (start : State) (place : Place) (held : Option (List ℕ)) (r : Result Ended Halt) (behind : Place) (now : Option (List ℕ)) : Type 0 where
  pub run : TeamRun duties start place held (answer_of r) behind now
  pub back : HandsBack r start.model run.log run.history.signs.by

-- ---- a pair

-- a planner, hired behind so many entries, and an executive
abbrev pub pair_of : ℕ → ℕ → List Duty
pair_of seed begun = Repair 1 seed begun ∷ Execute ∷ []

abbrev pub PairRun : ℕ → State → Place → Option (List ℕ) → Result (Unit {0}) Halt → Place → Option (List ℕ) → Type 0
PairRun seed start place held r behind now = TeamRun (pair_of seed (length start.log)) start place held r behind now
