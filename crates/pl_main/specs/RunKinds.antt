-- The kinds of run: of one thread, and of an executive and planners in threads of their own.
use Rattle.std.specs.Prelude.{◌≡◌, ℕ, List, [], ◌∷◌, ◌++◌, true, Option}
use Rattle.pl_model.specs.declared.whole.Model.{Model}
use Rattle.pl_entry.specs.declared.entry.Entry.{Entry}
use Rattle.pl_machine.specs.Legal.{Legal, opening, options_of, world_of}
use Rattle.pl_machine.specs.Finished.{inputs_of}
use Rattle.pl_acts.specs.Items.{entries_in}
use Rattle.pl_acts.specs.Roles.{is_input}
use Rattle.pl_pair.specs.Served.{AreOf}
use Rattle.pl_pair.specs.Chosen.{AreChosen}
use Rattle.pl_marks.specs.Marks.{marks_of}
use Rattle.pl_pair.specs.declared.duty.Duty.{Duty}
use Rattle.pl_pair.specs.Runs.{pair_of, History}
use Rattle.pl_many.specs.CrewRuns.{crew_of}
use Rattle.pl_many.specs.Tallies.{lines_of}
use Rattle.pl_main.specs.Solo.{Rule, FollowsAll, IsSoloEvent, IsAheadEvent}
use Rattle.pl_main.specs.Top.{program_options, HasRead, WasGiven}
use Rattle.pl_main.specs.declared.command.Team.{Team}
use Rattle.pl_main.specs.declared.command.Team.TheVariants as team
use Rattle.pl_main.specs.Endings.{RunKind}

-- ---- one thread

-- A legal log that was opened with the turns of the words and the limits of the program. Behind the open entry, the world before
-- each event allows it.
pub record IsRunBy (R : Rule) (turns : ℕ) (m : Model) (log : List Entry) : Type 0 where
  pub legal : Legal m log
  pub solo : FollowsAll R m log
  pub options : options_of log ≡ program_options turns

-- Memory ran out between two rounds: these messages were read. Nothing is said of what the source has left, since memory
-- may have run out while the next line was read.
pub record IsBetweenRounds (words : List ℕ) (m : Model) (log : List Entry) (input : List ℕ) : Type 0 where
  pub given : WasGiven words (inputs_of log) input
  pub closed : (world_of m log).closed ≡ true

abbrev pub run_by : Rule → ℕ → RunKind
run_by R turns = record {
  log = IsRunBy R turns;
  done_log = IsRunBy R turns;
  tail = λ m log says. [];
  pause = λ words m log unanswered input source_left. IsBetweenRounds words m log input;
}

-- Each event that is no input is fixed by the world before it.
abbrev pub solo_run : ℕ → RunKind
solo_run turns = run_by IsSoloEvent turns

-- Each event that is no input and no repair is fixed by the world before it; a repair is a legal candidate of a standing conflict.
abbrev pub look_run : ℕ → RunKind
look_run turns = run_by IsAheadEvent turns

-- ---- an executive and planners in threads of their own

-- The log of a run by a feeder, which is the thread that reads the messages, and by workers with these duties, each in a thread
-- of its own. It was opened with the turns of the words and the limits of the program, it is legal (`history.legal`), and each
-- entry behind the open one was made by exactly one of them (`history`): the inputs by the feeder, the repairs and the rests by a
-- planner, the commits, dispatches and closes by the executive. A planner's repair is what its chooser, made from the seed of its
-- duty, proposes in the world behind some front of the log, which is the world that the planner had looked at. The executive's
-- entry is what it chooses in the world before the entry (`chosen`).
pub record IsTeamLog (turns : ℕ) (duties : List Duty) (m : Model) (log : List Entry) : Type 0 where
  pub entries : List Entry
  pub opened : log ≡ opening (program_options turns) ∷ entries
  pub history : History duties m (opening (program_options turns) ∷ []) log
  pub chosen : AreChosen m (opening (program_options turns) ∷ []) entries

-- Such a log of a run that was not stopped: the feeder made inputs, and nothing else. The feeder, which writes the journal, had
-- seen all of the log at the end.
pub record IsTeamLogToEnd (turns : ℕ) (duties : List Duty) (m : Model) (log : List Entry) : Type 0 where
  pub team : IsTeamLog turns duties m log
  pub feeder : AreOf is_input team.history.feeder
  pub seen : entries_in team.history.feeder_seen ≡ log

-- Memory ran out for the message that follows these. Either it was read, and no line behind it was asked for; or memory ran out
-- while it was read, and then nothing is said of what the source has left.
pub data ReadsInPart (words : List ℕ) (messages unanswered : List (Option (List ℕ))) (input : List ℕ) (source_left : Option (List ℕ)) : Type 0 where
  to_next : (next : Option (List ℕ)) (more : List (Option (List ℕ))) → unanswered ≡ next ∷ more → HasRead words (messages ++ next ∷ []) input source_left → ReadsInPart words messages unanswered input source_left
  at_next : WasGiven words messages input → ReadsInPart words messages unanswered input source_left

-- Memory ran out within a round, and no line behind the round's message was asked for; or it ran out between two rounds, for the
-- message of the next one.
pub data IsWithinOrBetween (words : List ℕ) (m : Model) (log : List Entry) (unanswered : List (Option (List ℕ))) (input : List ℕ) (source_left : Option (List ℕ)) : Type 0 where
  in_round : HasRead words (inputs_of log) input source_left → IsWithinOrBetween words m log unanswered input source_left
  between_rounds : ReadsInPart words (inputs_of log) unanswered input source_left → (world_of m log).closed ≡ true → IsWithinOrBetween words m log unanswered input source_left

-- what is written behind the journal of a run that is done
abbrev pub TeamTail : ℕ → List Duty → Type 0
TeamTail turns duties = (m : Model) (log : List Entry) → IsTeamLogToEnd turns duties m log → List ℕ

abbrev pub team_run : (turns : ℕ) (duties : List Duty) → TeamTail turns duties → RunKind
team_run turns duties tail = record {
  log = IsTeamLog turns duties;
  done_log = IsTeamLogToEnd turns duties;
  tail = tail;
  pause = IsWithinOrBetween;
}

abbrev pub no_tail : (turns : ℕ) (duties : List Duty) → TeamTail turns duties
no_tail turns duties m log says = []

-- the run of one planner, behind whose journal nothing is written
abbrev pub pair_run : (turns seed : ℕ) → RunKind
pair_run turns seed = team_run turns (pair_of seed 1) (no_tail turns (pair_of seed 1))

-- A line for each planner, by number: how many entries it made, and how many of them are repairs that were answered `ok`.
abbrev pub planner_lines : (turns planners seed : ℕ) → TeamTail turns (crew_of planners seed 1)
planner_lines turns planners seed m log says = lines_of planners (marks_of says.team.history.signs.by) log

-- the run of several planners, behind whose journal stand their lines
abbrev pub crew_run : (turns planners seed : ℕ) → RunKind
crew_run turns planners seed = team_run turns (crew_of planners seed 1) (planner_lines turns planners seed)

-- the kind of run of a team
abbrev pub run_of : Team → ℕ → RunKind
run_of (team.Pair seed) turns = pair_run turns seed
run_of (team.Crew planners seed) turns = crew_run turns planners seed
