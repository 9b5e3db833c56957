-- How long the journal of a run is.
use Rattle.std.specs.Prelude.{ℕ, ◌+◌, ◌*◌, ◌≤◌, List, length, Option}
use Rattle.pl_model.specs.declared.whole.Model.{Model}
use Rattle.pl_entry.specs.declared.entry.Entry.{Entry}
use Rattle.pl_input.specs.Words.{split_of}
use Rattle.pl_machine.specs.Legal.{Legal, options_of}
use Rattle.pl_machine.specs.Finished.{inputs_of}
use Rattle.pl_pair.specs.declared.duty.Duty.{Duty}
use Rattle.pl_main.specs.Solo.{Solo, FollowsAll, IsAheadEvent}
use Rattle.pl_main.specs.Endings.{IsFull}
use Rattle.pl_main.specs.RunKinds.{solo_run, look_run, IsTeamLog, TeamTail, team_run}

-- Beside its opening, a log has ten thousand commands at most, and for each input as many entries as a round has turns, and four.
abbrev pub IsOfLength : List Entry → Type 0
IsOfLength log = length log ≤ 10001 + length (inputs_of log) * ((options_of log).turns + 4)

-- There are so many messages that such a log may be full.
abbrev pub HasMany : (turns : ℕ) (input : List ℕ) → Type 0
HasMany turns input = 250000 ≤ 10001 + length (split_of input).messages * (turns + 4)

-- Each log of one thread that takes the least repair is no longer.
abbrev pub SoloIsBounded : Model → Type 0
SoloIsBounded m = (log : List Entry) → Legal m log → Solo m log → IsOfLength log

-- Nor is the log of a run that looks ahead.
abbrev pub AheadIsBounded : Model → Type 0
AheadIsBounded m = (log : List Entry) → Legal m log → FollowsAll IsAheadEvent m log → IsOfLength log

-- The log of a run of a pair or a crew is no longer than that with twice as many turns, and six entries in the place of four.
abbrev pub TeamIsBounded : Model → Type 0
TeamIsBounded m = (turns : ℕ) (duties : List Duty) (log : List Entry) → IsTeamLog turns duties m log
    → length log ≤ 10001 + length (inputs_of log) * (2 * turns + 6)

-- A run whose log is full has so many messages that its log may be as long.
abbrev pub FullHasMany : Type 0
FullHasMany = (turns : ℕ) (input : List ℕ) (left held now : Option (List ℕ)) → IsFull (solo_run turns) input left held now
    → HasMany turns input

-- So has a run that looks ahead.
abbrev pub AheadFullHasMany : Type 0
AheadFullHasMany = (turns : ℕ) (input : List ℕ) (left held now : Option (List ℕ)) → IsFull (look_run turns) input left held now
    → HasMany turns input

-- So has a run of a pair or a crew, with twice as many turns.
abbrev pub TeamFullHasMany : Type 0
TeamFullHasMany = (turns : ℕ) (duties : List Duty) (tail : TeamTail turns duties) (input : List ℕ) (left held now : Option (List ℕ)) → IsFull (team_run turns duties tail) input left held now
    → 250000 ≤ 10001 + length (split_of input).messages * (2 * turns + 6)
