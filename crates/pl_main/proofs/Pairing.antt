-- The end of a run of a pair over an input: from its head, and from what the pair did.
use Rattle.std.proofs.Common.{◌≡◌, ℕ, ◌<◌, ◌≤◌, List, [], ◌∷◌, ◌++◌, length, false, Option, Some, None, inl, inr, Result, Ok, Err, refl, sym, ◌∙◌, ap, subst, arith}
use mathlib.Core.List.{IsPrefix}
use Rattle.std.specs.declared.vec.Vec.{Vec}
use Rattle.std.specs.declared.alloc.Global.{Global}
use Rattle.pl_io.specs.declared.errors.LineFault.{LineFault}
use Rattle.pl_io.specs.declared.errors.LineFault.TheVariants as fault
use Rattle.pl_io.specs.Lines.{ahead, lines_of}
use Rattle.pl_io.specs.Reader.{Reader}
use Rattle.pl_io.specs.Sparing.{read_size, shows_next}
use Rattle.pl_model.specs.declared.whole.Model.{Model}
use Rattle.pl_model.specs.Checked.{IsChecked}
use Rattle.pl_entry.specs.declared.entry.Entry.{Entry}
use Rattle.pl_input.specs.Words.{lines_behind, messages_of, split_of, model_text_of}
use Rattle.pl_machine.specs.Legal.{options_of}
use Rattle.pl_machine.specs.Finished.{inputs_of}
use Rattle.pl_check.specs.Accepting.{IsModelText}
use Rattle.pl_input.specs.declared.halt.Halt.{Halt}
use Rattle.pl_input.specs.declared.halt.Halt.TheVariants as halt
use Rattle.pl_input.specs.Heads.{IsBegun}
use Rattle.pl_input.specs.Reads.{GivesLines, IsUsedUp, StopsAt}
use Rattle.pl_input.specs.Stops.{HaltFor, IsStuck, ReadLeaves, LimitLeaves}
use Rattle.pl_driver.specs.CutShort.{IsCutShort}
use Rattle.pl_input.proofs.Reading.{known, gave_append, gave_lines}
use Rattle.pl_input.specs.Places.{Place}
use Rattle.pl_pair.specs.Runs.{pair_of, InMessages, HadLimit, WhyNone, IsCauseOf, StoppedBy, ReadUpTo, RunsUntil, IsWrittenInPart, ReadsShort, one_behind, one_unread, RunsShort, in_lines, all_lines, behind_lines, TeamRun}
use Rattle.pl_journal.specs.Rendering.Lines.{text_of_log}
use Rattle.pl_journal.specs.Written.{Adds}
use Rattle.pl_marks.specs.Marks.{Signed}
use Rattle.pl_pair.specs.declared.duty.Duty.{Duty}
use Rattle.pl_pair.proofs.Cutting.{cut_short}
use Rattle.pl_pair.proofs.Running.{runs_none}
use Rattle.pl_main.specs.declared.command.Team.TheVariants as team
use Rattle.pl_main.specs.Runs.{IsKeptModel, fresh_state, ModelRunsAs}
use Rattle.pl_main.specs.Top.{line_limit, total_limit, fresh_reader, HasRead, ShowsNoLine, ShowsLimit, WasGiven}
use Rattle.pl_input.proofs.Stopping.{limit_stops}
use Rattle.pl_input.proofs.Beginning.{head_then}
use Rattle.pl_main.proofs.Running.{EndsOver}
use Rattle.pl_main.specs.Endings.{RunKind, text_with, HasBegun, EndedAs, IsDone, IsFull, IsOutOfMemory, WaitsBehind, behind_entry, in_entry, in_journal}
use Rattle.pl_main.specs.RunKinds.{IsTeamLog, TeamTail, no_tail, team_run, ReadsInPart, at_next, between_rounds, in_round, pair_run, to_next}
use Rattle.pl_main.proofs.LastLines.{ends_behind}
use Rattle.pl_main.proofs.Heading.{shows_limit, shows_none, split_is}

-- ---- a machine that was not opened

pub none_opened : (turns : ℕ) (duties : List Duty) (m : Model) (place : Place) (held : Option (List ℕ)) → IsChecked m → (1 ≤ turns) × (turns ≤ 1000) → TeamRun duties (fresh_state turns m) place held (Err halt.Memory) place held
none_opened turns duties m place held checked bounds =
    runs_none duties (fresh_state turns m) place held
    record {
      answers = refl;
      options = record { turns = (bounds.0, bounds.1); live = (omega arith, omega arith); goals = (omega arith, omega arith); entries = (omega arith, omega arith) };
      steps = tt;
      bounded = omega arith;
    }

-- ---- behind a head

-- the messages that a pair was handed are those of the input
pub record IsBehind (input words : List ℕ) (place : Place) : Type 0 where
  heads : List (List ℕ)
  rest : List ℕ
  limit : place.reader.limit ≡ line_limit
  few : length place.reader.held < read_size
  working : place.reader.failed ≡ None
  gave : GivesLines line_limit total_limit input heads place.reader.room rest
  is : place.ahead ≡ Some rest
  text : (split_of input).text ≡ Some words
  messages : (split_of input).messages ≡ messages_of (lines_of rest)
  both : (more : List (List ℕ)) → (model_text_of (heads ++ more) ≡ Some words) × (lines_behind (heads ++ more) ≡ more)

pub is_behind : (kept : Option (Vec ℕ Global)) (place : Place) (input : List ℕ) → (begun : IsBegun (fresh_reader line_limit) (Some input) kept place.reader place.ahead) → IsBehind input begun.words place
is_behind kept place input begun =
    let k = known line_limit total_limit line_limit total_limit (Some input) input begun.lines place.reader.room place.ahead refl refl refl begun.took.gave in
    let split = split_is input begun.lines begun.words (lines_of k.rest) begun.head (gave_lines line_limit total_limit input begun.lines place.reader.room k.rest k.gave) in
    record {
      heads = begun.lines;
      rest = k.rest;
      limit = begun.took.limit;
      few = begun.took.few (omega arith);
      working = begun.took.working;
      gave = k.gave;
      is = k.is;
      text = split.text;
      messages = split.messages;
      both = λ more. head_then begun.lines begun.words more begun.head;
    }

-- what is said of the messages that were handed in
in_messages : (place : Place) (rest : List ℕ) (P : List (Option (List ℕ)) → Type 0) → place.ahead ≡ Some rest → InMessages place P → P (messages_of (lines_of rest))
in_messages place rest P is all = subst (λ (b : Option (List ℕ)). InMessages (record place { ahead = b }) P) is all

-- ---- the log

-- the log of a run over a fresh machine
record IsOpened (turns : ℕ) (duties : List Duty) (m : Model) (log entries : List Entry) : Type 0 where
  team : IsTeamLog turns duties m log
  inputs : inputs_of log ≡ inputs_of entries

opened : (turns : ℕ) (duties : List Duty) (m : Model) (place : Place) (held : Option (List ℕ)) (e : Result (Unit {0}) Halt) (last : Place) (now : Option (List ℕ)) → (run : TeamRun duties (fresh_state turns m) place held e last now) → IsOpened turns duties m run.log run.entries
opened turns duties m place held e last now run = record {
  team = record { entries = run.entries; opened = run.begins; history = run.history; chosen = run.chosen };
  inputs = ap inputs_of run.begins;
}

-- ---- how runs end

-- how far the input was read
read_of : (input words : List ℕ) (place last : Place) (messages : List (Option (List ℕ))) (source_left : Option (List ℕ)) → IsBehind input words place → ahead last.reader.held source_left ≡ last.ahead → ReadUpTo place messages last
    → HasRead words messages input source_left
read_of input words place last messages source_left behind same read =
    let k = known place.reader.limit place.reader.room line_limit place.reader.room place.ahead behind.rest read.lines last.reader.room last.ahead behind.limit refl behind.is read.gave in
    let both = behind.both read.lines in
    record {
      lines = behind.heads ++ read.lines;
      left = last.reader.room;
      rest = k.rest;
      more = read.more;
      gave = gave_append line_limit total_limit input behind.heads read.lines place.reader.room behind.rest last.reader.room k.rest behind.gave k.gave;
      text = both.0;
      behind = ap messages_of both.1 ∙ read.said;
      no_others = read.no_others;
      no_further = λ front line e. (let found = read.no_further front line e in ends_behind behind.heads read.lines found.0 line found.1);
      used_up = λ front e.
          (let used : last.ahead ≡ Some [] = subst (λ (b : Option (List ℕ)). IsUsedUp b last.ahead) behind.is (read.used_up front e) in
          let h : Some k.rest ≡ Some [] = sym k.is ∙ used in (cc));
      none = λ e. both.1 ∙ read.none e;
      source = record { came = last.reader.held; few = read.few behind.few; behind = same ∙ k.is };
    }

-- the lines that were given
given_of : (input words : List ℕ) (place last : Place) (messages : List (Option (List ℕ))) → IsBehind input words place → ReadUpTo place messages last → WasGiven words messages input
given_of input words place last messages behind read =
    let k = known place.reader.limit place.reader.room line_limit place.reader.room place.ahead behind.rest read.lines last.reader.room last.ahead behind.limit refl behind.is read.gave in
    let both = behind.both read.lines in
    record {
      lines = behind.heads ++ read.lines;
      left = last.reader.room;
      rest = k.rest;
      gave = gave_append line_limit total_limit input behind.heads read.lines place.reader.room behind.rest last.reader.room k.rest behind.gave k.gave;
      head = both.0;
      more = read.more;
      behind = ap messages_of both.1 ∙ read.said;
    }

-- a run that is done, and its journal
pub record DoneOf (turns : ℕ) (duties : List Duty) (tail : TeamTail turns duties) (input : List ℕ) (source_left : Option (List ℕ)) (log : List Entry) (by : Signed) (held now : Option (List ℕ)) : Type 0 where
  pub done : IsDone (team_run turns duties tail) input source_left None None
  pub written : Adds held now (text_of_log done.model done.log)
  pub log_is : done.log ≡ log
  pub by_is : done.says.team.history.signs.by ≡ by

-- the same with the lines behind it
pub done_with : (kind : RunKind) (input : List ℕ) (source_left held now : Option (List ℕ)) → (done : IsDone kind input source_left None None) → Adds held now (text_with (kind.tail done.model done.log done.says) done.model done.log) → IsDone kind input source_left held now
done_with kind input source_left held now done adds = record {
  model = done.model;
  log = done.log;
  words = done.words;
  text = done.text;
  accepted = done.accepted;
  finished = done.finished;
  closed = done.closed;
  says = done.says;
  read = done.read;
  written = adds;
}

pub ends_done : (turns : ℕ) (duties : List Duty) (tail : TeamTail turns duties) (input words : List ℕ) (place last : Place) (m : Model) (source_left held now : Option (List ℕ)) → IsBehind input words place → IsModelText words m → ahead last.reader.held source_left ≡ last.ahead
    → (run : TeamRun duties (fresh_state turns m) place held (Ok tt) last now) → DoneOf turns duties tail input source_left run.log run.history.signs.by held now
unfolding opened
ends_done turns duties tail input words place last m source_left held now behind accepted same run =
    let o = opened turns duties m place held (Ok tt) last now run in
    record {
      done = record {
        model = m;
        log = run.log;
        words = words;
        text = behind.text;
        accepted = accepted;
        finished = record {
          legal = run.history.legal;
          done = run.ends.done;
          inputs = o.inputs ∙ in_messages place behind.rest (λ messages. inputs_of run.entries ≡ messages) behind.is run.ends.messages ∙ sym behind.messages;
        };
        closed = run.ends.closed;
        says = record { team = o.team; feeder = run.feeder_goes refl; seen = run.feeder_saw_all refl };
        read = subst (λ (is : List (Option (List ℕ))). HasRead words is input source_left) (sym o.inputs) (read_of input words place last (inputs_of run.entries) source_left behind same run.ends.read);
        written = tt;
      };
      written = run.ends.written;
      log_is = refl;
      by_is = refl;
    }

-- the lines behind which no message was given
record IsStopped (e : Halt) (turns : ℕ) (duties : List Duty) (tail : TeamTail turns duties) (input : List ℕ) (source_left held now : Option (List ℕ)) : Type 0 where
  lines : List (List ℕ)
  left : ℕ
  rest : List ℕ
  gave : GivesLines line_limit total_limit input lines left rest
  why : e ≡ halt.Limit → IsStuck line_limit left rest
  source : e ≡ halt.Read → ShowsNoLine line_limit left rest source_left
  past : e ≡ halt.Limit → ShowsLimit line_limit left rest source_left
  waits : WaitsBehind (team_run turns duties tail) lines held now

-- a reader that works had met no limit
why_stuck : (e : Halt) (place : Place) (left : ℕ) (rest : List ℕ) → place.reader.limit ≡ line_limit → place.reader.failed ≡ None → WhyNone e place left (Some rest) → e ≡ halt.Limit → IsStuck line_limit left rest
why_stuck halt.Limit place left rest limit working (inl stuck) is = subst (λ n. IsStuck n left rest) limit stuck
why_stuck halt.Limit place left rest limit working (inr had) is = absurd (subst HadLimit working had)
why_stuck halt.Read place left rest limit working why is = absurd (let h : halt.Read ≡ halt.Limit = is in (cc))
why_stuck halt.Write place left rest limit working why is = absurd why
why_stuck halt.Full place left rest limit working why is = absurd why
why_stuck halt.Memory place left rest limit working why is = absurd why

-- what a failed read leaves
leaves_by : (old new : Reader) (lines : List (List ℕ)) (left : ℕ) (rest after : Option (List ℕ)) → StopsAt old lines left rest fault.Read new after → ReadLeaves old.limit left rest new.held after
leaves_by old new lines left rest after stops = record {
  shows = subst (λ n. shows_next n left new.held ≡ false) stops.limit (subst (λ n. shows_next new.limit n new.held ≡ false) stops.room stops.shown);
  kept = stops.kept;
}

read_leaves_by : (place last : Place) (lines : List (List ℕ)) (left : ℕ) (rest : Option (List ℕ)) (f : LineFault) → IsCauseOf halt.Read f → StopsAt place.reader lines left rest f last.reader last.ahead → ReadLeaves place.reader.limit left rest last.reader.held last.ahead
read_leaves_by place last lines left rest fault.Read cause stops = leaves_by place.reader last.reader lines left rest last.ahead stops
read_leaves_by place last lines left rest (fault.Long n) cause stops = absurd cause
read_leaves_by place last lines left rest fault.Total cause stops = absurd cause
read_leaves_by place last lines left rest fault.Memory cause stops = absurd cause

stopped_leaves : (e : Halt) (place last : Place) (lines : List (List ℕ)) (left : ℕ) (rest : Option (List ℕ)) → StoppedBy e place lines left rest last → e ≡ halt.Read → ReadLeaves place.reader.limit left rest last.reader.held last.ahead
stopped_leaves e place last lines left rest stopped is = read_leaves_by place last lines left rest stopped.reason (subst (λ (x : Halt). IsCauseOf x stopped.reason) is stopped.cause) stopped.stops

-- what ends a run of a pair by a limit is a fault of length
by_limit : (f : LineFault) → IsCauseOf halt.Limit f → HaltFor f halt.Limit
by_limit fault.Read cause = absurd cause
by_limit (fault.Long n) cause = refl
by_limit fault.Total cause = refl
by_limit fault.Memory cause = absurd cause

stopped_past : (e : Halt) (place last : Place) (lines : List (List ℕ)) (left : ℕ) (rest : Option (List ℕ)) → StoppedBy e place lines left rest last → e ≡ halt.Limit → length place.reader.held < read_size
    → LimitLeaves place.reader.limit left rest last.reader.held last.ahead
stopped_past e place last lines left rest stopped is small =
    limit_stops place.reader last.reader lines left rest last.ahead stopped.reason stopped.stops (by_limit stopped.reason (subst (λ (x : Halt). IsCauseOf x stopped.reason) is stopped.cause)) small

until : (e : Halt) (turns : ℕ) (duties : List Duty) (tail : TeamTail turns duties) (input words : List ℕ) (place last : Place) (m : Model) (source_left held now : Option (List ℕ)) → IsBehind input words place → IsModelText words m → ahead last.reader.held source_left ≡ last.ahead
    → (run : TeamRun duties (fresh_state turns m) place held (Err e) last now) → RunsUntil e m run.log run.entries place held last now → IsStopped e turns duties tail input source_left held now
until e turns duties tail input words place last m source_left held now behind accepted same run ends =
    let o = opened turns duties m place held (Err e) last now run in
    let g = ends.given in
    let k = known place.reader.limit place.reader.room line_limit place.reader.room place.ahead behind.rest g.lines g.left g.rest behind.limit refl behind.is g.gave in
    let both = behind.both g.lines in
    record {
      lines = behind.heads ++ g.lines;
      left = g.left;
      rest = k.rest;
      gave = gave_append line_limit total_limit input behind.heads g.lines place.reader.room behind.rest g.left k.rest behind.gave k.gave;
      why = why_stuck e place g.left k.rest behind.limit behind.working (subst (λ (r : Option (List ℕ)). WhyNone e place g.left r) k.is g.why);
      source = λ read.
          shows_none line_limit g.left g.rest k.rest last.reader.held last.ahead source_left
          (subst (λ n. ReadLeaves n g.left g.rest last.reader.held last.ahead) behind.limit (stopped_leaves e place last g.lines g.left g.rest (g.stopped behind.working) read)) k.is same;
      past = λ over.
          shows_limit line_limit g.left g.rest k.rest last.reader.held last.ahead source_left
          (subst (λ n. LimitLeaves n g.left g.rest last.reader.held last.ahead) behind.limit (stopped_past e place last g.lines g.left g.rest (g.stopped behind.working) over behind.few)) k.is same;
      waits = record {
        model = m;
        log = run.log;
        words = words;
        text = both.0;
        accepted = accepted;
        says = o.team;
        messages = ap messages_of both.1 ∙ g.messages ∙ ap (λ (ns : List (Option (List ℕ))). ns ++ None ∷ []) (sym o.inputs);
        closed = ends.between.0;
        going = ends.between.1;
        written = ends.written;
      };
    }

-- what stands behind a front, where more of it is known
next_behind : (front rest more : List (Option (List ℕ))) (next : Option (List ℕ)) → front ++ rest ≡ (front ++ next ∷ []) ++ more → rest ≡ next ∷ more
next_behind [] rest more next is = is
next_behind (x ∷ front) rest more next is = next_behind front rest more next (let h : x ∷ (front ++ rest) ≡ x ∷ ((front ++ next ∷ []) ++ more) = is in (cc))

ends_full : (turns : ℕ) (duties : List Duty) (tail : TeamTail turns duties) (input words : List ℕ) (place last : Place) (m : Model) (source_left held now : Option (List ℕ)) → IsBehind input words place → IsModelText words m → ahead last.reader.held source_left ≡ last.ahead
    → TeamRun duties (fresh_state turns m) place held (Err halt.Full) last now → IsFull (team_run turns duties tail) input source_left held now
ends_full turns duties tail input words place last m source_left held now behind accepted same run =
    let o = opened turns duties m place held (Err halt.Full) last now run in
    let front = in_messages place behind.rest (λ messages. IsPrefix (inputs_of run.entries) messages) behind.is run.messages in
    let behind_front : (split_of input).messages ≡ inputs_of run.entries ++ front.0 = behind.messages ∙ sym front.1 in
    record {
      model = m;
      log = run.log;
      words = words;
      text = behind.text;
      accepted = accepted;
      says = o.team;
      unanswered = front.0;
      messages = behind_front ∙ ap (λ (ns : List (Option (List ℕ))). ns ++ front.0) (sym o.inputs);
      full = run.ends.full ∙ ap (λ x. x.entries) (ap options_of run.begins);
      going = run.ends.going;
      pending = run.ends.pending;
      read = subst (λ (is : List (Option (List ℕ))). HasRead words (is ++ run.ends.pending) input source_left) (sym o.inputs) (read_of input words place last (inputs_of run.entries ++ run.ends.pending) source_left behind same run.ends.read);
      due = elim run.ends.due [
        | inl open_round ↦ inl open_round
        | inr more ↦ (
            let next = more.1 in
            let on = in_messages place behind.rest (λ messages. IsPrefix (inputs_of run.entries ++ next.0 ∷ []) messages) behind.is next.1.1 in
            inr (more.0, (next.0, (next.1.0, (on.0, next_behind (inputs_of run.entries) front.0 on.0 next.0 (front.1 ∙ sym on.1))))))
      ];
      written = run.ends.written;
    }

-- ---- a run that was cut short

-- what is a front of the messages, told of other inputs
inputs_front : (place : Place) (xs ys : List (Option (List ℕ))) → xs ≡ ys → InMessages place (λ messages. IsPrefix ys messages) → InMessages place (λ messages. IsPrefix xs messages)
inputs_front place xs ys same front = subst (λ (ns : List (Option (List ℕ))). InMessages place (λ messages. IsPrefix ns messages)) (sym same) front

-- the inputs of the log of a run are a front of the messages
front_read : (turns : ℕ) (duties : List Duty) (tail : TeamTail turns duties) (input words : List ℕ) (place last : Place) (m : Model) (held : Option (List ℕ)) (e : Result (Unit {0}) Halt) (now : Option (List ℕ)) → IsBehind input words place → (run : TeamRun duties (fresh_state turns m) place held e last now)
    → IsPrefix (inputs_of run.log) (split_of input).messages
front_read turns duties tail input words place last m held e now behind run =
    let o = opened turns duties m place held e last now run in
    let front = in_messages place behind.rest (λ messages. IsPrefix (inputs_of run.log) messages) behind.is (inputs_front place (inputs_of run.log) (inputs_of run.entries) o.inputs run.messages) in
    (front.0, front.1 ∙ sym behind.messages)

-- a run that was cut short
module _ (turns : ℕ) (duties : List Duty) (tail : TeamTail turns duties) (input words : List ℕ) (place last : Place) (m : Model) (held : Option (List ℕ)) (e : Result (Unit {0}) Halt) (now : Option (List ℕ)) (behind : IsBehind input words place) (run : TeamRun duties (fresh_state turns m) place held e last now) where
  log_front : IsPrefix (inputs_of run.log) (split_of input).messages
  log_front = front_read turns duties tail input words place last m held e now behind run

  log_inputs : inputs_of run.entries ≡ inputs_of run.log
  log_inputs =
      let o = opened turns duties m place held e last now run in
      sym o.inputs

  log_cut : IsWrittenInPart m run.log run.entries held now → IsCutShort m run.log held now
  log_cut cut = cut_short m run.log run.entries held now log_inputs cut

  abbrev has_begun : IsModelText words m → HasBegun (team_run turns duties tail) input
  has_begun accepted = record {
    model = m;
    log = run.log;
    words = words;
    text = behind.text;
    accepted = accepted;
    says = (opened turns duties m place held e last now run).team;
    unanswered = log_front.0;
    messages = sym log_front.1;
  }

  module _ (source_left : Option (List ℕ)) (same : ahead last.reader.held source_left ≡ last.ahead) where
    log_read : ReadUpTo place (inputs_of run.entries) last → HasRead words (inputs_of run.log) input source_left
    log_read read = subst (λ (is : List (Option (List ℕ))). HasRead words is input source_left) log_inputs (read_of input words place last (inputs_of run.entries) source_left behind same read)

    part_read : ReadsShort place (inputs_of run.entries) last → ReadsInPart words (inputs_of run.log) log_front.0 input source_left
    part_read (one_behind next read is_next) =
        let on = in_messages place behind.rest (λ messages. IsPrefix (inputs_of run.entries ++ next ∷ []) messages) behind.is is_next in
        let P : List (Option (List ℕ)) → Type 0 = λ is. IsPrefix (is ++ next ∷ []) (messages_of (lines_of behind.rest)) in
        let Q : List (Option (List ℕ)) → Type 0 = λ is. HasRead words (is ++ next ∷ []) input source_left in
        let on_log = subst P log_inputs on in
        to_next next on_log.0 (next_behind (inputs_of run.log) log_front.0 on_log.0 next (log_front.1 ∙ behind.messages ∙ sym on_log.1))
        (subst Q log_inputs (read_of input words place last (inputs_of run.entries ++ next ∷ []) source_left behind same read))
    part_read (one_unread middle read faults) =
        at_next (subst (λ (is : List (Option (List ℕ))). WasGiven words is input) log_inputs (given_of input words place middle (inputs_of run.entries) behind read))

    run_short : (accepted : IsModelText words m) → RunsShort m run.log run.entries place held last now → IsOutOfMemory (team_run turns duties tail) input source_left held now
    run_short accepted (in_lines read cut) = in_entry (has_begun accepted) (log_read read) (log_cut cut)
    run_short accepted (all_lines read going written) = behind_entry (has_begun accepted) (in_round (log_read read)) going written
    run_short accepted (behind_lines at read written) = behind_entry (has_begun accepted) (between_rounds (part_read read) at.0) at.1 written

-- ---- how a run of a team ends

-- one that does not come to its end
pub ends_err : (turns : ℕ) (duties : List Duty) (tail : TeamTail turns duties) (kept : Option (Vec ℕ Global)) (start place : Place) (input : List ℕ) (source_left held now : Option (List ℕ)) (m : Model) (e : Halt)
    → IsBegun (fresh_reader line_limit) (Some input) kept start.reader start.ahead → IsKeptModel kept m → TeamRun duties (fresh_state turns m) start held (Err e) place now → ahead place.reader.held source_left ≡ place.ahead
    → EndedAs (team_run turns duties tail) input source_left held now (Err e)
ends_err turns duties tail kept start place input source_left held now m halt.Limit begun text run behind =
    let s = until halt.Limit turns duties tail input begun.words start place m source_left held now (is_behind kept start input begun) (text begun.words begun.keeps) behind run run.ends in
    record { lines = s.lines; left = s.left; rest = s.rest; gave = s.gave; why = s.why refl; source = s.past refl; asked = inr s.waits }
ends_err turns duties tail kept start place input source_left held now m halt.Read begun text run behind =
    let s = until halt.Read turns duties tail input begun.words start place m source_left held now (is_behind kept start input begun) (text begun.words begun.keeps) behind run run.ends in
    record { lines = s.lines; left = s.left; rest = s.rest; gave = s.gave; source = s.source refl; asked = inr s.waits }
ends_err turns duties tail kept start place input source_left held now m halt.Full begun text run behind =
    ends_full turns duties tail input begun.words start place m source_left held now (is_behind kept start input begun) (text begun.words begun.keeps) behind run
ends_err turns duties tail kept start place input source_left held now m halt.Write begun text run behind =
    let before = is_behind kept start input begun in
    in_journal (has_begun turns duties tail input begun.words start place m held (Err halt.Write) now before run (text begun.words begun.keeps))
    (log_read turns duties tail input begun.words start place m held (Err halt.Write) now before run source_left behind run.ends.read)
    (log_cut turns duties tail input begun.words start place m held (Err halt.Write) now before run run.ends.written)
ends_err turns duties tail kept start place input source_left held now m halt.Memory begun text run behind =
    run_short turns duties tail input begun.words start place m held (Err halt.Memory) now (is_behind kept start input begun) run source_left behind (text begun.words begun.keeps) run.ends

-- a pair
pub ends_paired : (turns seed : ℕ) → EndsOver (pair_run turns seed) (ModelRunsAs (team.Pair seed) turns)
ends_paired turns seed kept start place input source_left held now m (Ok u) begun text run behind =
    let duties = pair_of seed 1 in
    let d = ends_done turns duties (no_tail turns duties) input begun.words start place m source_left held now (is_behind kept start input begun) (text begun.words begun.keeps) behind run in
    done_with (pair_run turns seed) input source_left held now d.done d.written
ends_paired turns seed kept start place input source_left held now m (Err e) begun text run behind =
    ends_err turns (pair_of seed 1) (no_tail turns (pair_of seed 1)) kept start place input source_left held now m e begun text run behind
