-- The end of a demonstration.
use Rattle.std.proofs.Common.{◌≡◌, ℕ, ◌≤◌, List, [], length, All, Option, Some, None, Result, Ok, Err, refl, sym, ap, ◌∙◌, subst, arith}
use Rattle.std.specs.declared.vec.Vec.{Vec}
use Rattle.std.specs.declared.alloc.Global.{Global}
use Rattle.std.proofs.lemmas.Option.{same_Some}
use Rattle.pl_io.specs.declared.errors.LineFault.{LineFault}
use Rattle.pl_io.specs.declared.errors.LineFault.TheVariants as fault
use Rattle.pl_io.specs.Faults.{Rose}
use Rattle.pl_io.specs.Writes.{AppendsFront}
use Rattle.pl_io.specs.Lines.{ahead}
use Rattle.pl_io.specs.Reader.{Reader}
use Rattle.pl_model.specs.declared.whole.Model.{Model}
use Rattle.pl_entry.specs.declared.entry.Entry.{Entry}
use Rattle.pl_machine.specs.World.{World}
use Rattle.pl_machine.specs.Legal.{Legal, world_of}
use Rattle.pl_machine.specs.Sound.{State}
use Rattle.pl_check.specs.declared.accepting.Accepted.TheVariants as accepted
use Rattle.pl_check.specs.Accepting.{IsModelText}
use Rattle.pl_check.proofs.Apart.{apart}
use Rattle.pl_report.specs.Demonstration.{demo_text}
use Rattle.pl_report.proofs.Lines.{demo_text_lines, demo_lines_short, demo_text_short}
use Rattle.pl_report.specs.DemoModel.{demo_words, demo_model}
use Rattle.pl_report.proofs.AboutDemonstration.Beginning.{demo_begins}
use Rattle.pl_report.proofs.AboutDemonstration.Modelling.{demo_accepted}
use Rattle.pl_input.specs.declared.halt.Halt.{Halt}
use Rattle.pl_input.specs.declared.halt.Halt.TheVariants as halt
use Rattle.pl_main.specs.declared.outcome.Outcome.{Outcome}
use Rattle.pl_main.specs.declared.outcome.Outcome.TheVariants as outcome
use Rattle.pl_input.specs.Stops.{HaltFor}
use Rattle.pl_input.specs.Heads.{IsBegun, HasNoBegin, HeadHalts}
use Rattle.pl_input.specs.Places.{Place, place_of}
use Rattle.pl_main.specs.Solo.{IsSoloEvent}
use Rattle.pl_main.specs.Plays.{AnswersAllOrStops}
use Rattle.pl_main.specs.Runs.{fresh_state, AcceptsKept, IsKeptModel, ModelRuns}
use Rattle.pl_main.specs.Top.{line_limit, fresh_reader, no_begin_line}
use Rattle.pl_main.specs.Limits.{IsWithinLimits}
use Rattle.pl_journal.specs.Written.{Adds}
use Rattle.pl_main.specs.Demos.{demo_turns, summary_line, IsShownShort, Shows, IsPlayed, DemoPlays, KeepsModel, ModelShown, ModelShows, TextShows}
use Rattle.pl_input.proofs.Stopping.{never_full, never_writes, only_reads}
use Rattle.pl_main.proofs.Ending.{IsDoneWith, done_with}
use Rattle.pl_main.proofs.Running.{begun_run, refused_run, head_run}
use Rattle.pl_main.proofs.Causes.{no_model_of, run_within}
use Rattle.pl_main.proofs.Heading.{begins_at, fresh_begun}
use Rattle.pl_main.proofs.Breaking.{ends_solo}
use Rattle.pl_main.specs.RunKinds.{solo_run}

-- ---- the demonstration's input

demo_within : (goals : ℕ) → goals ≤ 4000 → IsWithinLimits line_limit (demo_text goals)
demo_within goals few = record {
  lines = subst (λ (ls : List (List ℕ)). All (λ line. length line ≤ 4096) ls) (sym (demo_text_lines goals few)) (λ k d less. omega (arith, demo_lines_short goals few k d less));
  total = omega (arith, demo_text_short goals few);
}

-- a count that stands at 0 did not rise
pub never_rose : Rose 0 0 → ⊥
never_rose rose = omega (arith, rose)

-- ---- a demonstration over a model

stopped_out : (m : Model) (start place : Place) (e : Halt) (new : State)
    → AnswersAllOrStops IsSoloEvent (fresh_state demo_turns m) start None (Err e) new place None → Legal new.model new.log → (e ≡ halt.Read → ⊥) → (e ≡ halt.Write → ⊥) → DemoPlays m start (Err e) place
stopped_out m start place halt.Limit new playing legal no_read no_write = record { opened = None; new = new; first = tt; playing = playing; legal = legal }
stopped_out m start place halt.Full new playing legal no_read no_write = record { opened = None; new = new; first = tt; playing = playing; legal = legal }
stopped_out m start place halt.Read new playing legal no_read no_write = absurd (no_read refl)
stopped_out m start place halt.Write new playing legal no_read no_write = absurd (no_write refl)
stopped_out m start place halt.Memory new playing legal no_read no_write = tt

pub out_stops : (m : Model) (start place : Place) (r : Result (Unit {0}) Halt) (e : Halt) (new : State) → r ≡ Err e
    → AnswersAllOrStops IsSoloEvent (fresh_state demo_turns m) start None r new place None → Legal new.model new.log → (r ≡ Err halt.Read → Rose 0 0) → (r ≡ Err halt.Write → Rose 0 0) → DemoPlays m start (Err e) place
out_stops m start place r e new is playing legal reads writes =
    stopped_out m start place e new (subst (λ (x : Result (Unit {0}) Halt). AnswersAllOrStops IsSoloEvent (fresh_state demo_turns m) start None x new place None) is playing) legal
    (λ same. never_rose (reads (is ∙ ap (λ (x : Halt). Err x) same))) (λ same. never_rose (writes (is ∙ ap (λ (x : Halt). Err x) same)))

model_stopped : (goals : ℕ) (m : Model) (start place : Place) (held : Option (List ℕ)) (e : Halt) → DemoPlays m start (Err e) place → ModelShows goals m start held (Err e) place held
model_stopped goals m start place held halt.Limit plays = record { run = plays; silent = refl }
model_stopped goals m start place held halt.Full plays = record { run = plays; silent = refl }
model_stopped goals m start place held halt.Read plays = absurd plays
model_stopped goals m start place held halt.Write plays = absurd plays
model_stopped goals m start place held halt.Memory plays = refl

pub model_stops : (goals : ℕ) (m : Model) (start place : Place) (held : Option (List ℕ)) (r : Result State Halt) (e : Halt) → DemoPlays m start r place → r ≡ Err e → ModelShows goals m start held (Err e) place held
model_stops goals m start place held r e plays is = model_stopped goals m start place held e (subst (λ (x : Result State Halt). DemoPlays m start x place) is plays)

pub model_shown : (goals : ℕ) (m : Model) (start place : Place) (held now : Option (List ℕ)) (new : State) (line text : List ℕ)
    → IsPlayed m start new place → text ≡ line → line ≡ summary_line goals new.log new.world → Adds held now text → ModelShown goals m start held place now
model_shown goals m start place held now new line text played same is adds =
    record { new = new; played = played; written = subst (λ (l : List ℕ). Adds held now l) (same ∙ is) adds }

-- ---- a demonstration over a text

-- a text that is a model's is not refused
pub kept_passes : (kept : Option (Vec ℕ Global)) (line : List ℕ) → KeepsModel kept → AcceptsKept kept (accepted.Refused line) → ⊥
kept_passes kept line model refused = apart model.words line model.model model.accepted (refused model.words model.keeps)

pub text_shows : (goals : ℕ) (kept : Option (Vec ℕ Global)) (start place : Place) (held now : Option (List ℕ)) (m : Model) (r : Result Outcome Halt)
    → AcceptsKept kept (accepted.Model m) → ModelShows goals m start held r place now → TextShows goals kept start held r place now
text_shows goals kept start place held now m (Ok outcome.Done) text shows = record { model = m; text = text; shows = shows }
text_shows goals kept start place held now m (Ok outcome.Refused) text shows = absurd shows
text_shows goals kept start place held now m (Err halt.Limit) text shows = record { model = m; text = text; shows = shows }
text_shows goals kept start place held now m (Err halt.Full) text shows = record { model = m; text = text; shows = shows }
text_shows goals kept start place held now m (Err halt.Read) text shows = absurd shows
text_shows goals kept start place held now m (Err halt.Write) text shows = record { model = m; text = text; shows = shows }
text_shows goals kept start place held now m (Err halt.Memory) text shows = shows

-- ---- behind a `begin` line

abbrev Input : ℕ → Option (List ℕ)
Input goals = Some (demo_text goals)

-- the run of the demonstration's input, with the log and the world at its end
done_at : (goals : ℕ) (old : Reader) (kept : Option (Vec ℕ Global)) (new last : Reader) (after left : Option (List ℕ)) (m : Model) (end_state : State) → old ≡ fresh_reader line_limit
    → IsBegun old (ahead old.held (Input goals)) kept new (ahead new.held after) → IsKeptModel kept m → IsPlayed m (place_of new after) end_state (place_of last left) → IsDoneWith IsSoloEvent demo_turns (demo_text goals) left end_state
done_at goals old kept new last after left m end_state is_fresh begun text played =
    done_with demo_turns kept (place_of new after) (place_of last left) (demo_text goals) left m end_state
    (fresh_begun line_limit old kept new (Input goals) (ahead new.held after) is_fresh begun) text played.plays played.legal refl

-- the summary of the log and the world at its end
summary_is : (goals : ℕ) (left : Option (List ℕ)) (end_state : State) → (d : IsDoneWith IsSoloEvent demo_turns (demo_text goals) left end_state)
    → summary_line goals end_state.log end_state.world ≡ summary_line goals d.done.log (world_of d.done.model d.done.log)
summary_is goals left end_state d = ap (λ (l : List Entry). summary_line goals l end_state.world) d.log ∙ ap (λ (w : World). summary_line goals d.done.log w) d.world

short_then : (goals : ℕ) (old : Reader) (kept : Option (Vec ℕ Global)) (new last : Reader) (after left held now : Option (List ℕ)) → old ≡ fresh_reader line_limit
    → IsBegun old (ahead old.held (Input goals)) kept new (ahead new.held after) → TextShows goals kept (place_of new after) held (Err halt.Write) (place_of last left) now → IsShownShort goals held now
short_then goals old kept new last after left held now is_fresh begun text =
    let shown = text.shows in
    let d = done_at goals old kept new last after left text.model shown.new is_fresh begun text.text shown.played in
    record {
      left = left;
      done = d.done;
      front = subst (λ (l : List ℕ). AppendsFront held now l) (summary_is goals left shown.new d) shown.front;
    }

begun_then : (goals : ℕ) (old : Reader) (kept : Option (Vec ℕ Global)) (new last : Reader) (after left held now : Option (List ℕ)) (r : Result Outcome Halt) → goals ≤ 4000 → old ≡ fresh_reader line_limit
    → IsBegun old (ahead old.held (Input goals)) kept new (ahead new.held after) → TextShows goals kept (place_of new after) held r (place_of last left) now → Shows goals held now r
begun_then goals old kept new last after left held now (Ok outcome.Done) few is_fresh begun text =
    let shown = text.shows in
    let d = done_at goals old kept new last after left text.model shown.new is_fresh begun text.text shown.played in
    record {
      left = left;
      done = d.done;
      written = subst (λ (l : List ℕ). Adds held now l) (summary_is goals left shown.new d) shown.written;
    }
begun_then goals old kept new last after left held now (Ok outcome.Refused) few is_fresh begun text = absurd text
begun_then goals old kept new last after left held now (Err halt.Limit) few is_fresh begun text =
    run_within (solo_run demo_turns) (demo_text goals) left None None (demo_within goals few)
    (begun_run (solo_run demo_turns) (ModelRuns IsSoloEvent demo_turns) (ends_solo IsSoloEvent demo_turns) old kept new last (Input goals) after left None None (Err halt.Limit) is_fresh begun record { model = text.model; text = text.text; run = text.shows.run })
begun_then goals old kept new last after left held now (Err halt.Full) few is_fresh begun text =
    record {
      left = left;
      full = begun_run (solo_run demo_turns) (ModelRuns IsSoloEvent demo_turns) (ends_solo IsSoloEvent demo_turns) old kept new last (Input goals) after left None None (Err halt.Full) is_fresh begun record { model = text.model; text = text.text; run = text.shows.run };
      silent = text.shows.silent;
    }
begun_then goals old kept new last after left held now (Err halt.Read) few is_fresh begun text = absurd text
begun_then goals old kept new last after left held now (Err halt.Write) few is_fresh begun text = short_then goals old kept new last after left held now is_fresh begun text
begun_then goals old kept new last after left held now (Err halt.Memory) few is_fresh begun text = text

pub begun_shows : (goals : ℕ) (text : List ℕ) (old : Reader) (kept : Option (Vec ℕ Global)) (new last : Reader) (after left held now : Option (List ℕ)) (r : Result Outcome Halt) → goals ≤ 4000 → text ≡ demo_text goals → old ≡ fresh_reader line_limit
    → IsBegun old (ahead old.held (Some text)) kept new (ahead new.held after) → TextShows goals kept (place_of new after) held r (place_of last left) now → Shows goals held now r
begun_shows goals text old kept new last after left held now r few is is_fresh begun shows =
    begun_then goals old kept new last after left held now r few is_fresh (subst (λ (t : List ℕ). IsBegun old (ahead old.held (Some t)) kept new (ahead new.held after)) is begun) shows

-- the text before it is a model's
model_then : (goals : ℕ) (old : Reader) (kept : Option (Vec ℕ Global)) (new : Reader) (after : Option (List ℕ)) → goals ≤ 4000 → old ≡ fresh_reader line_limit
    → IsBegun old (ahead old.held (Input goals)) kept new (ahead new.held after) → KeepsModel kept
model_then goals old kept new after few is_fresh begun =
    let fresh = fresh_begun line_limit old kept new (Input goals) (ahead new.held after) is_fresh begun in
    let head = begins_at line_limit kept new (demo_text goals) (ahead new.held after) after fresh refl in
    let same : demo_words ≡ fresh.words = same_Some demo_words fresh.words (sym (demo_begins goals few) ∙ head.text) in
    record {
      words = fresh.words;
      model = demo_model;
      keeps = fresh.keeps;
      accepted = subst (λ (w : List ℕ). IsModelText w demo_model) same demo_accepted;
    }

pub begun_keeps : (goals : ℕ) (text : List ℕ) (old : Reader) (kept : Option (Vec ℕ Global)) (new : Reader) (after : Option (List ℕ)) → goals ≤ 4000 → text ≡ demo_text goals → old ≡ fresh_reader line_limit
    → IsBegun old (ahead old.held (Some text)) kept new (ahead new.held after) → KeepsModel kept
begun_keeps goals text old kept new after few is is_fresh begun =
    model_then goals old kept new after few is_fresh (subst (λ (t : List ℕ). IsBegun old (ahead old.held (Some t)) kept new (ahead new.held after)) is begun)

-- there is such a line
begin_then : (goals : ℕ) (old new : Reader) (left : Option (List ℕ)) → goals ≤ 4000 → old ≡ fresh_reader line_limit
    → HasNoBegin old (ahead old.held (Input goals)) new (ahead new.held left) → ⊥
begin_then goals old new left few is_fresh head =
    no_model_of line_limit (demo_text goals) demo_words demo_model left (Some []) (Some no_begin_line) (demo_begins goals few) demo_accepted
    (refused_run (solo_run demo_turns) old new (Input goals) left (Some []) (Some no_begin_line) (Ok outcome.Refused) is_fresh head refl refl tt tt)

pub has_begin : (goals : ℕ) (text : List ℕ) (old new : Reader) (left : Option (List ℕ)) → goals ≤ 4000 → text ≡ demo_text goals → old ≡ fresh_reader line_limit
    → HasNoBegin old (ahead old.held (Some text)) new (ahead new.held left) → ⊥
has_begin goals text old new left few is is_fresh head =
    begin_then goals old new left few is_fresh (subst (λ (t : List ℕ). HasNoBegin old (ahead old.held (Some t)) new (ahead new.held left)) is head)

-- ---- where the reader stops

never_reads : (f : LineFault) → HaltFor f halt.Read → (f ≡ fault.Read → ⊥) → ⊥
never_reads f is no_read = no_read (only_reads f is)

head_then : (goals : ℕ) (old new : Reader) (left held : Option (List ℕ)) (f : LineFault) (e : Halt) → goals ≤ 4000 → old ≡ fresh_reader line_limit
    → HeadHalts old (ahead old.held (Input goals)) f new (ahead new.held left) → HaltFor f e → (f ≡ fault.Read → ⊥) → Shows goals held held (Err e)
head_then goals old new left held f halt.Limit few is_fresh head is no_read =
    run_within (solo_run demo_turns) (demo_text goals) left None None (demo_within goals few) (head_run (solo_run demo_turns) old new (Input goals) left None f halt.Limit is_fresh head is)
head_then goals old new left held f halt.Full few is_fresh head is no_read = absurd (never_full f is)
head_then goals old new left held f halt.Read few is_fresh head is no_read = absurd (never_reads f is no_read)
head_then goals old new left held f halt.Write few is_fresh head is no_read = absurd (never_writes f is)
head_then goals old new left held f halt.Memory few is_fresh head is no_read = refl

pub head_shows : (goals : ℕ) (text : List ℕ) (old new : Reader) (left held : Option (List ℕ)) (f : LineFault) (e : Halt) → goals ≤ 4000 → text ≡ demo_text goals → old ≡ fresh_reader line_limit
    → HeadHalts old (ahead old.held (Some text)) f new (ahead new.held left) → HaltFor f e → (f ≡ fault.Read → ⊥) → Shows goals held held (Err e)
head_shows goals text old new left held f e few is_text is_fresh head is no_read =
    head_then goals old new left held f e few is_fresh (subst (λ (t : List ℕ). HeadHalts old (ahead old.held (Some t)) f new (ahead new.held left)) is_text head) is no_read
