-- What the feeder does between two messages: it waits for the round to close, and writes its lines.
use Rattle.std.specs.Prelude.{◌≡◌, ◌+◌, ℕ, List, length, drop, true, false, ◌||◌, Option, Result, Ok, Err}
use mathlib.Core.List.{IsPrefix}
use Rattle.pl_io.specs.Writes.{AppendsFront}
use Rattle.pl_turn.specs.Passes.{seen_of, mine_of, crew_of}
use Rattle.pl_model.specs.declared.whole.Model.{Model}
use Rattle.pl_machine.specs.World.{World}
use Rattle.pl_journal.specs.Rendering.Lines.{text_from}
use Rattle.pl_journal.specs.Written.{Adds}
use Rattle.pl_acts.specs.declared.noted.Noted.{Noted}
use Rattle.pl_acts.specs.declared.part.Part.{Part}
use Rattle.pl_acts.specs.Items.{model_in, entries_in, stop_in, InWorld}
use Rattle.pl_locked.specs.Plans.{PlanPass}
use Rattle.pl_acts.specs.Seen.{Copies}
use Rattle.pl_pair.specs.declared.cut.Cut.{Cut}
use Rattle.pl_pair.specs.declared.cut.Cut.TheVariants as cut
use Rattle.pl_pair.specs.declared.rounds.Stage.{Stage}
use Rattle.pl_pair.specs.declared.rounds.Stage.TheVariants as stage

-- The pass has seen the history go on.
pub record Follows (old new : PlanPass) : Type 0 where
  pub longer : IsPrefix (seen_of old) (seen_of new)
  pub model : model_in (seen_of new) ≡ model_in (seen_of old)
  pub crew : crew_of new ≡ crew_of old

-- The pass has seen the history go on, and made nothing.
pub record LooksAtPlan (old new : PlanPass) : Type 0 where
  pub follows : Follows old new
  pub mine : mine_of new ≡ mine_of old

-- between two rounds, before the input has ended
abbrev pub IsBetween : World → Type 0
IsBetween w = (w.closed ≡ true) × (w.done ≡ false)

-- the entries from this number on, the round being closed or the plan stopped
abbrev pub IsRound : ℕ → List Noted → Part → Type 0
IsRound from seen part = Copies from seen part × ((part.closed || part.stopped) ≡ true)

-- where a part says that the run stands
abbrev pub StageOf : Part → ℕ → Result Stage Cut → Type 0
StageOf part from (Ok stage.Ended) = part.done ≡ true
StageOf part from (Ok (stage.Waits next)) = (part.done ≡ false) × (part.stopped ≡ false) × (next ≡ from + length part.entries)
StageOf part from (Err cut.Stopped) = (part.done ≡ false) × (part.stopped ≡ true)
StageOf part from (Err cut.Read) = ⊥
StageOf part from (Err cut.Write) = ⊥
StageOf part from (Err cut.Limit) = ⊥
StageOf part from (Err cut.Full) = ⊥
StageOf part from (Err cut.Memory) = ⊥

-- the lines of the entries from this number on, as far as the pass has seen
abbrev pub lines_behind : Model → ℕ → List Noted → List ℕ
lines_behind m from seen = text_from m from (drop from (entries_in seen))

-- What was written, and where the run stands behind it. Where a write failed or memory was wanting, a front of the lines was written, and not all of them.
abbrev pub RoundEnds : Model → ℕ → Option (List ℕ) → Result Stage Cut → List Noted → Option (List ℕ) → Type 0
RoundEnds m from held (Ok stage.Ended) seen now = Adds held now (lines_behind m from seen) × InWorld seen (λ w. w.done ≡ true)
RoundEnds m from held (Ok (stage.Waits next)) seen now = Adds held now (lines_behind m from seen) × (next ≡ length (entries_in seen)) × InWorld seen IsBetween
RoundEnds m from held (Err cut.Stopped) seen now = Adds held now (lines_behind m from seen) × (stop_in seen ≡ true) × InWorld seen (λ w. w.done ≡ false)
RoundEnds m from held (Err cut.Write) seen now = AppendsFront held now (lines_behind m from seen)
RoundEnds m from held (Err cut.Memory) seen now = AppendsFront held now (lines_behind m from seen)
RoundEnds m from held (Err cut.Read) seen now = ⊥
RoundEnds m from held (Err cut.Limit) seen now = ⊥
RoundEnds m from held (Err cut.Full) seen now = ⊥
