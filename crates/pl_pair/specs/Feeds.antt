-- All that the feeder does: the messages that it handed to the plan, and what it wrote.
use Rattle.std.specs.Prelude.{◌≡◌, ◌<◌, ℕ, List, [], ◌∷◌, ◌++◌, length, filter, not, true, false, Option, Some, None, Result, Ok, Err, ◌⊎◌, ⊤}
use Rattle.std.specs.List.{filter_map}
use mathlib.Core.List.{IsPrefix}
use Rattle.pl_turn.specs.History.{StandsIn}
use Rattle.pl_turn.specs.Passes.{seen_of, mine_of}
use Rattle.pl_io.specs.declared.errors.LineFault.{LineFault}
use Rattle.pl_io.specs.Writes.{AppendsFront}
use Rattle.pl_marks.specs.declared.author.Author.TheVariants.{Feeder}
use Rattle.pl_model.specs.declared.whole.Model.{Model}
use Rattle.pl_entry.specs.declared.event.Event.TheVariants as event
use Rattle.pl_input.specs.Words.{is_blank_line}
use Rattle.pl_journal.specs.Rendering.Lines.{text_from}
use Rattle.pl_input.specs.Reads.{ReadsLines, IsUsedUp}
use Rattle.pl_journal.specs.Written.{Adds}
use Rattle.pl_acts.specs.declared.noted.Noted.{Noted}
use Rattle.pl_acts.specs.declared.noted.Noted.TheVariants.{Opened, Made, Stopped}
use Rattle.pl_locked.specs.declared.plan.SharedPlan.{SharedPlan}
use Rattle.pl_acts.specs.Items.{entries_in, stop_in, InWorld}
use Rattle.pl_acts.specs.Seen.{IsPlan}
use Rattle.pl_locked.specs.Plans.{PlanPass, BelongsTo}
use Rattle.pl_locked.specs.Turns.{TakesTurn, Stops}
use Rattle.pl_pair.specs.declared.cut.Cut.{Cut}
use Rattle.pl_pair.specs.declared.cut.Cut.TheVariants as cut
use Rattle.pl_pair.specs.Cuts.{cut_by}
use Rattle.pl_pair.specs.declared.rounds.Stage.TheVariants as stage
use Rattle.pl_pair.specs.Rounds.{Follows, LooksAtPlan, IsBetween, lines_behind, RoundEnds}
use Rattle.pl_input.specs.Places.{Place}
use Rattle.pl_pair.specs.Asking.{Faults, HandsOn, Passes}

-- ---- messages

-- the lines that are messages
abbrev pub spoken : List (List ℕ) → List (List ℕ)
spoken lines = filter (λ line. not (is_blank_line line)) lines

-- the lines of some inputs, without the end of the input
abbrev pub said_in : List (Option (List ℕ)) → List (List ℕ)
said_in inputs = filter_map (λ (m : Option (List ℕ)). m) inputs

-- an item is the feeder's entry with this input
abbrev pub IsInput : Option (List ℕ) → Noted → Type 0
IsInput line (Opened m n e) = ⊥
IsInput line (Made by e) = (by ≡ Some Feeder) × (e.event ≡ event.Input line)
IsInput line (Stopped by) = ⊥

-- own items, each the entry with its input
abbrev pub AreInputs : List (Option (List ℕ)) → List (ℕ × Noted) → Type 0
AreInputs [] [] = ⊤
AreInputs [] (x ∷ own) = ⊥
AreInputs (line ∷ inputs) [] = ⊥
AreInputs (line ∷ inputs) (x ∷ own) = IsInput line x.1 × AreInputs inputs own

-- The reader gave these lines, or it was not asked yet.
pub data Reads (start : Place) (lines : List (List ℕ)) (place : Place) : Type 0 where
  unasked : lines ≡ [] → place ≡ start → Reads start lines place
  asked : start.reader.failed ≡ None → ReadsLines start.reader start.ahead lines place.reader place.ahead → Reads start lines place

-- where the last input is the end of the input, the bytes were used up
abbrev pub EndsUsed : Place → List (Option (List ℕ)) → Place → Type 0
EndsUsed start inputs place = (front : List (Option (List ℕ))) → inputs ≡ front ++ None ∷ [] → IsUsedUp start.ahead place.ahead

-- where the last input is a line, it is the last that was read
abbrev pub EndsRead : List (Option (List ℕ)) → List (List ℕ) → Type 0
EndsRead inputs lines = (front : List (Option (List ℕ))) (line : List ℕ) → inputs ≡ front ++ Some line ∷ [] → (before : List (List ℕ)) × (lines ≡ before ++ line ∷ [])

-- These messages were read, and no line behind the last; where there is none, no line at all.
pub record Heard (start : Place) (inputs : List (Option (List ℕ))) (place : Place) : Type 0 where
  pub lines : List (List ℕ)
  pub reads : Reads start lines place
  pub said : said_in inputs ≡ spoken lines
  pub used : EndsUsed start inputs place
  pub last : EndsRead inputs lines
  pub none : inputs ≡ [] → lines ≡ []

-- Messages were read, and each was handed to the plan, as the pass's own entry.
pub record HandsOnMessages (old : PlanPass) (start : Place) (new : PlanPass) (place : Place) : Type 0 where
  pub follows : Follows old new
  pub inputs : List (Option (List ℕ))
  pub heard : Heard start inputs place
  pub mine : AreInputs inputs (mine_of new)

-- ---- lines

-- One message was handed on behind these items, which go on from what the pass had seen to the end of a closed round. The other own items stand among them.
pub record HandsOne (old : PlanPass) (front : List Noted) (mine : List (ℕ × Noted)) : Type 0 where
  pub longer : IsPrefix (seen_of old) front
  pub plan : IsPlan front
  pub between : InWorld front IsBetween
  pub earlier : List (ℕ × Noted)
  pub stands : StandsIn front earlier
  pub last : ℕ × Noted
  pub own : mine ≡ earlier ++ last ∷ []

-- A front of the history was written, and entries stand behind it: those of the round of the last message, or no message was handed on.
pub record Writes (m : Model) (old : PlanPass) (held : Option (List ℕ)) (new : PlanPass) (now : Option (List ℕ)) (next : ℕ) : Type 0 where
  pub front : List Noted
  pub in_front : IsPrefix front (seen_of new)
  pub count : next ≡ length (entries_in front)
  pub due : next < length (entries_in (seen_of new))
  pub written : Adds held now (text_from m 0 (entries_in front))
  pub behind : (mine_of new ≡ []) ⊎ HandsOne old front (mine_of new)

-- All that was seen was written.
abbrev pub WritesAll : Model → Option (List ℕ) → List Noted → Option (List ℕ) → Type 0
WritesAll m held seen now = Adds held now (text_from m 0 (entries_in seen))

-- ---- one round and the next message

-- The round's lines were written, and the next message was handed to the plan.
pub record FeedsRound (plan : SharedPlan) (m : Model) (from : ℕ) (start : Place) (old : PlanPass) (held : Option (List ℕ)) (next : ℕ) (place : Place) (new : PlanPass) (now : Option (List ℕ)) : Type 0 where
  pub mid : PlanPass
  pub own : BelongsTo plan mid
  pub looks : LooksAtPlan old mid
  pub ends : RoundEnds m from held (Ok (stage.Waits next)) (seen_of mid) now
  pub passes : Passes start mid (Ok tt) place new
  pub follows : Follows mid new

-- The round's lines were written, and the input had ended.
pub record FeedsLastRound (m : Model) (from : ℕ) (start : Place) (old : PlanPass) (held : Option (List ℕ)) (place : Place) (new : PlanPass) (now : Option (List ℕ)) : Type 0 where
  pub looks : LooksAtPlan old new
  pub ends : RoundEnds m from held (Ok stage.Ended) (seen_of new) now
  pub same : place ≡ start

-- The run is cut short before the next message, or at it.
pub data StepsCut (plan : SharedPlan) (m : Model) (from : ℕ) (start : Place) (old : PlanPass) (held : Option (List ℕ)) (c : Cut) (place : Place) (new : PlanPass) (now : Option (List ℕ)) : Type 0 where
  in_round : LooksAtPlan old new → RoundEnds m from held (Err c) (seen_of new) now → place ≡ start → StepsCut plan m from start old held c place new now
  at_message : (mid : PlanPass) (next : ℕ) → BelongsTo plan mid → LooksAtPlan old mid → RoundEnds m from held (Ok (stage.Waits next)) (seen_of mid) now → Passes start mid (Err c) place new → Follows mid new
      → StepsCut plan m from start old held c place new now

abbrev pub FeedsRoundOrStops : SharedPlan → Model → ℕ → Place → PlanPass → Option (List ℕ) → Result (Option ℕ) Cut → Place → PlanPass → Option (List ℕ) → Type 0
FeedsRoundOrStops plan m from start old held (Ok (Some next)) place new now = FeedsRound plan m from start old held next place new now
FeedsRoundOrStops plan m from start old held (Ok None) place new now = FeedsLastRound m from start old held place new now
FeedsRoundOrStops plan m from start old held (Err c) place new now = StepsCut plan m from start old held c place new now

-- ---- the whole

-- Behind a message: the lines of its round are to be written.
pub record Feeding (plan : SharedPlan) (m : Model) (old : PlanPass) (start : Place) (held : Option (List ℕ)) (new : PlanPass) (place : Place) (now : Option (List ℕ)) (next : ℕ) : Type 0 where
  pub own : BelongsTo plan new
  pub tells : HandsOnMessages old start new place
  pub writes : Writes m old held new now next

-- Behind a round: what was seen was written, and the round is closed.
pub record Waiting (plan : SharedPlan) (m : Model) (old : PlanPass) (start : Place) (held : Option (List ℕ)) (new : PlanPass) (place : Place) (now : Option (List ℕ)) : Type 0 where
  pub own : BelongsTo plan new
  pub tells : HandsOnMessages old start new place
  pub written : WritesAll m held (seen_of new) now
  pub between : InWorld (seen_of new) IsBetween

-- The input has ended, and all was written.
pub record FeedsOut (plan : SharedPlan) (m : Model) (old : PlanPass) (start : Place) (held : Option (List ℕ)) (new : PlanPass) (place : Place) (now : Option (List ℕ)) : Type 0 where
  pub own : BelongsTo plan new
  pub tells : HandsOnMessages old start new place
  pub written : WritesAll m held (seen_of new) now
  pub done : InWorld (seen_of new) (λ w. w.done ≡ true)

-- No message is read, for this reason, while the round is closed.
pub record FeedsUntil (plan : SharedPlan) (m : Model) (c : Cut) (old : PlanPass) (start : Place) (held : Option (List ℕ)) (new : PlanPass) (place : Place) (now : Option (List ℕ)) : Type 0 where
  pub middle : Place
  pub waiting : Waiting plan m old start held new middle now
  pub fault : LineFault
  pub asks : Faults middle fault place
  pub cut : c ≡ cut_by fault

-- A message was read in a closed round, and the plan refused it.
pub record FeedsRefused (plan : SharedPlan) (m : Model) (c : Cut) (old : PlanPass) (start : Place) (held : Option (List ℕ)) (new : PlanPass) (place : Place) (now : Option (List ℕ)) : Type 0 where
  pub mid : PlanPass
  pub middle : Place
  pub waiting : Waiting plan m old start held mid middle now
  pub own : BelongsTo plan new
  pub follows : Follows mid new
  pub step : HandsOn middle mid (Err c) place new

-- A worker stopped the plan in an open round, and all was written.
pub record FeedsStopped (plan : SharedPlan) (m : Model) (old : PlanPass) (start : Place) (held : Option (List ℕ)) (new : PlanPass) (place : Place) (now : Option (List ℕ)) : Type 0 where
  pub own : BelongsTo plan new
  pub tells : HandsOnMessages old start new place
  pub written : WritesAll m held (seen_of new) now
  pub stopped : stop_in (seen_of new) ≡ true
  pub going : InWorld (seen_of new) (λ w. w.done ≡ false)

-- Of the lines of a round a front was written, and not all of them. No message was read behind those that were handed on.
pub record FeedsTorn (plan : SharedPlan) (m : Model) (old : PlanPass) (start : Place) (held : Option (List ℕ)) (new : PlanPass) (place : Place) (now : Option (List ℕ)) : Type 0 where
  pub next : ℕ
  pub so_far : Option (List ℕ)
  pub feeding : Feeding plan m old start held new place so_far next
  pub torn : AppendsFront so_far now (lines_behind m next (seen_of new))

-- Memory was wanting for the lines of a round, to hand a message on, or to read one.
pub data FeedsShort (plan : SharedPlan) (m : Model) (old : PlanPass) (start : Place) (held : Option (List ℕ)) (new : PlanPass) (place : Place) (now : Option (List ℕ)) : Type 0 where
  for_lines : FeedsTorn plan m old start held new place now → FeedsShort plan m old start held new place now
  for_message : FeedsRefused plan m cut.Memory old start held new place now → FeedsShort plan m old start held new place now
  for_reader : FeedsUntil plan m cut.Memory old start held new place now → FeedsShort plan m old start held new place now

pub data FeedsCut (plan : SharedPlan) (m : Model) (old : PlanPass) (start : Place) (held : Option (List ℕ)) (new : PlanPass) (place : Place) (now : Option (List ℕ)) : Type 0 where
  refused : FeedsRefused plan m cut.Stopped old start held new place now → FeedsCut plan m old start held new place now
  stopped : FeedsStopped plan m old start held new place now → FeedsCut plan m old start held new place now

-- what the feeder did, by how it ended
abbrev pub FeedsAll : SharedPlan → Model → PlanPass → Place → Option (List ℕ) → Result (Unit {0}) Cut → PlanPass → Place → Option (List ℕ) → Type 0
FeedsAll plan m old start held (Ok u) new place now = FeedsOut plan m old start held new place now
FeedsAll plan m old start held (Err cut.Read) new place now = FeedsUntil plan m cut.Read old start held new place now
FeedsAll plan m old start held (Err cut.Limit) new place now = FeedsUntil plan m cut.Limit old start held new place now
FeedsAll plan m old start held (Err cut.Full) new place now = FeedsRefused plan m cut.Full old start held new place now
FeedsAll plan m old start held (Err cut.Stopped) new place now = FeedsCut plan m old start held new place now
FeedsAll plan m old start held (Err cut.Write) new place now = FeedsTorn plan m old start held new place now
FeedsAll plan m old start held (Err cut.Memory) new place now = FeedsShort plan m old start held new place now

-- The feeder's work ended so, and then the plan was stopped.
pub record FeedsAndStops (plan : SharedPlan) (m : Model) (c : Cut) (old : PlanPass) (start : Place) (held : Option (List ℕ)) (new : PlanPass) (place : Place) (now : Option (List ℕ)) : Type 0 where
  pub mid : PlanPass
  pub feeds : FeedsAll plan m old start held (Err c) mid place now
  pub takes : TakesTurn mid new
  pub stops : Stops Feeder mid new

abbrev pub FeedsToEnd : SharedPlan → Model → PlanPass → Place → Option (List ℕ) → Result (Unit {0}) Cut → PlanPass → Place → Option (List ℕ) → Type 0
FeedsToEnd plan m old start held (Ok u) new place now = FeedsOut plan m old start held new place now
FeedsToEnd plan m old start held (Err c) new place now = FeedsAndStops plan m c old start held new place now
