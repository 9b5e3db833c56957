-- The history goes on between two looks of the feeder.
use Rattle.std.proofs.Common.{◌≡◌, ℕ, ◌+◌, ◌≤◌, ◌<◌, List, [], ◌∷◌, length, drop, Bool, true, false, Option, Some, None, Result, Ok, Err, refl, sym, ◌∙◌, ap, subst, arith, length-append, length-drop}
use Rattle.std.specs.Prelude.{◌||◌}
use Rattle.std.proofs.lemmas.List.{append-nil}
use Rattle.std.proofs.lemmas.List.Elements.{filter_map-append}
use mathlib.Core.List.{IsPrefix}
use Rattle.pl_turn.specs.Passes.{seen_of, mine_of}
use Rattle.pl_turn.proofs.Histories.{prefix_self, prefix_trans}
use Rattle.pl_io.specs.Faults.{Rose}
use Rattle.pl_io.specs.Writes.{AppendsFront}
use Rattle.pl_model.specs.declared.whole.Model.{Model}
use Rattle.pl_entry.specs.declared.entry.Entry.{Entry}
use Rattle.pl_journal.specs.Rendering.Lines.{line_of, text_from}
use Rattle.pl_input.specs.declared.halt.Halt.{Halt}
use Rattle.pl_input.specs.declared.halt.Halt.TheVariants as halt
use Rattle.pl_journal.specs.Written.{Adds, WriteStops}
use Rattle.pl_acts.specs.declared.noted.Noted.{Noted}
use Rattle.pl_acts.specs.declared.noted.Noted.TheVariants.{Opened, Made, Stopped}
use Rattle.pl_acts.specs.declared.part.Part.{Part}
use Rattle.pl_acts.specs.Items.{entry_in, entries_in}
use Rattle.pl_locked.specs.declared.plan.SharedPlan.{SharedPlan}
use Rattle.pl_acts.specs.Seen.{IsPlan, Copies}
use Rattle.pl_locked.specs.Plans.{PlanPass, BelongsTo}
use Rattle.pl_locked.specs.Turns.{TakesTurn}
use Rattle.pl_machine.proofs.ShortLogs.{log_is_short}
use Rattle.pl_acts.proofs.Items.{entries_in_items}
use Rattle.pl_acts.proofs.FullLogs.{in_world_on}
use Rattle.pl_pair.specs.declared.cut.Cut.{Cut}
use Rattle.pl_pair.specs.declared.cut.Cut.TheVariants as cut
use Rattle.pl_pair.specs.declared.rounds.Stage.{Stage}
use Rattle.pl_pair.specs.declared.rounds.Stage.TheVariants as stage
use Rattle.pl_pair.specs.Cuts.{cut_of}
use Rattle.pl_pair.specs.Rounds.{Follows, LooksAtPlan, IsBetween, IsRound, StageOf, lines_behind, RoundEnds}

-- ---- passes

pub took_follows : (old new : PlanPass) → TakesTurn old new → Follows old new
took_follows old new takes = record { longer = takes.longer; model = takes.model; crew = takes.crew }

pub follows_self : (pass : PlanPass) → Follows pass pass
follows_self pass = record { longer = prefix_self (seen_of pass); model = refl; crew = refl }

pub follows_on : (old mid new : PlanPass) → Follows old mid → Follows mid new → Follows old new
follows_on old mid new first second = record {
  longer = prefix_trans (seen_of old) (seen_of mid) (seen_of new) first.longer second.longer;
  model = second.model ∙ first.model;
  crew = second.crew ∙ first.crew;
}

pub looks_self : (pass : PlanPass) → LooksAtPlan pass pass
looks_self pass = record { follows = follows_self pass; mine = refl }

pub looks_on : (old mid new : PlanPass) → LooksAtPlan old mid → LooksAtPlan mid new → LooksAtPlan old new
looks_on old mid new first second = record { follows = follows_on old mid new first.follows second.follows; mine = second.mine ∙ first.mine }

pub looks_more : (old mid new : PlanPass) → LooksAtPlan old mid → TakesTurn mid new → mine_of new ≡ mine_of mid → LooksAtPlan old new
looks_more old mid new first takes same = looks_on old mid new first (record { follows = took_follows mid new takes; mine = same })

-- ---- entries

entries_few : (xs : List Noted) → length (entries_in xs) ≤ length xs
entries_few [] = omega arith
entries_few (Opened m n e ∷ xs) = (let le = entries_few xs in omega arith)
entries_few (Made by e ∷ xs) = (let le = entries_few xs in omega arith)
entries_few (Stopped by ∷ xs) = (let le = entries_few xs in omega arith)

pub entries_short : (xs : List Noted) → IsPlan xs → length (entries_in xs) ≤ 250000
entries_short xs plan =
    let same = ap (λ (es : List Entry). length es) (ap entries_in plan.is ∙ entries_in_items plan.model plan.log plan.signs) in
    let le = log_is_short plan.model plan.log plan.legal in
    omega arith

pub entries_longer : (xs ys : List Noted) → IsPrefix xs ys → length (entries_in xs) ≤ length (entries_in ys)
entries_longer xs ys on =
    let same = ap (λ (es : List Entry). length es) (sym (filter_map-append entry_in xs on.0) ∙ ap entries_in on.1) in
    omega (arith, same, length-append (entries_in xs) (entries_in on.0))

-- a number of entries is within what was seen
pub within_seen : (n : ℕ) (pass : PlanPass) → n ≤ length (entries_in (seen_of pass)) → n ≤ length (seen_of pass)
within_seen n pass le = (let few = entries_few (seen_of pass) in omega arith)

pub within_later : (n : ℕ) (old new : PlanPass) → n ≤ length (entries_in (seen_of old)) → Follows old new → n ≤ length (entries_in (seen_of new))
within_later n old new le follows = (let more = entries_longer (seen_of old) (seen_of new) follows.longer in omega arith)

-- what was copied reaches to the last entry
pub copied_to : (from : ℕ) (seen : List Noted) (part : Part) → from ≤ length (entries_in seen) → Copies from seen part → from + length part.entries ≡ length (entries_in seen)
copied_to from seen part le copies =
    let same = ap (λ (es : List Entry). length es) copies.entries in
    omega (arith, same, length-drop from (entries_in seen), le)

pub copied_short : (from : ℕ) (seen : List Noted) (part : Part) → from ≤ length (entries_in seen) → IsPlan seen → Copies from seen part → from + length part.entries ≤ 250000
copied_short from seen part le plan copies =
    let to = copied_to from seen part le copies in
    let short = entries_short seen plan in
    omega arith

pub within_looks : (n : ℕ) (old new : PlanPass) → n ≤ length (entries_in (seen_of old)) → LooksAtPlan old new → n ≤ length (entries_in (seen_of new))
within_looks n old new le looks = within_later n old new le looks.follows

pub within : (n : ℕ) (pass : PlanPass) → n < length (entries_in (seen_of pass)) → n ≤ length (entries_in (seen_of pass))
within n pass less = omega arith

-- entries stand behind a number
pub behind_looks : (n : ℕ) (old new : PlanPass) → n < length (entries_in (seen_of old)) → LooksAtPlan old new → n < length (entries_in (seen_of new))
behind_looks n old new less looks = (let more = entries_longer (seen_of old) (seen_of new) looks.follows.longer in omega arith)

-- ---- the lines of a round

or_left : (a b : Bool) → (a || b) ≡ true → b ≡ false → a ≡ true
or_left true b e f = refl
or_left false true e f = absurd (cc)
or_left false false e f = absurd (cc)

copied_text : (m : Model) (from : ℕ) (held now : Option (List ℕ)) (seen : List Noted) (part : Part) → Copies from seen part → Adds held now (text_from m from part.entries) → Adds held now (lines_behind m from seen)
copied_text m from held now seen part copies adds = subst (λ (es : List Entry). Adds held now (text_from m from es)) copies.entries adds

pub round_ends : (m : Model) (from : ℕ) (held now : Option (List ℕ)) (seen : List Noted) (part : Part) (r : Result Stage Cut) → from < length (entries_in seen) → IsRound from seen part → Adds held now (text_from m from part.entries)
    → StageOf part from r → RoundEnds m from held r seen now
round_ends m from held now seen part (Ok stage.Ended) less round adds is = (
  copied_text m from held now seen part round.0 adds,
  in_world_on (λ w. (part.closed ≡ w.closed) × (part.done ≡ w.done)) (λ w. w.done ≡ true) seen (λ w h. sym h.1 ∙ is) round.0.world,
)
round_ends m from held now seen part (Ok (stage.Waits next)) less round adds is = (
  copied_text m from held now seen part round.0 adds,
  is.2 ∙ copied_to from seen part (omega arith) round.0,
  in_world_on (λ w. (part.closed ≡ w.closed) × (part.done ≡ w.done)) IsBetween seen (λ w h. (sym h.0 ∙ or_left part.closed part.stopped round.1 is.1, sym h.1 ∙ is.0)) round.0.world,
)
round_ends m from held now seen part (Err cut.Stopped) less round adds is = (
  copied_text m from held now seen part round.0 adds,
  sym round.0.stopped ∙ is.1,
  in_world_on (λ w. (part.closed ≡ w.closed) × (part.done ≡ w.done)) (λ w. w.done ≡ false) seen (λ w h. sym h.1 ∙ is.0) round.0.world,
)
round_ends m from held now seen part (Err cut.Read) less round adds is = absurd is
round_ends m from held now seen part (Err cut.Write) less round adds is = absurd is
round_ends m from held now seen part (Err cut.Limit) less round adds is = absurd is
round_ends m from held now seen part (Err cut.Full) less round adds is = absurd is
round_ends m from held now seen part (Err cut.Memory) less round adds is = absurd is

-- entries have some text
text_some : (m : Model) (n : ℕ) (es : List Entry) → 0 < length es → 0 < length (text_from m n es)
unfolding line_of
text_some m n [] less = absurd (omega arith)
text_some m n (e ∷ es) less = simp length-append (omega arith)

none_of : (held : Option (List ℕ)) (text : List ℕ) → 0 < length text → AppendsFront held held text
none_of None text less = tt
none_of (Some before) text less = (0, less, ap (λ (bytes : List ℕ). Some bytes) (sym (append-nil before)))

-- nothing was written of some lines
pub none_written : (m : Model) (n : ℕ) (held : Option (List ℕ)) (es : List Entry) → 0 < length es → AppendsFront held held (text_from m n es)
none_written m n held es less = none_of held (text_from m n es) (text_some m n es less)

pub nothing_written : (m : Model) (from : ℕ) (held : Option (List ℕ)) (old new : PlanPass) → from < length (entries_in (seen_of old)) → LooksAtPlan old new → AppendsFront held held (lines_behind m from (seen_of new))
nothing_written m from held old new less looks =
    let more = behind_looks from old new less looks in
    none_written m from held (drop from (entries_in (seen_of new))) (omega (arith, more, length-drop from (entries_in (seen_of new))))

copied_torn : (m : Model) (from : ℕ) (held now : Option (List ℕ)) (seen : List Noted) (part : Part) → Copies from seen part → AppendsFront held now (text_from m from part.entries) → AppendsFront held now (lines_behind m from seen)
copied_torn m from held now seen part copies front = subst (λ (es : List Entry). AppendsFront held now (text_from m from es)) copies.entries front

-- a write stopped, or memory was wanting
pub round_breaks : (m : Model) (from : ℕ) (held now : Option (List ℕ)) (seen : List Noted) (part : Part) (h : Halt) (before after : ℕ) → IsRound from seen part → AppendsFront held now (text_from m from part.entries) → WriteStops before after h
    → RoundEnds m from held (Err (cut_of h)) seen now
round_breaks m from held now seen part halt.Write before after round front stops = copied_torn m from held now seen part round.0 front
round_breaks m from held now seen part halt.Memory before after round front stops = copied_torn m from held now seen part round.0 front
round_breaks m from held now seen part halt.Read before after round front stops = absurd stops
round_breaks m from held now seen part halt.Limit before after round front stops = absurd stops
round_breaks m from held now seen part halt.Full before after round front stops = absurd stops

pub write_rose : (h : Halt) (before after : ℕ) → WriteStops before after h → cut_of h ≡ cut.Write → Rose before after
write_rose halt.Write before after stops is = stops
write_rose halt.Memory before after stops is = absurd (cc)
write_rose halt.Read before after stops is = absurd stops
write_rose halt.Limit before after stops is = absurd stops
write_rose halt.Full before after stops is = absurd stops

pub round_short : (plan : SharedPlan) (from : ℕ) (old new : PlanPass) (part : Part) → from < length (entries_in (seen_of old)) → LooksAtPlan old new → BelongsTo plan new → IsRound from (seen_of new) part → from + length part.entries ≤ 250000
round_short plan from old new part less looks own round = copied_short from (seen_of new) part (within_looks from old new (omega arith) looks) own.seen round.0
