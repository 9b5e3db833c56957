-- From what is done inside a turn to what the pass knows behind it.
use Rattle.std.proofs.Common.{◌≡◌, ℕ, ◌<◌, ◌≤◌, List, [], ◌∷◌, ◌++◌, length, drop, Bool, true, false, Option, Some, None, Result, Ok, Err, IfOk, IfSome, refl, sym, ◌∙◌, ap, subst, ◌⊎◌, inl, inr, arith}
use mathlib.Core.List.{IsPrefix}
use Rattle.std.specs.Prelude.{nat_lt, cond, ◌||◌, is_some}
use Rattle.std.specs.List.{All}
use Rattle.pl_turn.specs.History.{IsSameOrOneMore, IsEachOnce, StandsIn, times_in, longer}
use Rattle.pl_turn.specs.Passes.{IsPassOf, seen_of, mine_of, counted_of, in_turn, crew_of, opening_of, lists_of}
use Rattle.pl_turn.proofs.Histories.{prefix_self, prefix_trans, prefix_length}
use Rattle.pl_model.specs.declared.whole.Model.{Model}
use Rattle.pl_marks.specs.declared.author.Author.{Author}
use Rattle.pl_marks.specs.declared.author.Author.TheVariants.{Feeder}
use Rattle.pl_entry.specs.declared.event.Event.{Event}
use Rattle.pl_entry.specs.declared.event.Event.TheVariants as event
use Rattle.pl_entry.specs.declared.reply.Reply.{Reply}
use Rattle.pl_entry.specs.declared.reply.Reply.TheVariants as reply
use Rattle.pl_entry.specs.declared.entry.Entry.{Entry}
use Rattle.rand_pcg.specs.Lcg.{Lcg}
use Rattle.pl_cand.specs.declared.proposal.Proposal.{Proposal}
use Rattle.pl_cand.specs.Proposals.{IsProposal}
use Rattle.pl_choose.specs.Picks.{seeded_pick, seeded_after}
use Rattle.pl_machine.specs.declared.stop.Stop.{Stop}
use Rattle.pl_machine.specs.declared.stop.Stop.TheVariants as stop
use Rattle.pl_machine.specs.World.{World, plain_reason_of, reason_of}
use Rattle.pl_machine.specs.Choices.{exec_choice_of}
use Rattle.pl_machine.specs.Step.{fix_reply, reply_of}
use Rattle.pl_machine.specs.Mending.{is_repairing}
use Rattle.pl_machine.specs.Repairs.{IsMoveOf}
use Rattle.pl_machine.specs.Legal.{Legal, IsHistory, world_of}
use Rattle.pl_machine.proofs.Mending.{proposed_done}
use Rattle.pl_acts.specs.declared.noted.Noted.{Noted}
use Rattle.pl_acts.specs.declared.noted.Noted.TheVariants.{Made, Stopped}
use Rattle.pl_acts.specs.declared.held.Held.{Held}
use Rattle.pl_acts.specs.declared.part.Part.{Part}
use Rattle.pl_acts.specs.declared.role.Role.TheVariants.{Planner, Executive}
use Rattle.pl_acts.specs.declared.role.Acted.{Acted}
use Rattle.pl_acts.specs.declared.role.Acted.TheVariants as acted
use Rattle.pl_acts.specs.declared.draft.Draft.{Draft}
use Rattle.pl_acts.specs.declared.look.Looked.{Looked}
use Rattle.pl_acts.specs.declared.look.Looked.TheVariants as looked
use Rattle.pl_acts.specs.declared.sight.Sight.{Sight}
use Rattle.pl_acts.specs.Items.{items_of, entries_in, model_in, stop_in, InWorld}
use Rattle.pl_acts.specs.Roles.{has_event, IsChosen, IsInputOf}
use Rattle.pl_acts.specs.Replicas.{log_of, IsReplica, IsDraft, IsDraftOf}
use Rattle.pl_acts.specs.Sights.{AsksIn, HasRoomIn, HasLooked, IsSight, as_seen, at_once, behind, IsPlanned, IsDueBy, IsAskedAtMost}
use Rattle.pl_acts.specs.Inside as inside
use Rattle.pl_acts.specs.Signing.{Written}
use Rattle.pl_acts.specs.Inside.{signs_in, items_in, IsSound, IsStepIn, Logs, KeepsLog, Spoiled, can_listen, FeedsIn, IsPart, Wants, Executes, ExecutesIn, RestsAtOnce, LooksIn, SettlesIn, MayRepair, RepairsAtOnce, RepairsIn, LooksOrRepairs}
use Rattle.pl_acts.specs.Seen.{IsPlan, IsFull, Copies}
use Rattle.pl_acts.proofs.Replicas.{replica_here, moves_here}
use Rattle.pl_acts.proofs.AtOnce.{seeded_is_proposal}
use Rattle.pl_acts.proofs.Growing.{keeps_items, logs_items, stopped_first, same_held, plan_in, some_model, some_opening, grown_prefix}
use Rattle.pl_acts.proofs.Items.{length_going, model_in_items, opening_in_items, in_world_of, in_world, world_in, prefix_whole, stop_in_same, entries_in_items}
use Rattle.pl_locked.specs.declared.plan.SharedPlan.{SharedPlan}
use Rattle.pl_locked.specs.Plans.{PlanPass, BelongsTo, Closes}
use Rattle.pl_locked.specs.Turns.{TakesTurn, Makes, MakesNothing, low_of, Feeds, Acts, Lends, Looks, LookRests, CanSettle, IsSettled, Settles, Stops, was_stopped, is_stopped}

-- a turn begins
pub enters : (old mid : PlanPass) → IsPlan (seen_of old) → IsPrefix (seen_of old) (seen_of mid) → counted_of old ≤ length (seen_of mid)
    → counted_of mid ≡ counted_of old → crew_of mid ≡ crew_of old → TakesTurn old mid
enters old mid plan on counted same crew = record { longer = on; model = some_model (seen_of old) (seen_of mid) plan on; counted = counted; same_counted = same; crew = crew }

-- A turn: `mid` is the pass inside it, which found the plan as `held` and left it as `held2`.
pub record Turn (old mid new : PlanPass) (held held2 : Held) : Type 0 where
  pub takes : TakesTurn old mid
  pub own : mine_of mid ≡ mine_of old
  pub found : seen_of mid ≡ items_in held
  pub sound : IsSound held.plan
  pub grows : IsSameOrOneMore (seen_of mid) (items_in held2)
  pub left : seen_of new ≡ items_in held2
  pub sound2 : IsSound held2.plan
  pub same : items_in held2 ≡ seen_of mid → mine_of new ≡ mine_of mid
  pub grown : (e : Noted) → items_in held2 ≡ seen_of mid ++ e ∷ [] → mine_of new ≡ mine_of mid ++ (length (seen_of mid), e) ∷ []
  pub kept : (counted_of new ≡ counted_of mid) × (crew_of new ≡ crew_of mid)

pub turn_of : (old mid new : PlanPass) (held held2 : Held) → TakesTurn old mid → mine_of mid ≡ mine_of old → seen_of mid ≡ items_in held → IsSound held.plan → IsSameOrOneMore (seen_of mid) (items_in held2) → seen_of new ≡ items_in held2
    → IsSound held2.plan → (items_in held2 ≡ seen_of mid → mine_of new ≡ mine_of mid) → ((e : Noted) → items_in held2 ≡ seen_of mid ++ e ∷ [] → mine_of new ≡ mine_of mid ++ (length (seen_of mid), e) ∷ [])
    → (counted_of new ≡ counted_of mid) × (crew_of new ≡ crew_of mid) → Turn old mid new held held2
turn_of old mid new held held2 takes own found sound grows left sound2 same grown kept =
    record { takes = takes; own = own; found = found; sound = sound; grows = grows; left = left; sound2 = sound2; same = same; grown = grown; kept = kept }

-- what a call that settles asks of the plan that it finds
pub settle_moves : (old mid : PlanPass) (held : Held) (sight : Sight) → TakesTurn old mid → seen_of mid ≡ items_in held → IsSound held.plan → CanSettle (seen_of old) sight → IfSome sight.proposal (λ p. IsMoveOf held.plan.machine.model p.mv)
settle_moves old mid held sight takes found sound can =
    moves_here can.front (seen_of mid) held.plan.machine (signs_in held) sight.proposal (prefix_trans can.front (seen_of old) (seen_of mid) can.on takes.longer) found sound.legal sound.checked can.legal

pub settle_replica : (old mid : PlanPass) (held : Held) (sight : Sight) → TakesTurn old mid → seen_of mid ≡ items_in held → IsSound held.plan → CanSettle (seen_of old) sight → IfSome sight.replica (IsReplica held.plan.machine)
settle_replica old mid held sight takes found sound can = replica_here (seen_of old) (seen_of mid) held.plan.machine (signs_in held) sight.replica takes.longer found sound.legal can.replica

module _ (old mid new : PlanPass) (held held2 : Held) (turn : Turn old mid new held held2) where
  on : IsPrefix (seen_of mid) (seen_of new)
  on = let P : List Noted → Type 0 = λ xs. IsPrefix (seen_of mid) xs in subst P (sym turn.left) (grown_prefix (seen_of mid) (items_in held2) turn.grows)

  pub took_turn : TakesTurn old new
  took_turn =
      let longer : IsPrefix (seen_of old) (seen_of new) = prefix_trans (seen_of old) (seen_of mid) (seen_of new) turn.takes.longer on in
      let middle : model_in (seen_of new) ≡ model_in (seen_of mid) = some_model (seen_of mid) (seen_of new) (plan_in (seen_of mid) held turn.found turn.sound) on in
      record {
        longer = longer;
        model = middle ∙ turn.takes.model;
        counted = (let le = turn.takes.counted in let more = prefix_length (seen_of mid) (seen_of new) on in omega arith);
        same_counted = turn.kept.0 ∙ turn.takes.same_counted;
        crew = turn.kept.1 ∙ turn.takes.crew;
      }

  made_none : KeepsLog held held2 → MakesNothing old new
  made_none keeps = turn.same (keeps_items held held2 keeps ∙ sym turn.found) ∙ turn.own

  -- what was seen behind an unchanged plan
  seen_same : KeepsLog held held2 → seen_of new ≡ items_of held.plan.machine.model held.plan.machine.log (signs_in held)
  seen_same keeps = turn.left ∙ keeps_items held held2 keeps

  -- the items before an entry of this turn
  abbrev pub IsHere : List Noted → Type 0
  IsHere before = before ≡ items_of held.plan.machine.model held.plan.machine.log (signs_in held)

  -- what holds in the world of this turn
  pub here : (P : World → Type 0) (before : List Noted) → IsHere before → IsHistory held.plan.machine.model held.plan.machine.log held.plan.machine.world → P held.plan.machine.world → InWorld before P
  here P before is history p = in_world P before held.plan.machine.model held.plan.machine.log (signs_in held) held.plan.machine.world is history p

  pub made_one : (By : World → Entry → Type 0) (By2 : List Noted → Entry → Type 0) (a : Author) (n : ℕ) → IsHistory held.plan.machine.model held.plan.machine.log held.plan.machine.world → (logs : Logs By a held held2 n)
      → ((before : List Noted) → IsHere before → IsPrefix (seen_of old) before → By2 before logs.entry) → Makes By2 a old new n
  made_one By By2 a n history logs by2 =
      let between = turn.takes.longer.0 in
      let before : seen_of old ++ between ≡ seen_of mid = turn.takes.longer.1 in
      let items : IsHere (seen_of old ++ between) = before ∙ turn.found in
      let more : items_in held2 ≡ seen_of mid ++ Made (Some a) logs.entry ∷ [] =
      logs_items By a held held2 n turn.sound logs ∙ ap (λ (xs : List Noted). xs ++ Made (Some a) logs.entry ∷ []) (sym turn.found) in
      let place : n ≡ length (seen_of mid) = logs.place ∙ sym (ap length turn.found ∙ length_going held.plan.machine.model held.plan.machine.log (signs_in held) logs.going) in
      record {
        between = between;
        entry = logs.entry;
        seen = turn.left ∙ more ∙ ap (λ (xs : List Noted). xs ++ Made (Some a) logs.entry ∷ []) (sym before);
        place = place ∙ ap length (sym before);
        mine = turn.grown (Made (Some a) logs.entry) more ∙ ap (λ (xs : List (ℕ × Noted)). xs ++ (length (seen_of mid), Made (Some a) logs.entry) ∷ []) turn.own
            ∙ ap (λ (k : ℕ). mine_of old ++ (k, Made (Some a) logs.entry) ∷ []) (sym place);
        running = stop_in_same (seen_of old ++ between) held.plan.machine.model held.plan.machine.log (signs_in held) items ∙ logs.going;
        step = here (λ w. IsStepIn w logs.entry) (seen_of old ++ between) items history logs.step;
        by = by2 (seen_of old ++ between) items (between, refl);
      }

  module _ (keeps : KeepsLog held held2) where
    stands_in : (P : World → Type 0) → held.plan.machine.spoiled ≡ false → P held.plan.machine.world → InWorld (seen_of new) P
    stands_in P unspoiled p = in_world P (seen_of new) held.plan.machine.model held.plan.machine.log (signs_in held) held.plan.machine.world (seen_same keeps) (turn.sound.history unspoiled) p

    stop_is : stop_in (seen_of new) ≡ is_some held.stopper
    stop_is = stop_in_same (seen_of new) held.plan.machine.model held.plan.machine.log (signs_in held) (seen_same keeps)

    entries_are : entries_in (seen_of new) ≡ held.plan.machine.log
    entries_are = ap entries_in (seen_same keeps) ∙ entries_in_items held.plan.machine.model held.plan.machine.log (signs_in held)

    full_in : held.plan.machine.spoiled ≡ false → held.plan.machine.world.options.entries ≤ length held.plan.machine.log → IsFull (seen_of new)
    full_in unspoiled full =
        let P : List Entry → Type 0 = λ es. held.plan.machine.world.options.entries ≤ length es in
        stands_in (λ w. w.options.entries ≤ length (entries_in (seen_of new))) unspoiled (subst P (sym entries_are) full)

    room_in : held.plan.machine.spoiled ≡ false → length held.plan.machine.log < held.plan.machine.world.options.entries → HasRoomIn (seen_of new)
    room_in unspoiled room =
        let P : List Entry → Type 0 = λ es. length es < held.plan.machine.world.options.entries in
        stands_in (λ w. length (entries_in (seen_of new)) < w.options.entries) unspoiled (subst P (sym entries_are) room)

    listens_in : (b : Bool) → held.plan.machine.spoiled ≡ false → can_listen held.plan.machine.world (is_some held.stopper) ≡ b → InWorld (seen_of new) (λ w. can_listen w (stop_in (seen_of new)) ≡ b)
    listens_in b unspoiled e = stands_in (λ w. can_listen w (stop_in (seen_of new)) ≡ b) unspoiled (ap (λ (s : Bool). can_listen held.plan.machine.world s) stop_is ∙ e)

  wants : Wants held held2 → MakesNothing old new
  wants (inl spoiled) = made_none spoiled.1
  wants (inr same) = made_none (same_held held held2 same.1)

  pub fed : (line : Option (List ℕ)) (r : Result ℕ Stop) → FeedsIn Feeder line held r held2 → Feeds line old r new
  fed line (Ok n) feeds =
      let history = turn.sound.history feeds.unspoiled in
      made_one (IsInputOf line) (λ before e. InWorld before (λ w. IsInputOf line w e)) Feeder n history feeds (λ before is on. here (λ w. IsInputOf line w feeds.entry) before is history feeds.by)
  fed line (Err stop.Spoiled) feeds = made_none (same_held held held2 feeds.1)
  fed line (Err stop.NotNow) feeds = let keeps = same_held held held2 feeds.2 in (made_none keeps, listens_in keeps false feeds.0 feeds.1)
  fed line (Err stop.LogFull) feeds =
      let keeps = same_held held held2 feeds.3 in (made_none keeps, listens_in keeps true feeds.0 feeds.1, full_in keeps feeds.0 feeds.2)
  fed line (Err stop.Memory) feeds = wants feeds

  -- the executive
  pub did : (by : Author) (a : Result Acted Stop) → ExecutesIn by held a held2 → Acts by Executive old a Executive new
  did by (Ok (acted.Did n)) acts =
      let history = turn.sound.history acts.0.unspoiled in
      made_one Executes (IsDueBy Executive Executive (low_of old)) by n history acts.0 (λ before is on. (
        here (λ w. (w.done ≡ false) × (has_event Executive w ≡ true)) before is history (acts.1, acts.2),
        here (λ w. IsChosen (exec_choice_of w) acts.0.entry.event) before is history acts.0.by,
      ))
  did by (Ok acted.Nothing) acts =
      let keeps = same_held held held2 acts.2 in (
        made_none keeps,
        stands_in keeps (λ w. (w.done ≡ false) × (has_event Executive w ≡ false)) acts.0.unspoiled (acts.0.going, acts.1),
        stop_is keeps ∙ acts.0.running,
        refl,
      )
  did by (Ok acted.Finished) acts =
      let keeps = same_held held held2 acts.2 in (made_none keeps, stands_in keeps (λ w. w.done ≡ true) acts.0 acts.1, refl)
  did by (Ok acted.Stopped) acts =
      let keeps = same_held held held2 acts.3 in (made_none keeps, stands_in keeps (λ w. w.done ≡ false) acts.0 acts.1, stop_is keeps ∙ acts.2, refl)
  did by (Err stop.Spoiled) acts = (made_none (same_held held held2 acts.1), refl)
  did by (Err stop.NotNow) acts = absurd acts
  did by (Err stop.LogFull) acts =
      let keeps = same_held held held2 acts.3 in (
        made_none keeps,
        stands_in keeps (λ w. (w.done ≡ false) × (has_event Executive w ≡ true)) acts.0.unspoiled (acts.0.going, acts.1),
        stop_is keeps ∙ acts.0.running,
        full_in keeps acts.0.unspoiled acts.2,
        refl,
      )
  did by (Err stop.Memory) acts = (wants acts, refl)

  -- a planner's look that is over at once
  rests : (g : Lcg) (before : List Noted) (e : Entry) → InWorld before (λ w. is_some (plain_reason_of w) ≡ true) → e.event ≡ event.Rest → IsPlanned g (low_of old) before e.event e.reply g
  rests g before e plain is = subst (λ (v : Event). IsPlanned g (low_of old) before v e.reply g) (sym is) (at_once plain refl)

  pub looked_over : (by : Author) (g : Lcg) (a : Acted) → LooksIn by held (Ok (looked.Settled a)) held2 → Acts by (Planner g) old (Ok a) (Planner g) new
  looked_over by g (acted.Did n) looks =
      let history = turn.sound.history looks.0.unspoiled in
      made_one RestsAtOnce (IsDueBy (Planner g) (Planner g) (low_of old)) by n history looks.0 (λ before is on. (
        here (λ w. (w.done ≡ false) × (has_event (Planner g) w ≡ true)) before is history (looks.1, looks.2),
        rests g before looks.0.entry (here (λ w. is_some (plain_reason_of w) ≡ true) before is history looks.0.by.1) looks.0.by.0,
      ))
  looked_over by g acted.Nothing looks =
      let keeps = same_held held held2 looks.2 in (
        made_none keeps,
        stands_in keeps (λ w. (w.done ≡ false) × (has_event (Planner g) w ≡ false)) looks.0.unspoiled (looks.0.going, looks.1),
        stop_is keeps ∙ looks.0.running,
        inl refl,
      )
  looked_over by g acted.Finished looks =
      let keeps = same_held held held2 looks.2 in (made_none keeps, stands_in keeps (λ w. w.done ≡ true) looks.0 looks.1, inl refl)
  looked_over by g acted.Stopped looks =
      let keeps = same_held held held2 looks.3 in (made_none keeps, stands_in keeps (λ w. w.done ≡ false) looks.0 looks.1, stop_is keeps ∙ looks.2, inl refl)

  pub look_stops : (by : Author) (g : Lcg) (s : Stop) → LooksIn by held (Err s) held2 → Acts by (Planner g) old (Err s) (Planner g) new
  look_stops by g stop.Spoiled looks = (made_none (same_held held held2 looks.1), inl refl)
  look_stops by g stop.NotNow looks = absurd looks
  look_stops by g stop.LogFull looks =
      let keeps = same_held held held2 looks.3 in (
        made_none keeps,
        stands_in keeps (λ w. (w.done ≡ false) × (has_event (Planner g) w ≡ true)) looks.0.unspoiled (looks.0.going, looks.1),
        stop_is keeps ∙ looks.0.running,
        full_in keeps looks.0.unspoiled looks.2,
        inl refl,
      )
  look_stops by g stop.Memory looks = (wants looks, inl refl)

  -- a replica to be asked about
  drafted : (draft : Draft) → IsDraft held.plan.machine draft → is_some held.stopper ≡ false → held2 ≡ held → IsDraftOf (seen_of new) draft
  drafted draft is running same =
      let keeps = same_held held held2 same in
      let model = is.replica.model in
      let P : Model → Type 0 = λ k. Legal k (log_of draft) in
      let Q : List Entry → Type 0 = λ es. Legal held.plan.machine.model es in
      record {
        signs = signs_in held;
        unspoiled = is.replica.unspoiled;
        going = running;
        legal = subst P (sym model) (subst Q (sym is.log) turn.sound.legal);
        is = seen_same keeps ∙ ap (λ (es : List Entry). items_of held.plan.machine.model es (signs_in held)) (sym is.log)
            ∙ ap (λ (k : Model). items_of k (log_of draft) (signs_in held)) (sym model);
      }

  pub opened : (by : Author) (draft : Draft) → LooksIn by held (Ok (looked.Open draft)) held2 → Lends old draft new
  opened by draft looks =
      let keeps = same_held held held2 looks.4 in
      (made_none keeps, stands_in keeps AsksIn looks.0.unspoiled looks.1, room_in keeps looks.0.unspoiled looks.2, drafted draft looks.3 looks.0.running looks.4)

  looked_at : (by : Author) (g : Lcg) (a : Result Looked Stop) → LooksIn by held a held2 → Looks by g old a g new
  looked_at by g (Ok (looked.Settled a)) looks = looked_over by g a looks
  looked_at by g (Ok (looked.Open draft)) looks = (opened by draft looks, refl)
  looked_at by g (Err s) looks = look_stops by g s looks

  -- what a look makes is a rest, and the chooser is not asked for it
  pub look_rests : (by : Author) (g g2 : Lcg) (a : Result Looked Stop) → LooksIn by held a held2 → g2 ≡ g → LookRests by g old a g2 new
  look_rests by g g2 (Ok (looked.Settled (acted.Did n))) looks same =
      let history = turn.sound.history looks.0.unspoiled in
      (made_one RestsAtOnce (λ before e. InWorld before (λ w. RestsAtOnce w e)) by n history looks.0 (λ before is on. here (λ w. RestsAtOnce w looks.0.entry) before is history looks.0.by), same)
  look_rests by g g2 (Ok (looked.Settled acted.Nothing)) looks same = same
  look_rests by g g2 (Ok (looked.Settled acted.Finished)) looks same = same
  look_rests by g g2 (Ok (looked.Settled acted.Stopped)) looks same = same
  look_rests by g g2 (Ok (looked.Open draft)) looks same = same
  look_rests by g g2 (Err s) looks same = same

  -- ---- a planner repairs in the turn in which it looks

  looked_on : MayRepair held → IsHistory held.plan.machine.model held.plan.machine.log held.plan.machine.world → (before : List Noted) → IsHere before → IsPrefix (seen_of old) before → HasLooked (low_of old) before
  looked_on may history before is on =
      let P : List Entry → Type 0 = λ es. length es < held.plan.machine.world.options.entries in
      let entries : entries_in before ≡ held.plan.machine.log = ap entries_in is ∙ entries_in_items held.plan.machine.model held.plan.machine.log (signs_in held) in
      record {
        front = before;
        on = prefix_self before;
        late = prefix_length (seen_of old) before on;
        running = stop_in_same before held.plan.machine.model held.plan.machine.log (signs_in held) is ∙ may.going.running;
        asks = here AsksIn before is history may.asks;
        room = here (λ w. length (entries_in before) < w.options.entries) before is history (subst P (sym entries) may.room);
      }

  sight_here : (g : Lcg) (p : Option Proposal) → MayRepair held → IsHistory held.plan.machine.model held.plan.machine.log held.plan.machine.world → (before : List Noted) → IsHere before → IsPrefix (seen_of old) before
      → seeded_pick held.plan.machine.world.state g ≡ p → IsSight g (low_of old) before p
  unfolding looked_on
  sight_here g p may history before is on picks =
      let P : Option Proposal → Type 0 = λ o. IsProposal held.plan.machine.world.state o in
      record {
        look = looked_on may history before is on;
        picks = here (λ w. p ≡ seeded_pick w.state g) before is history (sym picks);
        legal = here (λ w. IsProposal w.state p) before is history (subst P picks (seeded_is_proposal held.plan.machine.world.state g));
      }

  planned_at_once : (g g2 : Lcg) → MayRepair held → IsHistory held.plan.machine.model held.plan.machine.log held.plan.machine.world → (before : List Noted) → IsHere before → IsPrefix (seen_of old) before
      → (v : Event) (r : Reply) → RepairsAtOnce g g2 held.plan.machine.world v r → IsPlanned g (low_of old) before v r g2
  planned_at_once g g2 may history before is begins (event.Fix k m) r repairs =
      as_seen (sight_here g (Some (record { conflict = k; mv = m })) may history before is begins repairs.0) (λ whole. repairs.1) repairs.2
  planned_at_once g g2 may history before is begins event.Rest r repairs = behind None (sight_here g None may history before is begins repairs.0) (inl refl) repairs.1
  planned_at_once g g2 may history before is begins (event.Opened o) r repairs = absurd repairs
  planned_at_once g g2 may history before is begins (event.Input line) r repairs = absurd repairs
  planned_at_once g g2 may history before is begins (event.Commit h) r repairs = absurd repairs
  planned_at_once g g2 may history before is begins event.Dispatch r repairs = absurd repairs
  planned_at_once g g2 may history before is begins event.Close r repairs = absurd repairs

  -- memory was wanting: the chooser was asked once at most
  asked_once : (g g2 : Lcg) → MayRepair held → KeepsLog held held2 → (g2 ≡ g) ⊎ (g2 ≡ seeded_after g) → IsAskedAtMost (Planner g) (low_of old) (seen_of new) (Planner g2)
  asked_once g g2 may keeps (inl same) = inl same
  asked_once g g2 may keeps (inr drew) = inr (inl (looked_on may (turn.sound.history may.going.unspoiled) (seen_of new) (seen_same keeps) took_turn.longer, drew))

  repair_stops : (by : Author) (g g2 : Lcg) → MayRepair held → Wants held held2 → (g2 ≡ g) ⊎ (g2 ≡ seeded_after g) → Acts by (Planner g) old (Err stop.Memory) (Planner g2) new
  repair_stops by g g2 may (inl spoiled) once = (made_none spoiled.1, asked_once g g2 may spoiled.1 once)
  repair_stops by g g2 may (inr same) once = (made_none (same_held held held2 same.1), asked_once g g2 may (same_held held held2 same.1) once)

  repaired : (by : Author) (g g2 : Lcg) (a : Result Looked Stop) → MayRepair held → RepairsIn by g held a g2 held2 → Looks by g old a g2 new
  repaired by g g2 (Ok (looked.Settled (acted.Did n))) may repairs =
      let history = turn.sound.history may.going.unspoiled in
      made_one (λ w e. RepairsAtOnce g g2 w e.event e.reply) (IsDueBy (Planner g) (Planner g2) (low_of old)) by n history repairs (λ before is on. (
        here (λ w. (w.done ≡ false) × (has_event (Planner g) w ≡ true)) before is history (may.going.going, may.asks.1),
        planned_at_once g g2 may history before is on repairs.entry.event repairs.entry.reply repairs.by,
      ))
  repaired by g g2 (Ok (looked.Settled acted.Nothing)) may repairs = absurd repairs
  repaired by g g2 (Ok (looked.Settled acted.Finished)) may repairs = absurd repairs
  repaired by g g2 (Ok (looked.Settled acted.Stopped)) may repairs = absurd repairs
  repaired by g g2 (Ok (looked.Open draft)) may repairs = absurd repairs
  repaired by g g2 (Err stop.Spoiled) may repairs = absurd repairs
  repaired by g g2 (Err stop.NotNow) may repairs = absurd repairs
  repaired by g g2 (Err stop.LogFull) may repairs = absurd repairs
  repaired by g g2 (Err stop.Memory) may repairs = repair_stops by g g2 may repairs.0 repairs.1

  pub looked_or_repaired : (by : Author) (g g2 : Lcg) (a : Result Looked Stop) → LooksOrRepairs by g held a g2 held2 → Looks by g old a g2 new
  looked_or_repaired by g g2 a (inl looks) = subst (λ (x : Lcg). Looks by g old a x new) (sym looks.1) (looked_at by g a looks.0)
  looked_or_repaired by g g2 a (inr repairs) = repaired by g g2 a repairs.0 repairs.1

  -- ---- a planner settles

  -- what was proposed on the whole history is legal now
  legal_here : (sight : Sight) → CanSettle (seen_of old) sight → IsHistory held.plan.machine.model held.plan.machine.log held.plan.machine.world → (before : List Noted) → IsHere before → IsPrefix (seen_of old) before
      → length before ≡ sight.seen → IsProposal held.plan.machine.world.state sight.proposal
  legal_here sight can history before is on long =
      let P : List Noted → Type 0 = λ xs. InWorld xs (λ w. IsProposal w.state sight.proposal) in
      let same : can.front ≡ before = prefix_whole can.front before (prefix_trans can.front (seen_of old) before can.on on) (can.long ∙ sym long) in
      world_in (λ w. IsProposal w.state sight.proposal) before held.plan.machine.model held.plan.machine.log (signs_in held) held.plan.machine.world is history (subst P same can.legal)

  fix_done : (sight : Sight) (q : Proposal) (r : Reply) → r ≡ fix_reply held.plan.machine.world.state q.conflict q.mv → sight.proposal ≡ Some q → IsProposal held.plan.machine.world.state sight.proposal → r ≡ reply.Done
  fix_done sight q r answers same legal =
      let P : Option Proposal → Type 0 = λ p. IsProposal held.plan.machine.world.state p in
      answers ∙ proposed_done held.plan.machine.world.state q (subst P same legal)

  rests_for : (sight : Sight) (before : List Noted) → IsHere before → IsHistory held.plan.machine.model held.plan.machine.log held.plan.machine.world
      → (sight.proposal ≡ None) ⊎ (held.plan.machine.world.turn ≡ held.plan.machine.world.options.turns) → (sight.proposal ≡ None) ⊎ InWorld before (λ w. w.turn ≡ w.options.turns)
  rests_for sight before is history (inl none) = inl none
  rests_for sight before is history (inr spent) = inr (here (λ w. w.turn ≡ w.options.turns) before is history spent)

  settled_entry : (g g2 : Lcg) (sight : Sight) → CanSettle (seen_of old) sight → IsHistory held.plan.machine.model held.plan.machine.log held.plan.machine.world → (before : List Noted) → IsHere before → IsPrefix (seen_of old) before
      → (v : Event) (r : Reply) → r ≡ reply_of held.plan.machine.world v → inside.Settles g sight.proposal g2 held.plan.machine.world v r → IsSettled g sight g2 before v r
  settled_entry g g2 sight can history before is on (event.Fix k m) r answers (inl seen) =
      inl (seen.0, λ long. fix_done sight (record { conflict = k; mv = m }) r answers seen.0 (legal_here sight can history before is on long), seen.1)
  settled_entry g g2 sight can history before is on (event.Fix k m) r answers (inr asked) =
      inr (asked.0, here (λ w. seeded_pick w.state g ≡ Some (record { conflict = k; mv = m })) before is history asked.1, asked.3, asked.2)
  settled_entry g g2 sight can history before is on event.Rest r answers settles = (rests_for sight before is history settles.0, settles.1)
  settled_entry g g2 sight can history before is on (event.Opened o) r answers settles = absurd settles
  settled_entry g g2 sight can history before is on (event.Input line) r answers settles = absurd settles
  settled_entry g g2 sight can history before is on (event.Commit h) r answers settles = absurd settles
  settled_entry g g2 sight can history before is on event.Dispatch r answers settles = absurd settles
  settled_entry g g2 sight can history before is on event.Close r answers settles = absurd settles

  asked_twice : (g g2 : Lcg) (p : Option Proposal) → Wants held held2 → (g2 ≡ g) ⊎ ((p ≡ None) × (is_repairing held.plan.machine.world ≡ true) × (reason_of held.plan.machine.world ≡ None) × (g2 ≡ seeded_after g))
      → (g2 ≡ g) ⊎ ((p ≡ None) × InWorld (seen_of new) (λ w. (is_repairing w ≡ true) × (reason_of w ≡ None)) × (g2 ≡ seeded_after g))
  asked_twice g g2 p wanted (inl same) = inl same
  asked_twice g g2 p (inl spoiled) (inr asked) = inr (asked.0, stands_in spoiled.1 (λ w. (is_repairing w ≡ true) × (reason_of w ≡ None)) spoiled.0 (asked.1, asked.2), asked.3)
  asked_twice g g2 p (inr none) (inr asked) =
      inr (asked.0, stands_in (same_held held held2 none.1) (λ w. (is_repairing w ≡ true) × (reason_of w ≡ None)) none.0 (asked.1, asked.2), asked.3)

  pub settled : (by : Author) (g g2 : Lcg) (sight : Sight) (a : Result Acted Stop) → CanSettle (seen_of old) sight → SettlesIn by g sight.proposal held a g2 held2 → Settles by g sight old a g2 new
  settled by g g2 sight (Ok (acted.Did n)) can acts =
      let history = turn.sound.history acts.0.unspoiled in
      made_one (λ w e. inside.Settles g sight.proposal g2 w e.event e.reply) (λ before e. InWorld before (λ w. (w.done ≡ false) × (is_repairing w ≡ true)) × IsSettled g sight g2 before e.event e.reply) by n history acts.0 (λ before is on. (
        here (λ w. (w.done ≡ false) × (is_repairing w ≡ true)) before is history (acts.1, acts.2),
        settled_entry g g2 sight can history before is on acts.0.entry.event acts.0.entry.reply acts.0.step.1 acts.0.by,
      ))
  settled by g g2 sight (Ok acted.Nothing) can acts =
      let keeps = same_held held held2 acts.2 in (
        made_none keeps,
        stands_in keeps (λ w. (w.done ≡ false) × (is_repairing w ≡ false)) acts.0.unspoiled (acts.0.going, acts.1),
        stop_is keeps ∙ acts.0.running,
        acts.3,
      )
  settled by g g2 sight (Ok acted.Finished) can acts =
      let keeps = same_held held held2 acts.2 in (made_none keeps, stands_in keeps (λ w. w.done ≡ true) acts.0 acts.1, acts.3)
  settled by g g2 sight (Ok acted.Stopped) can acts =
      let keeps = same_held held held2 acts.3 in (made_none keeps, stands_in keeps (λ w. w.done ≡ false) acts.0 acts.1, stop_is keeps ∙ acts.2, acts.4)
  settled by g g2 sight (Err stop.Spoiled) can acts = (made_none (same_held held held2 acts.1), acts.2)
  settled by g g2 sight (Err stop.NotNow) can acts = absurd acts
  settled by g g2 sight (Err stop.LogFull) can acts =
      let keeps = same_held held held2 acts.3 in (
        made_none keeps,
        stands_in keeps (λ w. (w.done ≡ false) × (is_repairing w ≡ true)) acts.0.unspoiled (acts.0.going, acts.1),
        stop_is keeps ∙ acts.0.running,
        full_in keeps acts.0.unspoiled acts.2,
        acts.4,
      )
  settled by g g2 sight (Err stop.Memory) can acts = (wants acts.0, asked_twice g g2 sight.proposal acts.0 acts.1)

  copied : (from : ℕ) (part : Part) → held2 ≡ held → IsPart from held part → Copies from (seen_of new) part
  copied from part same is =
      let keeps = same_held held held2 same in
      record {
        entries = is.entries ∙ ap (drop from) (sym (entries_are keeps));
        world = in_world_of (λ w. (part.closed ≡ w.closed) × (part.done ≡ w.done)) (seen_of new) held.plan.machine.model held.plan.machine.log (signs_in held) (seen_same keeps) turn.sound.legal
            (is.closed ∙ ap (λ (w : World). w.closed) turn.sound.others, is.done ∙ ap (λ (w : World). w.done) turn.sound.others);
        stopped = is.stopped ∙ sym (stop_is keeps);
      }

  pub copied_if : {E : Type 0} (from : ℕ) (r : Result Part E) → held2 ≡ held → IfOk r (IsPart from held) → IfOk r (Copies from (seen_of new))
  copied_if from (Ok part) same is = copied from part same is
  copied_if from (Err e) same is = tt

  -- whether the round is over, as the world behind what was seen has it
  pub told_over : (b : Bool) → held2 ≡ held → b ≡ (held.plan.machine.world.closed || is_some held.stopper) → InWorld (seen_of new) (λ w. b ≡ (w.closed || stop_in (seen_of new)))
  told_over b same is =
      let keeps = same_held held held2 same in
      in_world_of (λ w. b ≡ (w.closed || stop_in (seen_of new))) (seen_of new) held.plan.machine.model held.plan.machine.log (signs_in held) (seen_same keeps) turn.sound.legal
      (is ∙ ap (λ (w : World). w.closed || is_some held.stopper) turn.sound.others ∙ ap (λ (s : Bool). (world_of held.plan.machine.model held.plan.machine.log).closed || s) (sym (stop_is keeps)))

  pub made_nothing : held2 ≡ held → MakesNothing old new
  made_nothing same = made_none (same_held held held2 same)

-- ---- the stop

pub stops : (by : Author) (old mid new : PlanPass) (held held2 : Held) → Turn old mid new held held2 → held2.plan ≡ held.plan → (is_some held.stopper ≡ false → held2.stopper ≡ Some by)
    → (is_some held.stopper ≡ true → held2.stopper ≡ held.stopper) → (t : Bool) → is_some held.stopper ≡ t → Stops by old new
stops by old mid new held held2 turn plan first again true was =
    let keeps : KeepsLog held held2 = record { log = ap (λ (w : Written). w.machine.log) plan; model = ap (λ (w : Written). w.machine.model) plan; signs = ap (λ (w : Written). w.signs) plan; same = again was } in
    was_stopped (made_none old mid new held held2 turn keeps) (stop_is old mid new held held2 turn keeps ∙ was)
stops by old mid new held held2 turn plan first again false was =
    let items : items_in held2 ≡ seen_of mid ++ Stopped by ∷ [] =
    stopped_first by held held2 plan was (first was) ∙ ap (λ (xs : List Noted). xs ++ Stopped by ∷ []) (sym turn.found) in
    is_stopped (seen_of mid) turn.takes.longer (stop_in_same (seen_of mid) held.plan.machine.model held.plan.machine.log (signs_in held) turn.found ∙ was) (turn.left ∙ items)
    (turn.grown (Stopped by) items ∙ ap (λ (xs : List (ℕ × Noted)). xs ++ (length (seen_of mid), Stopped by) ∷ []) turn.own)

-- ---- passes

pub belongs_in : (plan : SharedPlan) (pass : PlanPass) (h : Held) → IsPassOf plan.lock pass → in_turn pass ≡ false → seen_of pass ≡ items_in h → IsSound h.plan → BelongsTo plan pass
belongs_in plan pass h own outside is sound = record { lock = own; outside = outside; seen = plan_in (seen_of pass) h is sound }

pub belongs_same : (plan : SharedPlan) (old new : PlanPass) → BelongsTo plan old → IsPassOf plan.lock new → in_turn new ≡ false → seen_of new ≡ seen_of old → BelongsTo plan new
belongs_same plan old new belongs own outside same = record { lock = own; outside = outside; seen = subst IsPlan (sym same) belongs.seen }

plan_longer : (b : Bool) (xs ys : List Noted) → IsPlan xs → IsPlan ys → IsPlan (cond b ys xs)
plan_longer true xs ys here there = there
plan_longer false xs ys here there = here

pub belongs_joined : (plan : SharedPlan) (old other new : PlanPass) → BelongsTo plan old → BelongsTo plan other → IsPassOf plan.lock new → in_turn new ≡ false → seen_of new ≡ longer (seen_of old) (seen_of other) → BelongsTo plan new
belongs_joined plan old other new belongs joins own outside is = record {
  lock = own;
  outside = outside;
  seen = subst IsPlan (sym is) (plan_longer (nat_lt (length (seen_of old)) (length (seen_of other))) (seen_of old) (seen_of other) belongs.seen joins.seen);
}

-- the plan is taken apart
pub closed : (pass : PlanPass) (h : Held) → IsPlan (seen_of pass) → IsSound h.plan → IsPrefix (seen_of pass) (items_in h) → counted_of pass ≤ length (items_in h) → All (StandsIn (items_in h)) (lists_of pass)
    → IsEachOnce (opening_of pass) (length (items_in h)) (λ place. times_in place (lists_of pass)) → Closes pass h.plan.machine h.plan.signs
closed pass h plan sound on counted stands owners = record {
  signs = signs_in h;
  signed = refl;
  some = sound.tied.some;
  each = sound.tied.each;
  handed = sym (some_opening (seen_of pass) (items_in h) plan on) ∙ opening_in_items h.plan.machine.model h.plan.machine.log (signs_in h) sound.legal;
  legal = sound.legal;
  model = sym (some_model (seen_of pass) (items_in h) plan on) ∙ model_in_items h.plan.machine.model h.plan.machine.log (signs_in h) sound.legal;
  history = on;
  counted = counted;
  stands = stands;
  owners = owners;
}
