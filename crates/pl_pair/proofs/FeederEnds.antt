-- What a run comes to, from how its feeder ended.
use Rattle.std.proofs.Common.{◌≡◌, ℕ, ◌+◌, ◌≤◌, List, [], ◌∷◌, ◌++◌, length, Bool, true, false, Option, Some, Result, Ok, Err, refl, sym, ◌∙◌, ap, subst, arith, inl, inr, ◌⊎◌, append_assoc}
use Rattle.std.specs.Prelude.{◌||◌}
use Rattle.std.proofs.lemmas.List.{append-nil}
use mathlib.Core.List.{IsPrefix}
use Rattle.pl_turn.specs.Passes.{seen_of, mine_of}
use Rattle.pl_turn.proofs.Histories.{prefix_self, prefix_trans, prefix_length}
use Rattle.pl_io.specs.declared.errors.LineFault.{LineFault}
use Rattle.pl_marks.specs.declared.author.Author.TheVariants.{Feeder}
use Rattle.pl_entry.specs.declared.entry.Entry.{Entry}
use Rattle.pl_machine.specs.World.{World}
use Rattle.pl_machine.specs.Legal.{world_of}
use Rattle.pl_input.specs.Words.{messages_of}
use Rattle.pl_machine.specs.Finished.{inputs_of}
use Rattle.pl_machine.specs.Sound.{State}
use Rattle.pl_io.specs.Lines.{lines_of}
use Rattle.pl_io.specs.Writes.{AppendsFront}
use Rattle.pl_io.specs.Reader.{NumberedLine}
use Rattle.pl_journal.specs.Rendering.Lines.{text_from, text_of_log}
use Rattle.pl_input.specs.Waits.{line_in}
use Rattle.pl_driver.specs.CutShort.{answers, IsCutShort}
use Rattle.pl_acts.specs.declared.noted.Noted.{Noted}
use Rattle.pl_locked.specs.declared.plan.SharedPlan.{SharedPlan}
use Rattle.pl_acts.specs.Items.{handed_in, items_of, entries_in, model_in, InWorld}
use Rattle.pl_locked.specs.Plans.{PlanPass, BelongsTo}
use Rattle.pl_acts.specs.Seen.{IsFull}
use Rattle.pl_locked.specs.Turns.{TakesTurn, Stops}
use Rattle.pl_acts.proofs.Items.{entries_in_items, model_in_items, length_going}
use Rattle.pl_pair.specs.declared.cut.Cut.{Cut}
use Rattle.pl_pair.specs.declared.cut.Cut.TheVariants as cut
use Rattle.pl_input.specs.declared.halt.Halt.{Halt}
use Rattle.pl_input.specs.declared.halt.Halt.TheVariants as halt
use Rattle.pl_pair.specs.declared.worker.Worker.{Worker}
use Rattle.pl_pair.specs.Cuts.{cut_by}
use Rattle.pl_pair.specs.Rounds.{Follows, IsBetween, lines_behind}
use Rattle.pl_input.specs.Places.{Place}
use Rattle.pl_pair.specs.Asking.{Faults, Asks}
use Rattle.pl_pair.specs.Feeds.{AreInputs, HandsOnMessages, HandsOne, Writes, WritesAll, FeedsOut, FeedsUntil, FeedsRefused, FeedsStopped, FeedsTorn, FeedsShort, for_lines, for_message, for_reader, FeedsCut, refused, FeedsAll, FeedsToEnd}
use Rattle.pl_pair.specs.Feeds as fed
use Rattle.pl_pair.specs.Endings.{met_by, refusal_of, ended_of}
use Rattle.pl_pair.specs.Joins.{refusals}
use Rattle.pl_pair.specs.Runs.{InMessages, Given, WritesLog, ReadUpTo, RunsUntil, RunsFull, IsWrittenInPart, in_last_round, in_first_round, one_behind, one_unread, RunsShort, in_lines, all_lines, behind_lines, RunEnds, RunsTo}
use Rattle.pl_machine.proofs.Going.{Goes, world_goes}
use Rattle.pl_pair.proofs.Ending.{NoEnds, LastEnds, EndsIf}
use Rattle.pl_pair.proofs.Saying.{told_on, told_all, up_to_last, up_to_told, if_known, asks_begins}
use Rattle.pl_pair.proofs.Passing.{follows_on}
use Rattle.pl_pair.proofs.Feeding.{entries_on, own_stands, heard_more}
use Rattle.pl_pair.proofs.Cutting.{twice_on, twice_is, rest_some, rest_torn, whole_torn}
use Rattle.pl_pair.proofs.Closing.{same_model}
use Rattle.pl_pair.proofs.Onward.{Rests, between, over, stopped, world_in}
use Rattle.pl_pair.proofs.OwnItems.{inputs_kind}
use Rattle.pl_pair.proofs.Inputs.{FeederList}
use Rattle.pl_pair.proofs.Joining.{Joined, Settled, list_same, list_stop, met_full, entries, ends_told, inputs_same, settled_log, settled_text, settled_world, one_message, full_seen, full_round}
use Rattle.pl_pair.proofs.Causes.{Whys, ends_refusal, given_by, limit_whys, memory_by, never_finished, no_other, team_run, read_whys, same_halt}
use Rattle.pl_acts.proofs.FullLogs.{some_entries}

-- ---- how the feeder ended

pub no_ends : (b : Bool) (inputs : List (Option (List ℕ))) → b ≡ false → EndsIf b inputs → NoEnds inputs
no_ends true inputs e ends = absurd (cc)
no_ends false inputs e ends = ends

pub last_ends : (b : Bool) (inputs : List (Option (List ℕ))) → b ≡ true → EndsIf b inputs → LastEnds inputs
last_ends true inputs e ends = ends
last_ends false inputs e ends = absurd (cc)

-- a feeder that has no own item handed on no message
pub none_handed : (inputs : List (Option (List ℕ))) (own : List (ℕ × Noted)) → AreInputs inputs own → own ≡ [] → inputs ≡ []
none_handed [] own are none = refl
none_handed (i ∷ inputs) [] are none = absurd are
none_handed (i ∷ inputs) (x ∷ own) are none = absurd (cc)

-- a round that is open has no end of the input behind it
pub closed_by : (w : World) (closed : Bool) → w.closed ≡ closed → Goes w → w.done ≡ true → closed ≡ true
closed_by w true is goes done = refl
closed_by w false is goes done = absurd (let both : true ≡ false = sym done ∙ goes is in cc)

module _ (start : State) (first : PlanPass) (ws : List Worker) (joined : Joined start.model start.log first ws) (place : Place) (held now : Option (List ℕ)) (old : PlanPass) (seen0 : seen_of old ≡ items_of start.model start.log (handed_in start.log)) where
  pub opening_of_front : (front : List Noted) → IsPrefix (seen_of old) front → length start.log ≤ length front
  opening_of_front front longer =
      let le = prefix_length (seen_of old) front longer in
      let same = ap (λ (xs : List Noted). length xs) seen0 ∙ length_going start.model start.log (handed_in start.log) refl in
      omega (arith, le, same)

  pub opening_in : (mid : PlanPass) → Follows old mid → length start.log ≤ length (seen_of mid)
  opening_in mid follows = opening_of_front (seen_of mid) follows.longer

  pub model_of : (mid : PlanPass) → Follows old mid → model_in (seen_of mid) ≡ Some start.model
  model_of mid follows = follows.model ∙ (ap model_in seen0 ∙ model_in_items start.model start.log (handed_in start.log) joined.legal)

  -- the run where a history that was written whole is all
  module _ (mid : PlanPass) (end : Place) (tells : HandsOnMessages old place mid end) (plan : SharedPlan) (own : BelongsTo plan mid) (list : FeederList tells.inputs (mine_of mid) (mine_of first)) (to_first : IsPrefix (seen_of mid) (seen_of first)) where
    onto : IsPrefix (seen_of mid) (items_of start.model joined.whole.log joined.whole.stop)
    onto = prefix_trans (seen_of mid) (seen_of first) (items_of start.model joined.whole.log joined.whole.stop) to_first joined.whole.first_seen

    abbrev more_entries : List Entry
    more_entries = entries start.model start.log first ws joined tells.inputs (mine_of mid) list

    told_same : inputs_of more_entries ≡ tells.inputs
    told_same = inputs_same start.model start.log first ws joined tells.inputs (mine_of mid) list

    told_ends : EndsIf (world_of start.model joined.whole.log).done tells.inputs
    told_ends = ends_told start.model start.log first ws joined tells.inputs (mine_of mid) list

    -- how far was read, whether the input has ended or not
    told_read : ReadUpTo place (inputs_of more_entries) end
    told_read = subst (λ (is : List (Option (List ℕ))). ReadUpTo place is end) (sym told_same) (up_to_told (world_of start.model joined.whole.log).done place end tells.inputs tells.heard told_ends)

    -- of the lines behind a front of what was seen, a front was written, and not all of them
    module _ (next : ℕ) (so_far : Option (List ℕ)) (writes : Writes start.model old held mid so_far next) (torn : AppendsFront so_far now (lines_behind start.model next (seen_of mid))) where
      abbrev behind_front : List Noted
      behind_front = twice_on writes.front (seen_of mid) (items_of start.model joined.whole.log joined.whole.stop) writes.in_front onto

      front_onto : writes.front ++ behind_front ≡ items_of start.model joined.whole.log joined.whole.stop
      front_onto = twice_is start.model writes.front (seen_of mid) (items_of start.model joined.whole.log joined.whole.stop) writes.in_front onto next writes.count

      log_parts : joined.whole.log ≡ entries_in writes.front ++ entries_in behind_front
      log_parts =
          sym (entries_in_items start.model joined.whole.log joined.whole.stop) ∙ entries_on writes.front (items_of start.model joined.whole.log joined.whole.stop) (behind_front, front_onto)

      last_torn : AppendsFront so_far now (text_from start.model (length (entries_in writes.front)) (entries_in behind_front))
      last_torn = rest_torn start.model writes.front (seen_of mid) (items_of start.model joined.whole.log joined.whole.stop) writes.in_front onto next writes.count so_far now torn

      all_torn : AppendsFront held now (text_of_log start.model joined.whole.log)
      all_torn = whole_torn start.model held so_far now joined.whole.log (entries_in writes.front) (entries_in behind_front) log_parts writes.written last_torn

      -- the front is a closed round's, and one message stands behind it
      cut_one : HandsOne old writes.front (mine_of mid) → IsCutShort start.model joined.whole.log held now
      cut_one handed =
          let here : IsPrefix writes.front (items_of start.model joined.whole.log joined.whole.stop) = (behind_front, front_onto) in
          let model = same_model writes.front (items_of start.model joined.whole.log joined.whole.stop) start.model handed.plan here (model_in_items start.model joined.whole.log joined.whole.stop joined.whole.legal) in
          let due = rest_some start.model writes.front (seen_of mid) (items_of start.model joined.whole.log joined.whole.stop) writes.in_front onto next writes.count writes.due in
          let one = one_message start.model start.log first ws joined tells.inputs (mine_of mid) list old writes.front handed here (opening_of_front writes.front handed.longer) due in
          record {
            earlier = entries_in writes.front;
            last = entries_in behind_front;
            parts = log_parts;
            round = answers one.0 (some_entries writes.front handed.plan) (world_in IsBetween writes.front start.model model handed.between).0 one.1;
            written = so_far;
            whole = writes.written;
            part = last_torn;
            front = all_torn;
          }

      in_part : IsWrittenInPart start.model joined.whole.log more_entries held now
      in_part = by writes.behind
        where
          by : (mine_of mid ≡ []) ⊎ HandsOne old writes.front (mine_of mid) → IsWrittenInPart start.model joined.whole.log more_entries held now
          by (inl none) = in_first_round (told_same ∙ none_handed tells.inputs (mine_of mid) tells.mine none) all_torn
          by (inr handed) = in_last_round (cut_one handed)

    module _ (rests : Rests (seen_of mid)) (written : WritesAll start.model held (seen_of mid) now) where
      settled : Settled start.model held now (seen_of mid) (mine_of mid)
      settled = record { plan = own.seen; model = model_of mid tells.follows; rests = rests; stands = own_stands plan mid own; written = written }

      log_is : joined.whole.log ≡ entries_in (seen_of mid)
      log_is = settled_log start.model start.log first ws joined tells.inputs (mine_of mid) list held now (seen_of mid) settled onto (opening_in mid tells.follows)

      text_is : WritesLog start.model joined.whole.log held now
      text_is = settled_text start.model start.log first ws joined tells.inputs (mine_of mid) list held now (seen_of mid) settled onto (opening_in mid tells.follows)

      world_is : (P : World → Type 0) → InWorld (seen_of mid) P → P (world_of start.model joined.whole.log)
      world_is P here = settled_world start.model start.log first ws joined tells.inputs (mine_of mid) list held now (seen_of mid) settled onto (opening_in mid tells.follows) P here

      out_ends : InWorld (seen_of mid) (λ w. w.done ≡ true) → RunEnds (Ok tt) start.model joined.whole.log more_entries place held end now
      out_ends done =
          let at = world_is (λ w. w.done ≡ true) done in
          let ends = last_ends (world_of start.model joined.whole.log).done tells.inputs at told_ends in
          record {
            done = at;
            closed = closed_by (world_of start.model joined.whole.log) (world_of start.model joined.whole.log).closed refl (world_goes start.model joined.whole.log joined.whole.legal) at;
            messages = subst (λ (is : List (Option (List ℕ))). InMessages place (λ messages. is ≡ messages)) (sym told_same) (told_all old mid place end tells ends);
            read = told_read;
            written = text_is;
          }

      until_ends : (r : Halt) (c : Cut) (f : LineFault) (behind : Place) → Whys r c place → c ≡ cut_by f → Faults end f behind → InWorld (seen_of mid) IsBetween → RunsUntil r start.model joined.whole.log more_entries place held behind now
      until_ends r c f behind whys is asks here =
          let at = world_is IsBetween here in
          record {
            between = at;
            given = subst (λ (is : List (Option (List ℕ))). Given r place is behind) (sym told_same) (given_by r c old mid place end behind tells f whys is (no_ends (world_of start.model joined.whole.log).done tells.inputs at.1 told_ends) asks);
            written = text_is;
          }

      -- a worker met a full log, in an open round
      worker_open : ((met_by (refusals ws)).full) ≡ true → (world_of start.model joined.whole.log).closed ≡ false
      worker_open is =
          let met = met_full start.model start.log first ws joined is in
          (full_round start.model start.log first ws joined tells.inputs (mine_of mid) list met.0 met.1).1

      worker_full : ((met_by (refusals ws)).full) ≡ true → RunsFull start.model joined.whole.log more_entries place held end now
      worker_full is =
          let met = met_full start.model start.log first ws joined is in
          let at = full_round start.model start.log first ws joined tells.inputs (mine_of mid) list met.0 met.1 in
          record {
            full = at.0;
            going = at.2;
            pending = [];
            read = subst (λ (is : List (Option (List ℕ))). ReadUpTo place is end) (sym (append-nil (inputs_of more_entries))) told_read;
            due = inl (at.1, refl);
            written = text_is;
          }

      -- the next message was read
      next_read : (world_of start.model joined.whole.log).done ≡ false → (message : Option NumberedLine) (after : Place) → Asks end (Ok message) after
          → InMessages place (λ messages. IsPrefix (inputs_of more_entries ++ line_in message ∷ []) messages)
      next_read going message after asks =
          if_known place.ahead (λ bytes. IsPrefix (inputs_of more_entries ++ line_in message ∷ []) (messages_of (lines_of bytes))) (λ bytes is.
          let told = told_on old mid place end tells (no_ends (world_of start.model joined.whole.log).done tells.inputs going told_ends) bytes is in
          let first' = asks_begins end after message told.0 asks told.1 in
          let whole' : (inputs_of more_entries ++ line_in message ∷ []) ++ first'.others ≡ messages_of (lines_of bytes) =
          append_assoc (inputs_of more_entries) (line_in message ∷ []) first'.others
          ∙ ap (λ (is : List (Option (List ℕ))). is ++ line_in message ∷ first'.others) told_same
          ∙ ap (λ (ms : List (Option (List ℕ))). tells.inputs ++ ms) (sym first'.is)
          ∙ sym told.2 in
          (first'.others, whole'))

      read_next : (world_of start.model joined.whole.log).done ≡ false → (message : Option NumberedLine) (after : Place) → Asks end (Ok message) after → ReadUpTo place (inputs_of more_entries ++ line_in message ∷ []) after
      read_next going message after asks =
          subst (λ (is : List (Option (List ℕ))). ReadUpTo place (is ++ line_in message ∷ []) after) (sym told_same)
          (up_to_last place after tells.inputs (line_in message) (heard_more place end after tells.inputs message tells.heard asks) (no_ends (world_of start.model joined.whole.log).done tells.inputs going told_ends))

-- the feeder's list behind a refusal, which made nothing
pub list_behind : (inputs : List (Option (List ℕ))) (before mid first : PlanPass) → AreInputs inputs (mine_of before) → mine_of mid ≡ mine_of before → Stops Feeder mid first → FeederList inputs (mine_of before) (mine_of first)
list_behind inputs before mid first are same stops =
    let P : List (ℕ × Noted) → Type 0 = λ own. FeederList inputs own (mine_of first) in
    let Q : List (ℕ × Noted) → Type 0 = λ own. AreInputs inputs own in
    subst P same (list_stop inputs mid first (subst Q (sym same) are) stops)

module _ (start : State) (first : PlanPass) (ws : List Worker) (joined : Joined start.model start.log first ws) (place : Place) (held now : Option (List ℕ)) (old : PlanPass) (seen0 : seen_of old ≡ items_of start.model start.log (handed_in start.log)) (plan : SharedPlan) (end : Place) where
  pub runs_out : FeedsOut plan start.model old place held first end now → RunsTo joined.whole.log joined.whole.stop.by joined.duties start place held (Ok tt) end now
  runs_out feeds =
      let list = list_same feeds.tells.inputs first first feeds.tells.mine refl in
      team_run (Ok tt) start first ws joined place held now old first end end feeds.tells list (λ e. (
        inputs_kind feeds.tells.inputs (mine_of first) feeds.tells.mine,
        sym (log_is start first ws joined place held now old seen0 first end feeds.tells plan feeds.own list (prefix_self (seen_of first)) (over feeds.done) feeds.written),
      )) (λ e. absurd (cc))
      (out_ends start first ws joined place held now old seen0 first end feeds.tells plan feeds.own list (prefix_self (seen_of first)) (over feeds.done) feeds.written feeds.done)

  module _ (mid : PlanPass) (takes : TakesTurn mid first) (stops : Stops Feeder mid first) where
    runs_until : (r : Halt) (c : Cut) → (r ≡ halt.Full → ⊥)
        → ((entries : List Entry) → RunsUntil r start.model joined.whole.log entries place held end now → RunEnds (Err r) start.model joined.whole.log entries place held end now)
        → Whys r c place → FeedsUntil plan start.model c old place held mid end now → RunsTo joined.whole.log joined.whole.stop.by joined.duties start place held (Err r) end now
    runs_until r c never_full as' whys feeds =
        let tells = feeds.waiting.tells in
        let list = list_stop tells.inputs mid first tells.mine stops in
        team_run (Err r) start first ws joined place held now old mid feeds.middle end tells list (λ e. absurd (never_finished r e)) (λ e. absurd (never_full (same_halt r halt.Full e)))
        (as' (more_entries start first ws joined place held now old seen0 mid feeds.middle tells plan feeds.waiting.own list takes.longer)
        (until_ends start first ws joined place held now old seen0 mid feeds.middle tells plan feeds.waiting.own list takes.longer (between feeds.waiting.between) feeds.waiting.written
        r c feeds.fault end whys feeds.cut feeds.asks feeds.waiting.between))

    -- a write failed
    runs_torn : FeedsTorn plan start.model old place held mid end now → RunsTo joined.whole.log joined.whole.stop.by joined.duties start place held (Err halt.Write) end now
    runs_torn feeds =
        let tells = feeds.feeding.tells in
        let list = list_stop tells.inputs mid first tells.mine stops in
        team_run (Err halt.Write) start first ws joined place held now old mid end end tells list (λ e. absurd (never_finished halt.Write e)) (λ e. absurd (let h : halt.Write ≡ halt.Full = same_halt halt.Write halt.Full e in (cc)))
        (record {
          read = told_read start first ws joined place held now old seen0 mid end tells plan feeds.feeding.own list takes.longer;
          written = in_part start first ws joined place held now old seen0 mid end tells plan feeds.feeding.own list takes.longer feeds.next feeds.so_far feeds.feeding.writes feeds.torn;
        })

    -- memory was wanting for the lines of a round
    runs_part : FeedsTorn plan start.model old place held mid end now → RunsTo joined.whole.log joined.whole.stop.by joined.duties start place held (Err halt.Memory) end now
    runs_part feeds =
        let tells = feeds.feeding.tells in
        let list = list_stop tells.inputs mid first tells.mine stops in
        team_run (Err halt.Memory) start first ws joined place held now old mid end end tells list (λ e. absurd (never_finished halt.Memory e)) (λ e. absurd (let h : halt.Memory ≡ halt.Full = same_halt halt.Memory halt.Full e in (cc)))
        (in_lines (told_read start first ws joined place held now old seen0 mid end tells plan feeds.feeding.own list takes.longer)
        (in_part start first ws joined place held now old seen0 mid end tells plan feeds.feeding.own list takes.longer feeds.next feeds.so_far feeds.feeding.writes feeds.torn))

    -- to read a message
    runs_unread : FeedsUntil plan start.model cut.Memory old place held mid end now → RunsTo joined.whole.log joined.whole.stop.by joined.duties start place held (Err halt.Memory) end now
    runs_unread feeds =
        let tells = feeds.waiting.tells in
        let list = list_stop tells.inputs mid first tells.mine stops in
        let rests = between feeds.waiting.between in
        let at = world_is start first ws joined place held now old seen0 mid feeds.middle tells plan feeds.waiting.own list takes.longer rests feeds.waiting.written IsBetween feeds.waiting.between in
        let P : LineFault → Type 0 = λ f. Faults feeds.middle f end in
        team_run (Err halt.Memory) start first ws joined place held now old mid feeds.middle end tells list (λ e. absurd (never_finished halt.Memory e)) (λ e. absurd (let h : halt.Memory ≡ halt.Full = same_halt halt.Memory halt.Full e in (cc)))
        (behind_lines at
        (one_unread feeds.middle (told_read start first ws joined place held now old seen0 mid feeds.middle tells plan feeds.waiting.own list takes.longer) (subst P (memory_by feeds.fault feeds.cut) feeds.asks))
        (text_is start first ws joined place held now old seen0 mid feeds.middle tells plan feeds.waiting.own list takes.longer rests feeds.waiting.written))

    -- a message was read that the plan did not take
    short_refused : (c : Cut) (feeds : FeedsRefused plan start.model c old place held mid end now) (same : mine_of mid ≡ mine_of feeds.mid)
        → RunsShort start.model joined.whole.log
        (more_entries start first ws joined place held now old seen0 feeds.mid feeds.middle feeds.waiting.tells plan feeds.waiting.own (list_behind feeds.waiting.tells.inputs feeds.mid mid first feeds.waiting.tells.mine same stops)
        (prefix_trans (seen_of feeds.mid) (seen_of mid) (seen_of first) feeds.follows.longer takes.longer)) place held end now
    short_refused c feeds same =
        let tells = feeds.waiting.tells in
        let list = list_behind tells.inputs feeds.mid mid first tells.mine same stops in
        let to_first = prefix_trans (seen_of feeds.mid) (seen_of mid) (seen_of first) feeds.follows.longer takes.longer in
        let rests = between feeds.waiting.between in
        let at = world_is start first ws joined place held now old seen0 feeds.mid feeds.middle tells plan feeds.waiting.own list to_first rests feeds.waiting.written IsBetween feeds.waiting.between in
        behind_lines at
        (one_behind (line_in feeds.step.message)
        (read_next start first ws joined place held now old seen0 feeds.mid feeds.middle tells plan feeds.waiting.own list to_first rests feeds.waiting.written at.1 feeds.step.message end feeds.step.asks)
        (next_read start first ws joined place held now old seen0 feeds.mid feeds.middle tells plan feeds.waiting.own list to_first rests feeds.waiting.written at.1 feeds.step.message end feeds.step.asks))
        (text_is start first ws joined place held now old seen0 feeds.mid feeds.middle tells plan feeds.waiting.own list to_first rests feeds.waiting.written)

    -- to hand a message on
    runs_untaken : FeedsRefused plan start.model cut.Memory old place held mid end now → RunsTo joined.whole.log joined.whole.stop.by joined.duties start place held (Err halt.Memory) end now
    runs_untaken feeds =
        let tells = feeds.waiting.tells in
        let list = list_behind tells.inputs feeds.mid mid first tells.mine feeds.step.hands stops in
        team_run (Err halt.Memory) start first ws joined place held now old feeds.mid feeds.middle end tells list (λ e. absurd (never_finished halt.Memory e)) (λ e. absurd (let h : halt.Memory ≡ halt.Full = same_halt halt.Memory halt.Full e in (cc))) (short_refused cut.Memory feeds feeds.step.hands)

    runs_short : FeedsShort plan start.model old place held mid end now → RunsTo joined.whole.log joined.whole.stop.by joined.duties start place held (Err halt.Memory) end now
    runs_short (for_lines feeds) = runs_part feeds
    runs_short (for_message feeds) = runs_untaken feeds
    runs_short (for_reader feeds) = runs_unread feeds

    -- the plan refused a message, for a full log or since a worker had stopped it
    runs_refused : (full : Bool) (c : Cut) (feeds : FeedsRefused plan start.model c old place held mid end now) → mine_of mid ≡ mine_of feeds.mid → (full ≡ true → IsFull (seen_of mid)) → RunsTo joined.whole.log joined.whole.stop.by joined.duties start place held (Err (refusal_of full (met_by (refusals ws)))) end now
    runs_refused full c feeds same is_full' =
        let tells = feeds.waiting.tells in
        let list = list_behind tells.inputs feeds.mid mid first tells.mine same stops in
        let to_first = prefix_trans (seen_of feeds.mid) (seen_of mid) (seen_of first) feeds.follows.longer takes.longer in
        let others = (met_by (refusals ws)).other in
        let workers = (met_by (refusals ws)).full in
        let more = more_entries start first ws joined place held now old seen0 feeds.mid feeds.middle tells plan feeds.waiting.own list to_first in
        team_run (Err (refusal_of full (met_by (refusals ws)))) start first ws joined place held now old feeds.mid feeds.middle end tells list (λ e. absurd (never_finished (refusal_of full (met_by (refusals ws))) e)) (λ e. no_other others (full || workers) e)
        (ends_refusal others (full || workers) start.model joined.whole.log more place end held now (short_refused c feeds same) (λ e is. by_full full is is_full'))
      where
        by_full : (f : Bool) → (f || ((met_by (refusals ws)).full)) ≡ true → (f ≡ true → IsFull (seen_of mid))
            → RunsFull start.model joined.whole.log
            (more_entries start first ws joined place held now old seen0 feeds.mid feeds.middle feeds.waiting.tells plan feeds.waiting.own (list_behind feeds.waiting.tells.inputs feeds.mid mid first feeds.waiting.tells.mine same stops)
            (prefix_trans (seen_of feeds.mid) (seen_of mid) (seen_of first) feeds.follows.longer takes.longer)) place held end now
        by_full true is full' =
            let tells = feeds.waiting.tells in
            let list = list_behind tells.inputs feeds.mid mid first tells.mine same stops in
            let to_first = prefix_trans (seen_of feeds.mid) (seen_of mid) (seen_of first) feeds.follows.longer takes.longer in
            let rests = between feeds.waiting.between in
            let at = world_is start first ws joined place held now old seen0 feeds.mid feeds.middle tells plan feeds.waiting.own list to_first rests feeds.waiting.written IsBetween feeds.waiting.between in
            let follows = follows_on old feeds.mid mid tells.follows feeds.follows in
            record {
              full = full_seen start.model start.log first ws joined tells.inputs (mine_of feeds.mid) list (seen_of mid) feeds.own.seen (model_of start first ws joined place held now old seen0 mid follows)
                  (prefix_trans (seen_of mid) (seen_of first) (items_of start.model joined.whole.log joined.whole.stop) takes.longer joined.whole.first_seen) (full' refl);
              going = at.1;
              pending = line_in feeds.step.message ∷ [];
              read = read_next start first ws joined place held now old seen0 feeds.mid feeds.middle tells plan feeds.waiting.own list to_first rests feeds.waiting.written at.1 feeds.step.message end feeds.step.asks;
              due = inr (at.0, (line_in feeds.step.message, (refl, next_read start first ws joined place held now old seen0 feeds.mid feeds.middle tells plan feeds.waiting.own list to_first rests feeds.waiting.written at.1 feeds.step.message end feeds.step.asks)));
              written = text_is start first ws joined place held now old seen0 feeds.mid feeds.middle tells plan feeds.waiting.own list to_first rests feeds.waiting.written;
            }
        by_full false is full' =
            let tells = feeds.waiting.tells in
            let list = list_behind tells.inputs feeds.mid mid first tells.mine same stops in
            let to_first = prefix_trans (seen_of feeds.mid) (seen_of mid) (seen_of first) feeds.follows.longer takes.longer in
            let rests = between feeds.waiting.between in
            let at = world_is start first ws joined place held now old seen0 feeds.mid feeds.middle tells plan feeds.waiting.own list to_first rests feeds.waiting.written IsBetween feeds.waiting.between in
            absurd (let both : true ≡ false = sym at.0 ∙ worker_open start first ws joined place held now old seen0 feeds.mid feeds.middle tells plan feeds.waiting.own list to_first rests feeds.waiting.written is in cc)

    -- a worker had stopped the plan in an open round
    runs_stopped : FeedsStopped plan start.model old place held mid end now → RunsTo joined.whole.log joined.whole.stop.by joined.duties start place held (Err (refusal_of false (met_by (refusals ws)))) end now
    runs_stopped feeds =
        let tells = feeds.tells in
        let list = list_stop tells.inputs mid first tells.mine stops in
        let rests = stopped feeds.stopped in
        let others = (met_by (refusals ws)).other in
        let workers = (met_by (refusals ws)).full in
        team_run (Err (refusal_of false (met_by (refusals ws)))) start first ws joined place held now old mid end end tells list (λ e. absurd (never_finished (refusal_of false (met_by (refusals ws))) e)) (λ e. no_other others workers e)
        (ends_refusal others workers start.model joined.whole.log (more_entries start first ws joined place held now old seen0 mid end tells plan feeds.own list takes.longer) place end held now
        (all_lines (told_read start first ws joined place held now old seen0 mid end tells plan feeds.own list takes.longer)
        (world_is start first ws joined place held now old seen0 mid end tells plan feeds.own list takes.longer rests feeds.written (λ w. w.done ≡ false) feeds.going)
        (text_is start first ws joined place held now old seen0 mid end tells plan feeds.own list takes.longer rests feeds.written))
        (λ e is. worker_full start first ws joined place held now old seen0 mid end tells plan feeds.own list takes.longer rests feeds.written is))

    runs_cut : FeedsCut plan start.model old place held mid end now → RunsTo joined.whole.log joined.whole.stop.by joined.duties start place held (Err (refusal_of false (met_by (refusals ws)))) end now
    runs_cut (refused feeds) = runs_refused false cut.Stopped feeds feeds.step.hands.0 (λ e. absurd (cc))
    runs_cut (fed.stopped feeds) = runs_stopped feeds

    runs_err : (c : Cut) → FeedsAll plan start.model old place held (Err c) mid end now → RunsTo joined.whole.log joined.whole.stop.by joined.duties start place held (ended_of (Err c) (met_by (refusals ws))) end now
    runs_err cut.Read feeds = runs_until halt.Read cut.Read (λ e. cc) (λ es until. until) (read_whys place) feeds
    runs_err cut.Limit feeds = runs_until halt.Limit cut.Limit (λ e. cc) (λ es until. until) (limit_whys place) feeds
    runs_err cut.Write feeds = runs_torn feeds
    runs_err cut.Memory feeds = runs_short feeds
    runs_err cut.Full feeds = runs_refused true cut.Full feeds feeds.step.hands.0 (λ e. feeds.step.hands.2)
    runs_err cut.Stopped feeds = runs_cut feeds

  pub runs : (r : Result (Unit {0}) Cut) → FeedsToEnd plan start.model old place held r first end now → RunsTo joined.whole.log joined.whole.stop.by joined.duties start place held (ended_of r (met_by (refusals ws))) end now
  runs (Ok u) feeds = runs_out feeds
  runs (Err c) feeds = runs_err feeds.mid feeds.takes feeds.stops c feeds.feeds
