-- A log that goes on by one entry.
use Rattle.std.proofs.Common.{◌≡◌, ℕ, ◌+◌, ◌<◌, ◌≤◌, List, [], ◌∷◌, ◌++◌, length, take, Bool, true, false, Option, Some, None, unwrap_or, refl, sym, ◌∙◌, ap, subst, arith, length-append}
use Rattle.std.proofs.lemmas.List.{take-append-le}
use Rattle.std.proofs.lemmas.List.Elements.{All-nil}
use Rattle.pl_model.specs.declared.whole.Model.{Model}
use Rattle.pl_model.specs.Checked.{IsChecked}
use Rattle.pl_facts.specs.declared.options.Options.{Options}
use Rattle.pl_entry.specs.declared.event.Event.{Event}
use Rattle.pl_entry.specs.declared.reply.Reply.{Reply}
use Rattle.pl_entry.specs.declared.entry.Entry.{Entry}
use Rattle.pl_entry.specs.Bounds.{AreOptions, IsEventInRange, IsReplyTo}
use Rattle.pl_entry.specs.Due.{due_of}
use Rattle.pl_semantics.specs.declared.plan_state.PlanState.{PlanState}
use Rattle.pl_machine.specs.World.{World, fresh_world, due_in}
use Rattle.pl_machine.specs.Step.{after, reply_of}
use Rattle.pl_machine.specs.Legal.{MayFollow, legal_from, world_from, opening, options_in, IsOpenedRun, Legal, no_options, options_of, world_of, IsHistory}
use Rattle.pl_machine.specs.Keeping.{AreSendable, KeepsStanding}
use Rattle.pl_machine.specs.declared.ahead.Ahead.{Ahead}
use Rattle.pl_machine.specs.declared.id_range.IdRange.{IdRange}
use Rattle.pl_machine.specs.Calm.{IsAhead}
use Rattle.pl_machine.specs.Sound.{State, IsSound}
use Rattle.pl_entry.specs.declared.reply.Reply.TheVariants as reply
use Rattle.pl_machine.specs.declared.round.Round.{Round}
use Rattle.pl_machine.specs.declared.change.Change.{Change}
use Rattle.pl_machine.specs.Changes.{changed}
use Rattle.pl_machine.specs.Taking.{IsOpen, Takes, Spoils, with_round, with_state}

pub world_append : (w : World) (xs ys : List Entry) → world_from w (xs ++ ys) ≡ world_from (world_from w xs) ys
world_append w [] ys = refl
world_append w (x ∷ xs) ys = world_append (after w x.event) xs ys

pub legal_from_push : (w : World) (es : List Entry) (e : Entry) → legal_from w es → MayFollow (world_from w es) e → legal_from w (es ++ e ∷ [])
legal_from_push w [] e legal follows = (follows, tt)
legal_from_push w (x ∷ es) e legal follows = (legal.0, legal_from_push (after w x.event) es e legal.1 follows)

pub world_from_push : (w : World) (es : List Entry) (e : Entry) → world_from w (es ++ e ∷ []) ≡ after (world_from w es) e.event
world_from_push w [] e = refl
world_from_push w (x ∷ es) e = world_from_push (after w x.event) es e

opened_push : (m : Model) (o : Option Options) (answer : Reply) (es : List Entry) (e : Entry) → IsOpenedRun m o answer es
    → MayFollow (world_from (fresh_world m (unwrap_or o no_options)) es) e → length es + 1 < (unwrap_or o no_options).entries → IsOpenedRun m o answer (es ++ e ∷ [])
opened_push m None answer es e run follows room = run
opened_push m (Some o) answer es e run follows room = record {
  answers = run.answers;
  options = run.options;
  steps = legal_from_push (fresh_world m o) es e run.steps follows;
  bounded = omega (arith, length-append es (e ∷ []));
}

pub legal_push : (m : Model) (log : List Entry) (e : Entry) → Legal m log → MayFollow (world_of m log) e → length log < (options_of log).entries → Legal m (log ++ e ∷ [])
unfolding world_of
legal_push m [] e legal follows room = absurd legal
legal_push m (first ∷ es) e legal follows room = opened_push m (options_in first.event) first.reply es e legal follows (omega (arith, room))

pub world_of_push : (m : Model) (log : List Entry) (e : Entry) → Legal m log → world_of m (log ++ e ∷ []) ≡ after (world_of m log) e.event
unfolding world_of
world_of_push m [] e legal = absurd legal
world_of_push m (first ∷ es) e legal = world_from_push (fresh_world m (unwrap_or (options_in first.event) no_options)) es e

pub options_of_push : (m : Model) (log : List Entry) (e : Entry) → Legal m log → options_of (log ++ e ∷ []) ≡ options_of log
options_of_push m [] e legal = absurd legal
options_of_push m (first ∷ es) e legal = refl

-- what a step leaves of a standing machine
pub record StandsOn (w w2 : World) (due2 : List ℕ) (sent2 : ℕ) (ahead2 : Ahead) (ranges2 : List IdRange) : Type 0 where
  pub options : w2.options ≡ w.options
  pub model : w2.state.model ≡ w.state.model
  pub due : due2 ≡ due_in w2.state
  pub looked : IsAhead w2.state ahead2 ranges2
  pub sent : sent2 ≤ length due2
  pub turn : w2.turn ≤ w2.options.turns
  pub sendable : AreSendable w2.state
  pub next_id : w2.state.next_id ≤ w.state.next_id + 16

other_parts : (w v : World) → w ≡ v → w ≡ record v { state = w.state }
other_parts w v e = subst (λ (u : World). w ≡ record u { state = w.state }) e refl

pub sound_push : {spoiled : Bool} {m : Model} {log : List Entry} {w : World} {due : List ℕ} {sent : ℕ} {ahead : Ahead} {ranges : List IdRange} (spoiled2 : Bool) (w2 : World) (due2 : List ℕ) (sent2 : ℕ) (ahead2 : Ahead) (ranges2 : List IdRange) (e : Entry)
    → IsSound spoiled m log w due sent ahead ranges → spoiled ≡ false → MayFollow w e → length log < w.options.entries
    → w2 ≡ after w e.event → StandsOn w w2 due2 sent2 ahead2 ranges2 → IsSound spoiled2 m (log ++ e ∷ []) w2 due2 sent2 ahead2 ranges2
sound_push {spoiled} {m} {log} {w} spoiled2 w2 due2 sent2 ahead2 ranges2 e sound unspoiled follows room leaves on =
    let standing = sound.stands unspoiled in
    let follows2 : MayFollow (world_of m log) e = subst (λ (v : World). MayFollow v e) standing.world follows in
    let legal : Legal m (log ++ e ∷ []) = legal_push m log e sound.legal follows2 (rw sound.options room) in
    let world : w2 ≡ world_of m (log ++ e ∷ []) = leaves ∙ ap (λ (v : World). after v e.event) standing.world ∙ sym (world_of_push m log e sound.legal) in
    record {
      checked = sound.checked;
      legal = legal;
      options = options_of_push m log e sound.legal ∙ sound.options ∙ sym on.options;
      limits = rw on.options sound.limits;
      others = other_parts w2 (world_of m (log ++ e ∷ [])) world;
      within = on.sent;
      turn = on.turn;
      bounded = rw on.options (omega (arith, length-append log (e ∷ [])));
      stands = λ _. record {
        model = on.model ∙ standing.model;
        world = world;
        listed = on.due;
        looked = on.looked;
        sendable = on.sendable;
        next_id = omega (arith, length-append log (e ∷ []), on.next_id, standing.next_id);
      };
    }

pub sound_fresh : (m : Model) (o : Options) → IsChecked m → AreOptions o → IsSound false m (opening o ∷ []) (fresh_world m o) [] 0 (record { next_start = 0; seen = 0 }) []
unfolding world_of due_of
sound_fresh m o checked fit = record {
  checked = checked;
  legal = record { answers = refl; options = fit; steps = tt; bounded = fit.entries.0 };
  options = refl;
  limits = fit;
  others = refl;
  within = omega arith;
  turn = omega arith;
  bounded = fit.entries.0;
  stands = λ _. record {
    model = refl;
    world = refl;
    listed = refl;
    looked = record { calm = All-nil _; known = All-nil _; order = omega arith; seen = omega arith };
    sendable = λ id a here _. absurd (cc);
    next_id = omega arith;
  };
}

-- where memory was wanting
pub sound_spoiled : {spoiled : Bool} {m : Model} {log : List Entry} {w : World} {due : List ℕ} {sent : ℕ} {ahead ahead2 : Ahead} {ranges ranges2 : List IdRange} (spoiled2 : Bool) (s2 : PlanState)
    → IsSound spoiled m log w due sent ahead ranges → spoiled2 ≡ true → IsSound spoiled2 m log (record w { state = s2 }) due sent ahead2 ranges2
sound_spoiled {spoiled} {m} {log} {w} spoiled2 s2 sound is = record {
  checked = sound.checked;
  legal = sound.legal;
  options = sound.options;
  limits = sound.limits;
  others = ap (λ (v : World). record v { state = s2 }) sound.others;
  within = sound.within;
  turn = sound.turn;
  bounded = sound.bounded;
  stands = λ unspoiled. absurd (cc);
}

-- The same, in the words of a machine that is seen as s.
pub sound_step : (s : State) {spoiled : Bool} {m : Model} {log : List Entry} {w : World} {due : List ℕ} {sent : ℕ} {ahead : Ahead} {ranges : List IdRange} (spoiled2 : Bool) (w2 : World) (due2 : List ℕ) (sent2 : ℕ) (ahead2 : Ahead) (ranges2 : List IdRange) (happened : Event) (answer : Reply)
    → record { spoiled = spoiled; model = m; log = log; world = w } ≡ s → IsSound spoiled m log w due sent ahead ranges → IsOpen s happened
    → IsEventInRange s.model happened → IsReplyTo s.model happened answer → answer ≡ reply_of s.world happened → w2 ≡ after s.world happened → StandsOn w w2 due2 sent2 ahead2 ranges2
    → IsSound spoiled2 m (log ++ record { event = happened; reply = answer } ∷ []) w2 due2 sent2 ahead2 ranges2
sound_step s {spoiled} {m} {log} {w} {due} {sent} spoiled2 w2 due2 sent2 ahead2 ranges2 happened answer is sound may in_range replies answers leaves on =
    let unspoiled : spoiled ≡ false = ap (λ (t : State). t.spoiled) is ∙ may.unspoiled in
    let same : w ≡ s.world = ap (λ (t : State). t.world) is in
    let model : w.state.model ≡ s.model = (sound.stands unspoiled).model ∙ ap (λ (t : State). t.model) is in
    let room : length log < w.options.entries = subst (λ (t : State). length t.log < t.world.options.entries) (sym is) may.room in
    let follows : MayFollow w (record { event = happened; reply = answer }) = record {
      event = subst (λ (n : Model). IsEventInRange n happened) (sym model) in_range;
      reply = subst (λ (n : Model). IsReplyTo n happened answer) (sym model) replies;
      enabled = rw same may.enabled;
      answers = rw same answers;
    } in
    sound_push spoiled2 w2 due2 sent2 ahead2 ranges2 (record { event = happened; reply = answer }) sound unspoiled follows room (leaves ∙ ap (λ (v : World). after v happened) (sym same)) on

-- an event that leaves the plan state and what was sent
pub sound_same : (s : State) {spoiled : Bool} {m : Model} {log : List Entry} {w : World} {due : List ℕ} {sent : ℕ} {ahead : Ahead} {ranges : List IdRange} (spoiled2 : Bool) (w2 : World) (happened : Event) (answer : Reply)
    → record { spoiled = spoiled; model = m; log = log; world = w } ≡ s → IsSound spoiled m log w due sent ahead ranges → IsOpen s happened
    → IsEventInRange s.model happened → IsReplyTo s.model happened answer → answer ≡ reply_of s.world happened → w2 ≡ after s.world happened
    → w2.state ≡ w.state → w2.options ≡ w.options → w2.turn ≤ w2.options.turns
    → IsSound spoiled2 m (log ++ record { event = happened; reply = answer } ∷ []) w2 due sent ahead ranges
sound_same s {spoiled} {m} {log} {w} {due} {sent} {ahead} {ranges} spoiled2 w2 happened answer is sound may in_range replies answers leaves state options turn =
    let unspoiled : spoiled ≡ false = ap (λ (t : State). t.spoiled) is ∙ may.unspoiled in
    let standing = sound.stands unspoiled in
    sound_step s spoiled2 w2 due sent ahead ranges happened answer is sound may in_range replies answers leaves (record {
      options = options;
      model = ap (λ (t : PlanState). t.model) state;
      due = standing.listed ∙ ap due_in (sym state);
      looked = rw state standing.looked;
      sent = sound.within;
      turn = turn;
      sendable = rw state standing.sendable;
      next_id = rw state (omega arith);
    })

front_stays : (n : ℕ) (xs rest : List ℕ) → n ≤ length xs → take n (xs ++ rest) ≡ take n xs
front_stays n xs rest le = take-append-le n xs rest le

pub sent_stays : (w : World) {s2 : PlanState} (due due2 : List ℕ) (sent : ℕ) → due ≡ due_in w.state → sent ≤ length due → KeepsStanding w.state s2 → due2 ≡ due_in s2 → take sent due2 ≡ take sent due
sent_stays w {s2} due due2 sent is le keeps is2 =
    ap (take sent) (is2 ∙ keeps.due.1 ∙ ap (λ xs. xs ++ keeps.due.0) (sym is)) ∙ front_stays sent due keeps.due.0 le

-- an event that changes the plan state
pub sound_changed : (s : State) {spoiled : Bool} {m : Model} {log : List Entry} {w : World} {due : List ℕ} {sent : ℕ} {ahead : Ahead} {ranges : List IdRange} (spoiled2 : Bool) (round : Round) (s2 : PlanState) (due2 : List ℕ) (ahead2 : Ahead) (ranges2 : List IdRange) (happened : Event)
    → record { spoiled = spoiled; model = m; log = log; world = w } ≡ s → IsSound spoiled m log w due sent ahead ranges → w.dispatched ≡ take sent due → IsOpen s happened
    → IsEventInRange s.model happened → IsReplyTo s.model happened reply.Done → reply.Done ≡ reply_of s.world happened
    → KeepsStanding s.world.state s2 → due2 ≡ due_in s2 → IsAhead s2 ahead2 ranges2 → with_round round (with_state s2 s.world) ≡ after s.world happened → round.turn ≤ s.world.options.turns
    → IsSound spoiled2 m (log ++ record { event = happened; reply = reply.Done } ∷ []) (record { state = s2; options = w.options; dispatched = take sent due2; turn = round.turn; rested = round.rested; held = round.held; closed = round.closed; done = w.done; halted = round.halted }) due2 sent ahead2 ranges2
sound_changed s {spoiled} {m} {log} {w} {due} {sent} spoiled2 round s2 due2 ahead2 ranges2 happened is sound dispatched may in_range replies answers keeps due_is looked leaves turn =
    let unspoiled : spoiled ≡ false = ap (λ (t : State). t.spoiled) is ∙ may.unspoiled in
    let same : w ≡ s.world = ap (λ (t : State). t.world) is in
    let standing = sound.stands unspoiled in
    let keeps2 : KeepsStanding w.state s2 = subst (λ (v : World). KeepsStanding v.state s2) (sym same) keeps in
    let front : take sent due2 ≡ w.dispatched = sent_stays w due due2 sent standing.listed sound.within keeps2 due_is ∙ sym dispatched in
    let w2 : World = record { state = s2; options = w.options; dispatched = take sent due2; turn = round.turn; rested = round.rested; held = round.held; closed = round.closed; done = w.done; halted = round.halted } in
    let parts : w2 ≡ with_round round (with_state s2 w) = ap (λ (d : List ℕ). record { state = s2; options = w.options; dispatched = d; turn = round.turn; rested = round.rested; held = round.held; closed = round.closed; done = w.done; halted = round.halted }) front in
    let longer : length due2 ≡ length due + length keeps2.due.0 = ap length (due_is ∙ keeps2.due.1 ∙ ap (λ (xs : List ℕ). xs ++ keeps2.due.0) (sym standing.listed)) ∙ length-append due keeps2.due.0 in
    sound_step s spoiled2 w2 due2 sent ahead2 ranges2 happened reply.Done is sound may in_range replies answers (parts ∙ ap (λ (v : World). with_round round (with_state s2 v)) same ∙ leaves) (record {
      options = refl;
      model = keeps2.model;
      due = due_is;
      looked = looked;
      sent = omega (arith, longer, sound.within);
      turn = subst (λ (v : World). round.turn ≤ v.options.turns) (sym same) turn;
      sendable = keeps2.sendable standing.sendable;
      next_id = keeps2.next_id;
    })

-- an unspoiled machine stands for the world after its log
pub sound_history : {spoiled : Bool} {m : Model} {log : List Entry} {w : World} {due : List ℕ} {sent : ℕ} {ahead : Ahead} {ranges : List IdRange} → IsSound spoiled m log w due sent ahead ranges → spoiled ≡ false → IsHistory m log w
sound_history sound unspoiled = record { legal = sound.legal; world = (sound.stands unspoiled).world; options = sound.options }

-- ---- the events of a machine

-- want of memory spoils a machine
pub spoils : (s : State) {spoiled : Bool} {m : Model} {log : List Entry} {w : World} (spoiled2 : Bool) (s2 : PlanState) → record { spoiled = spoiled; model = m; log = log; world = w } ≡ s → spoiled2 ≡ true
    → Spoils s (record { spoiled = spoiled2; model = m; log = log; world = record w { state = s2 } })
spoils s {spoiled} {m} {log} {w} spoiled2 s2 is e = subst (λ (t : State). Spoils t (record { spoiled = spoiled2; model = m; log = log; world = record w { state = s2 } })) is (record { spoiled = e; model = refl; log = refl; world = refl })

-- an event that leaves the plan state
pub sound_appended : (s : State) {spoiled : Bool} {m : Model} {log : List Entry} {w : World} {due : List ℕ} {sent : ℕ} {ahead : Ahead} {ranges : List IdRange} (spoiled2 : Bool) (round : Round) (happened : Event) (answer : Reply)
    → record { spoiled = spoiled; model = m; log = log; world = w } ≡ s → IsSound spoiled m log w due sent ahead ranges → IsOpen s happened
    → IsEventInRange s.model happened → IsReplyTo s.model happened answer → answer ≡ reply_of s.world happened → with_round round s.world ≡ after s.world happened → round.turn ≤ s.world.options.turns
    → IsSound spoiled2 m (log ++ record { event = happened; reply = answer } ∷ []) (with_round round w) due sent ahead ranges
sound_appended s {spoiled} {m} {log} {w} {due} {sent} spoiled2 round happened answer is sound may in_range replies answers leaves turn =
    sound_same s spoiled2 (with_round round w) happened answer is sound may in_range replies answers (ap (λ (t : State). with_round round t.world) is ∙ leaves) refl refl (subst (λ (t : State). round.turn ≤ t.world.options.turns) (sym is) turn)

pub took_appended : (s : State) {spoiled : Bool} {m : Model} {log : List Entry} {w : World} (spoiled2 : Bool) (round : Round) (happened : Event) (answer : Reply)
    → record { spoiled = spoiled; model = m; log = log; world = w } ≡ s → IsOpen s happened → answer ≡ reply_of s.world happened → with_round round s.world ≡ after s.world happened → spoiled2 ≡ false
    → IsOpen s happened × Takes s happened answer (record { spoiled = spoiled2; model = m; log = log ++ record { event = happened; reply = answer } ∷ []; world = with_round round w })
took_appended s {spoiled} {m} {log} {w} spoiled2 round happened answer is may answers leaves unspoiled = (
  may,
  record {
    step = record { enabled = may.enabled; answers = answers; leaves = ap (λ (t : State). with_round round t.world) is ∙ leaves };
    log = ap (λ (t : State). t.log ++ record { event = happened; reply = answer } ∷ []) is;
    spoiled = unspoiled;
    model = ap (λ (t : State). t.model) is;
    options = ap (λ (t : State). t.world.options) is;
  },
)

-- an event that changes the plan state
pub sound_carried : (s : State) {spoiled : Bool} {m : Model} {log : List Entry} {w : World} {due : List ℕ} {sent : ℕ} {ahead : Ahead} {ranges : List IdRange} (spoiled2 : Bool) (round : Round) (s2 : PlanState) (due2 : List ℕ) (ahead2 : Ahead) (ranges2 : List IdRange) (change : Change) (happened : Event)
    → record { spoiled = spoiled; model = m; log = log; world = w } ≡ s → IsSound spoiled m log w due sent ahead ranges → w.dispatched ≡ take sent due → IsOpen s happened
    → IsEventInRange s.model happened → IsReplyTo s.model happened reply.Done → reply.Done ≡ reply_of s.world happened
    → KeepsStanding w.state s2 → due2 ≡ due_in s2 → IsAhead s2 ahead2 ranges2 → s2 ≡ changed change w.state → with_round round (with_state (changed change s.world.state) s.world) ≡ after s.world happened → round.turn ≤ s.world.options.turns
    → IsSound spoiled2 m (log ++ record { event = happened; reply = reply.Done } ∷ []) (record { state = s2; options = w.options; dispatched = take sent due2; turn = round.turn; rested = round.rested; held = round.held; closed = round.closed; done = w.done; halted = round.halted }) due2 sent ahead2 ranges2
sound_carried s {spoiled} {m} {log} {w} {due} {sent} spoiled2 round s2 due2 ahead2 ranges2 change happened is sound dispatched may in_range replies answers keeps due_is looked made leaves turn =
    let same : w ≡ s.world = ap (λ (t : State). t.world) is in
    let made2 : s2 ≡ changed change s.world.state = made ∙ ap (λ (v : World). changed change v.state) same in
    sound_changed s spoiled2 round s2 due2 ahead2 ranges2 happened is sound dispatched may in_range replies answers (subst (λ (v : World). KeepsStanding v.state s2) same keeps) due_is looked (ap (λ (x : PlanState). with_round round (with_state x s.world)) made2 ∙ leaves) turn

pub took_carried : (s : State) {spoiled : Bool} {m : Model} {log : List Entry} {w : World} {due : List ℕ} {sent : ℕ} {ahead : Ahead} {ranges : List IdRange} (spoiled2 : Bool) (round : Round) (s2 : PlanState) (due2 : List ℕ) (change : Change) (happened : Event)
    → record { spoiled = spoiled; model = m; log = log; world = w } ≡ s → IsSound spoiled m log w due sent ahead ranges → w.dispatched ≡ take sent due → IsOpen s happened
    → reply.Done ≡ reply_of s.world happened
    → KeepsStanding w.state s2 → due2 ≡ due_in s2 → s2 ≡ changed change w.state → with_round round (with_state (changed change s.world.state) s.world) ≡ after s.world happened → spoiled2 ≡ false
    → IsOpen s happened × Takes s happened reply.Done (record { spoiled = spoiled2; model = m; log = log ++ record { event = happened; reply = reply.Done } ∷ []; world = record { state = s2; options = w.options; dispatched = take sent due2; turn = round.turn; rested = round.rested; held = round.held; closed = round.closed; done = w.done; halted = round.halted } })
took_carried s {spoiled} {m} {log} {w} {due} {sent} spoiled2 round s2 due2 change happened is sound dispatched may answers keeps due_is made leaves unspoiled =
    let same : w ≡ s.world = ap (λ (t : State). t.world) is in
    let standing = sound.stands (ap (λ (t : State). t.spoiled) is ∙ may.unspoiled) in
    let made2 : s2 ≡ changed change s.world.state = made ∙ ap (λ (v : World). changed change v.state) same in
    let front : take sent due2 ≡ w.dispatched = sent_stays w due due2 sent standing.listed sound.within keeps due_is ∙ sym dispatched in
    let parts : record { state = s2; options = w.options; dispatched = take sent due2; turn = round.turn; rested = round.rested; held = round.held; closed = round.closed; done = w.done; halted = round.halted } ≡ with_round round (with_state s2 w) =
    ap (λ (d : List ℕ). record { state = s2; options = w.options; dispatched = d; turn = round.turn; rested = round.rested; held = round.held; closed = round.closed; done = w.done; halted = round.halted }) front in (
      may,
      record {
        step = record { enabled = may.enabled; answers = answers; leaves = parts ∙ ap (λ (v : World). with_round round (with_state s2 v)) same ∙ ap (λ (x : PlanState). with_round round (with_state x s.world)) made2 ∙ leaves };
        log = ap (λ (t : State). t.log ++ record { event = happened; reply = reply.Done } ∷ []) is;
        spoiled = unspoiled;
        model = ap (λ (t : State). t.model) is;
        options = ap (λ (t : State). t.world.options) is;
      },
    )
