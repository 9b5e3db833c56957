-- One whole history, joined from those of the feeder and of the workers.
use Rattle.std.proofs.lemmas.Option.{same_Some}
use Rattle.std.proofs.lemmas.Bool.{or_cases}
use Rattle.std.proofs.Common.{◌≡◌, ℕ, ◌+◌, ◌≤◌, ◌<◌, List, [], ◌∷◌, ◌++◌, length, map, true, false, Option, Some, None, slice_get, refl, sym, ◌∙◌, ap, subst, arith, inl, inr, ◌⊎◌, length-append}
use Rattle.std.specs.List.{All, list_any}
use Rattle.std.proofs.lemmas.List.Elements.{All-nil, All-cons, All-head, All-tail}
use Rattle.pl_entry.specs.declared.event.Event.{Event}
use Rattle.std.proofs.lemmas.List.{append-nil, take_all}
use mathlib.Core.List.{IsPrefix}
use Rattle.pl_turn.specs.History.{IsEachOnce, StandsIn, times_in}
use Rattle.pl_turn.specs.Passes.{seen_of, mine_of, opening_of}
use Rattle.pl_turn.proofs.Histories.{prefix_trans}
use Rattle.pl_marks.specs.declared.author.Author.{Author}
use Rattle.pl_marks.specs.declared.author.Author.TheVariants.{Feeder}
use Rattle.pl_model.specs.declared.whole.Model.{Model}
use Rattle.pl_entry.specs.declared.entry.Entry.{Entry}
use Rattle.pl_machine.specs.declared.stop.Stop.{Stop}
use Rattle.pl_machine.specs.declared.stop.Stop.TheVariants as stop
use Rattle.pl_machine.specs.World.{World}
use Rattle.pl_machine.specs.Legal.{Legal, options_of, world_of}
use Rattle.pl_machine.specs.Finished.{inputs_of}
use Rattle.pl_machine.specs.Sound.{State}
use Rattle.pl_journal.specs.Rendering.Lines.{text_from}
use Rattle.pl_journal.specs.Written.{Adds}
use Rattle.pl_acts.specs.declared.noted.Noted.{Noted}
use Rattle.pl_acts.specs.declared.noted.Noted.TheVariants.{Made, Stopped}
use Rattle.pl_locked.specs.declared.plan.SharedPlan.{SharedPlan}
use Rattle.pl_acts.specs.Items.{Signs, SignedEntry, made_of, entries_of, handed_in, stop_items, items_of, entries_in, model_in, signer_in, InWorld}
use Rattle.pl_acts.specs.declared.role.Role.{Role}
use Rattle.pl_acts.specs.declared.role.Role.TheVariants.{Planner, Executive}
use Rattle.pl_acts.specs.Roles.{has_event, is_input, kind_of}
use Rattle.pl_acts.specs.Seen.{IsPlan, IsFull}
use Rattle.pl_locked.specs.Plans.{PlanPass, BelongsTo}
use Rattle.pl_locked.specs.Turns.{Stops, was_stopped, is_stopped}
use Rattle.pl_acts.proofs.Items.{entries_in_items, model_in_items, length_going, made_entries}
use Rattle.pl_acts.proofs.FullLogs.{log_is_bounded, world_options, full_ends, same_world, full_on}
use Rattle.pl_pair.specs.declared.duty.Duty.{Duty}
use Rattle.pl_pair.specs.declared.worker.Worker.{Worker}
use Rattle.pl_pair.specs.Duties.{role_of, begun_of, author_of}
use Rattle.pl_pair.specs.Served.{IsSomeones, AreHandedIn, IsFullRound, Refused, IsServed}
use Rattle.pl_pair.specs.Feeds.{AreInputs, HandsOne, WritesAll}
use Rattle.pl_pair.specs.Endings.{is_full, met_by}
use Rattle.pl_pair.specs.Joins.{refusals, duties_in, own_lists_of, HasSeenIn}
use Rattle.pl_pair.specs.Runs.{ClosesAll, Service, service_of, ServedIn, owns_of, mets_of, History, WritesLog}
use Rattle.pl_machine.proofs.Going.{world_goes}
use Rattle.pl_pair.proofs.Ending.{EndsIf, steps_behind, world_behind, run_ends}
use Rattle.pl_pair.proofs.Working.{own_on, own_kinds}
use Rattle.pl_pair.proofs.Feeding.{own_stands}
use Rattle.pl_pair.proofs.Owning.{handed_are, opening_is}
use Rattle.pl_pair.specs.Chosen.{AreChosen}
use Rattle.pl_pair.proofs.Choosing.{are_chosen}
use Rattle.pl_pair.proofs.Closing.{same_model}
use Rattle.pl_pair.proofs.Onward.{MoreOf, more_of, Rests, between, over, stopped, world_in, entries_whole, over_none, between_input, stop_none}
use Rattle.pl_pair.proofs.OwnItems.{NoInputs, made_no_inputs, repair_no_input, executed_no_input, at_front}
use Rattle.pl_pair.proofs.Inputs.{FeederList, feeder_until, feeder_signed, inputs_are, no_further, one_input}
use Rattle.pl_machine.proofs.ShortLogs.{log_is_some}

-- ---- the whole history, of the model that was handed in

pub record Whole (m : Model) (before : List Entry) (first : PlanPass) (workers : List Worker) : Type 0 where
  pub log : List Entry
  pub stop : Signs
  pub some : 0 < stop.by.opening
  pub each : stop.by.opening + length stop.by.authors ≡ length log
  pub legal : Legal m log
  pub first_seen : IsPrefix (seen_of first) (items_of m log stop)
  pub workers_seen : All (HasSeenIn (items_of m log stop)) workers
  pub stands : All (StandsIn (items_of m log stop)) (mine_of first ∷ own_lists_of workers)
  pub owners : IsEachOnce (length before) (length (items_of m log stop)) (λ place. times_in place (mine_of first ∷ own_lists_of workers))

unfoldable pub whole_of : (m : Model) (before : List Entry) (first : PlanPass) (workers : List Worker) (machine : State) → model_in (seen_of first) ≡ Some m → opening_of first ≡ length before → ClosesAll first workers machine
    → Whole m before first workers
whole_of m before first workers machine model opening closes =
    let same : machine.model ≡ m = same_Some machine.model m (sym closes.model ∙ model) in
    let lists = mine_of first ∷ own_lists_of workers in
    let W : Model → Type 0 = λ k. Legal k machine.log × IsPrefix (seen_of first) (items_of k machine.log closes.signs) × All (HasSeenIn (items_of k machine.log closes.signs)) workers
    × All (StandsIn (items_of k machine.log closes.signs)) lists × IsEachOnce (opening_of first) (length (items_of k machine.log closes.signs)) (λ place. times_in place lists) in
    let w : W m = subst W same (closes.legal, closes.first_seen, closes.workers_seen, closes.stands, closes.owners) in
    record {
      log = machine.log;
      stop = closes.signs;
      some = closes.some;
      each = closes.each;
      legal = w.0;
      first_seen = w.1;
      workers_seen = w.2;
      stands = w.3;
      owners = subst (λ (n : ℕ). IsEachOnce n (length (items_of m machine.log closes.signs)) (λ place. times_in place lists)) opening w.4;
    }

-- ---- workers

-- what a refusal says of the history that goes on
pub refused_on : (met : Option Stop) (r : Role) (seen whole : List Noted) → IsPlan seen → IsPlan whole → IsPrefix seen whole → model_in whole ≡ model_in seen → Refused met r seen → Refused met r whole
refused_on None r seen whole plan plan2 on same why = tt
refused_on (Some stop.NotNow) r seen whole plan plan2 on same why = absurd why
refused_on (Some stop.LogFull) r seen whole plan plan2 on same why = (
  full_on seen whole plan on same why.0,
  same_world (λ w. (w.closed ≡ false) × (w.done ≡ false) × (has_event r w ≡ true)) seen whole same (full_ends seen whole plan plan2 on same why.0) why.1,
)
refused_on (Some stop.Spoiled) r seen whole plan plan2 on same why = tt
refused_on (Some stop.Memory) r seen whole plan plan2 on same why = tt

pub refused_full : (met : Option Stop) (r : Role) (seen : List Noted) → is_full met ≡ true → Refused met r seen → IsFullRound r seen
refused_full None r seen is why = absurd (cc)
refused_full (Some stop.NotNow) r seen is why = absurd why
refused_full (Some stop.LogFull) r seen is why = why
refused_full (Some stop.Spoiled) r seen is why = absurd (cc)
refused_full (Some stop.Memory) r seen is why = absurd (cc)

-- ---- the feeder's list

pub list_same : (inputs : List (Option (List ℕ))) (mid first : PlanPass) → AreInputs inputs (mine_of mid) → mine_of first ≡ mine_of mid → FeederList inputs (mine_of mid) (mine_of first)
list_same inputs mid first are same = record { rest = []; whole = same ∙ sym (append-nil (mine_of mid)); are = are; behind = inl refl; signed = All-nil (λ x. signer_in x.1 ≡ Some Feeder) }

pub list_stop : (inputs : List (Option (List ℕ))) (mid first : PlanPass) → AreInputs inputs (mine_of mid) → Stops Feeder mid first → FeederList inputs (mine_of mid) (mine_of first)
list_stop inputs mid first are (was_stopped same stops) = list_same inputs mid first are same
list_stop inputs mid first are (is_stopped seen on going is mine) = record {
  rest = (length seen, Stopped Feeder) ∷ [];
  whole = mine;
  are = are;
  behind = inr (length seen, Feeder, refl);
  signed = All-cons (λ x. signer_in x.1 ≡ Some Feeder) (length seen, Stopped Feeder) [] refl (All-nil (λ x. signer_in x.1 ≡ Some Feeder));
}

-- ---- one whole history

pub more_first : (more : List Noted) (of : MoreOf more) (e : Entry) (es : List Entry) → entries_in more ≡ e ∷ es → (author : Option Author) × (rest : List Noted) × (more ≡ Made author e ∷ rest)
more_first more of e es is = by of.signed (of.is) (sym (ap entries_in of.is ∙ made_entries of.signed of.stop) ∙ is)
  where
    by : (xs : List SignedEntry) → more ≡ map made_of xs ++ stop_items of.stop → entries_of xs ≡ e ∷ es → (author : Option Author) × (rest : List Noted) × (more ≡ Made author e ∷ rest)
    by [] at same = absurd (cc)
    by (x ∷ xs) at same = (x.0, map made_of xs ++ stop_items of.stop, at ∙ ap (λ (y : Entry). Made x.0 y ∷ (map made_of xs ++ stop_items of.stop)) (let h : x.1 ∷ entries_of xs ≡ e ∷ es = same in (cc)))

-- What was written of a history behind which nothing follows.
pub record Settled (m : Model) (held now : Option (List ℕ)) (front : List Noted) (own : List (ℕ × Noted)) : Type 0 where
  pub plan : IsPlan front
  pub model : model_in front ≡ Some m
  pub rests : Rests front
  pub stands : StandsIn front own
  pub written : WritesAll m held front now

-- ---- what the workers did

kind_no_input : (r : Role) (v : Event) → kind_of r v ≡ true → is_input v ≡ false
kind_no_input (Planner g) v is = repair_no_input v is
kind_no_input Executive v is = executed_no_input v is

abbrev pub services_of : List Worker → List Service
services_of workers = map service_of workers

pub owns_same : (workers : List Worker) → owns_of (services_of workers) ≡ own_lists_of workers
owns_same [] = refl
owns_same (w ∷ workers) = ap (λ (ls : List (List (ℕ × Noted))). mine_of w.pass ∷ ls) (owns_same workers)

pub mets_same : (workers : List Worker) → mets_of (services_of workers) ≡ refusals workers
mets_same [] = refl
mets_same (w ∷ workers) = ap (λ (os : List (Option Stop)). w.refusal ∷ os) (mets_same workers)

pub hired_same : (workers : List Worker) → map (λ (d : Service). d.duty) (services_of workers) ≡ duties_in workers
hired_same [] = refl
hired_same (w ∷ workers) = ap (λ (ds : List Duty). w.duty ∷ ds) (hired_same workers)

-- What is known once the threads are joined, and nothing is said yet of how the feeder ended.
pub record Joined (m : Model) (before : List Entry) (first : PlanPass) (ws : List Worker) : Type 0 where
  pub plan : SharedPlan
  pub whole : Whole m before first ws
  pub legal : Legal m before
  pub going : (world_of m before).done ≡ false
  pub opened : IsPrefix (items_of m before (handed_in before)) (seen_of first)
  pub own : BelongsTo plan first
  pub duties : List Duty
  pub hired : duties_in ws ≡ duties
  pub each : All (IsServed plan) ws

module _ (m : Model) (before : List Entry) (first : PlanPass) (ws : List Worker) (joined : Joined m before first ws) where
  abbrev pub items : List Noted
  items = items_of m joined.whole.log joined.whole.stop

  pub model_items : model_in (items_of m joined.whole.log joined.whole.stop) ≡ Some m
  model_items = model_in_items m joined.whole.log joined.whole.stop joined.whole.legal

  pub plan_items : IsPlan (items_of m joined.whole.log joined.whole.stop)
  plan_items = record { model = m; log = joined.whole.log; signs = joined.whole.stop; legal = joined.whole.legal; some = joined.whole.some; each = joined.whole.each; is = refl }

  pub model_seen : (seen : List Noted) → IsPlan seen → IsPrefix seen (items_of m joined.whole.log joined.whole.stop) → model_in seen ≡ Some m
  model_seen seen plan onto = same_model seen (items_of m joined.whole.log joined.whole.stop) m plan onto model_items

  -- what a worker did, in the whole history
  served_in : (w : Worker) → IsServed joined.plan w → HasSeenIn items w → ServedIn items (service_of w)
  served_in w served seen =
      let made = own_on w.refusal (seen_of w.pass) items (role_of w.duty) w.role (begun_of w.duty) (mine_of w.pass) seen served.made in
      record {
        saw = record { begins = seen; holds = own_stands joined.plan w.pass served.own };
        kinds = own_kinds w.refusal items (role_of w.duty) w.role (begun_of w.duty) (mine_of w.pass) made;
        made = made;
        signed = served.signed.1;
        is = served.worker;
        why = refused_on w.refusal w.role (seen_of w.pass) items served.own.seen plan_items seen (model_items ∙ sym (model_seen (seen_of w.pass) served.own.seen seen)) served.why;
      }

  all_served : (workers : List Worker) → All (IsServed joined.plan) workers → All (HasSeenIn items) workers → All (ServedIn items) (services_of workers)
  all_served [] served seen = All-nil (ServedIn items)
  all_served (w ∷ workers) served seen =
      All-cons (ServedIn items) (service_of w) (services_of workers) (served_in w (All-head (IsServed joined.plan) w workers served) (All-head (HasSeenIn items) w workers seen))
      (all_served workers (All-tail (IsServed joined.plan) w workers served) (All-tail (HasSeenIn items) w workers seen))

  workers_theirs : (workers : List Worker) → All (IsServed joined.plan) workers → All IsSomeones (own_lists_of workers)
  workers_theirs [] served = All-nil IsSomeones
  workers_theirs (w ∷ workers) served =
      All-cons IsSomeones (mine_of w.pass) (own_lists_of workers) (author_of w.duty, (All-head (IsServed joined.plan) w workers served).signed.1) (workers_theirs workers (All-tail (IsServed joined.plan) w workers served))

  pub each_served : All (ServedIn items) (services_of ws)
  each_served = all_served ws joined.each joined.whole.workers_seen

  none_in : (services : List Service) → All (ServedIn items) services → All NoInputs (owns_of services)
  none_in [] each = All-nil NoInputs
  none_in (s ∷ services) each =
      let here = All-head (ServedIn items) s services each in
      All-cons NoInputs s.own (owns_of services) (made_no_inputs s.met (kind_of (role_of s.duty)) (kind_no_input (role_of s.duty)) s.own here.kinds) (none_in services (All-tail (ServedIn items) s services each))

  -- no worker made an input
  pub none_others : All NoInputs (own_lists_of ws)
  none_others = subst (λ (ls : List (List (ℕ × Noted))). All NoInputs ls) (owns_same ws) (none_in (services_of ws) each_served)

  pub service_stands : All (StandsIn items) (mine_of first ∷ owns_of (services_of ws))
  service_stands = subst (λ (ls : List (List (ℕ × Noted))). All (StandsIn items) (mine_of first ∷ ls)) (sym (owns_same ws)) joined.whole.stands

  pub service_owners : IsEachOnce (length before) (length items) (λ place. times_in place (mine_of first ∷ owns_of (services_of ws)))
  service_owners = subst (λ (ls : List (List (ℕ × Noted))). IsEachOnce (length before) (length items) (λ place. times_in place (mine_of first ∷ ls))) (sym (owns_same ws)) joined.whole.owners

  full_in : (services : List Service) → All (ServedIn items) services → list_any is_full (mets_of services) ≡ true → (r : Role) × IsFullRound r items
  full_in [] each is = absurd (cc)
  full_in (s ∷ services) each is = by (or_cases (is_full s.met) (list_any is_full (mets_of services)) is) (λ e. full_in services (All-tail (ServedIn items) s services each) e)
    where
      by : (is_full s.met ≡ true) ⊎ (list_any is_full (mets_of services) ≡ true) → (list_any is_full (mets_of services) ≡ true → (r : Role) × IsFullRound r items) → (r : Role) × IsFullRound r items
      by (inl e) rest = (s.last, refused_full s.met s.last items e (All-head (ServedIn items) s services each).why)
      by (inr e) rest = rest e

  -- one of the workers met a full log
  pub met_full : (met_by (refusals ws)).full ≡ true → (r : Role) × IsFullRound r items
  met_full is = full_in (services_of ws) each_served (ap (λ (os : List (Option Stop)). list_any is_full os) (mets_same ws) ∙ is)

  module _ (inputs : List (Option (List ℕ))) (own : List (ℕ × Noted)) (list : FeederList inputs own (mine_of first)) where
    -- as many entries were handed in as there were before
    pub handed_whole : joined.whole.stop.by.opening ≡ length before
    handed_whole =
        let start : List Noted = items_of m before (handed_in before) in
        let long : length start ≡ length before = length_going m before (handed_in before) refl in
        opening_is m joined.whole.log joined.whole.stop joined.whole.some joined.whole.each (mine_of first ∷ own_lists_of ws) (length before) joined.whole.stands joined.whole.owners
        (All-cons IsSomeones (mine_of first) (own_lists_of ws) (Feeder, feeder_signed inputs own (mine_of first) list) (workers_theirs ws joined.each))
        start (prefix_trans start (seen_of first) items joined.opened joined.whole.first_seen) (omega (arith, long))
        (subst AreHandedIn (sym (take_all (length before) start (omega (arith, long)))) (handed_are m before))

    unfoldable pub history : History joined.duties m before joined.whole.log
    history = record {
      signs = joined.whole.stop;
      feeder = mine_of first;
      feeder_seen = seen_of first;
      workers = services_of ws;
      hired = hired_same ws ∙ joined.hired;
      legal = joined.whole.legal;
      stands = service_stands;
      owners = service_owners;
      feeder_saw = record { begins = joined.whole.first_seen; holds = own_stands joined.plan first joined.own };
      handed = handed_whole;
      each_signed = joined.whole.each;
      feeder_signed = feeder_signed inputs own (mine_of first) list;
      inputs = feeder_until inputs own (mine_of first) list;
      each = each_served;
    }

    opening_plan : IsPlan (items_of m before (handed_in before))
    opening_plan = record { model = m; log = before; signs = handed_in before; legal = joined.legal; some = log_is_some m before joined.legal; each = (let e : length before + 0 ≡ length before = omega arith in e); is = refl }

    pub on : IsPrefix (items_of m before (handed_in before)) (items_of m joined.whole.log joined.whole.stop)
    on = prefix_trans (items_of m before (handed_in before)) (seen_of first) (items_of m joined.whole.log joined.whole.stop) joined.opened joined.whole.first_seen

    pub more : MoreOf on.0
    more = more_of (items_of m before (handed_in before)) m joined.whole.log joined.whole.stop opening_plan joined.whole.legal on

    abbrev pub entries : List Entry
    entries = entries_of more.signed

    pub begins : joined.whole.log ≡ before ++ entries
    begins =
        entries_whole m joined.whole.log joined.whole.stop joined.whole.legal (items_of m before (handed_in before)) opening_plan (model_in_items m before (handed_in before) joined.legal) on
        ∙ ap (λ (xs : List Entry). xs ++ entries_in on.0) (entries_in_items m before (handed_in before))
        ∙ ap (λ (xs : List Entry). before ++ xs) (ap entries_in more.is ∙ made_entries more.signed more.stop)

    pub chosen : AreChosen m before entries
    chosen =
        are_chosen m joined.whole.log joined.whole.stop (mine_of first) (services_of ws) (length before) service_stands service_owners (feeder_until inputs own (mine_of first) list) each_served before entries (log_is_some m before joined.legal)
        (omega arith) begins

    pub inputs_same : inputs_of entries ≡ inputs
    inputs_same =
        inputs_are (items_of m joined.whole.log joined.whole.stop) inputs own (mine_of first) (own_lists_of ws) list joined.whole.stands none_others (length before) joined.whole.owners
        (items_of m before (handed_in before)) more.signed more.stop (sym (length_going m before (handed_in before) refl)) (sym on.1 ∙ ap (λ (xs : List Noted). items_of m before (handed_in before) ++ xs) more.is)

    pub ends_if : EndsIf (world_of m joined.whole.log).done (inputs_of entries)
    ends_if =
        let legal : Legal m (before ++ entries) = subst (λ (l : List Entry). Legal m l) begins joined.whole.legal in
        let world : world_of m joined.whole.log ≡ world_of m (before ++ entries) = ap (λ (l : List Entry). world_of m l) begins in
        subst (λ (w : World). EndsIf w.done (inputs_of entries)) (sym (world ∙ world_behind m before entries joined.legal))
        (run_ends (world_of m before) entries (steps_behind m before entries joined.legal legal) (world_goes m before joined.legal) joined.going)

    pub ends_told : EndsIf (world_of m joined.whole.log).done inputs
    ends_told = subst (λ (is : List (Option (List ℕ))). EndsIf (world_of m joined.whole.log).done is) inputs_same ends_if

    -- ---- nothing follows what was written

    module _ (held now : Option (List ℕ)) (front : List Noted) (settled : Settled m held now front own) (onto : IsPrefix front (items_of m joined.whole.log joined.whole.stop)) (past : length before ≤ length front) where
      no_entry : (rests : Rests front) (e : Entry) (es : List Entry) → entries_in onto.0 ≡ e ∷ es → ⊥
      no_entry (over here) e es is = over_none m joined.whole.log joined.whole.stop joined.whole.legal front settled.plan settled.model onto here e es is
      no_entry (stopped stops) e es is = (let both : e ∷ es ≡ [] = sym is ∙ stop_none m joined.whole.log joined.whole.stop joined.whole.legal front settled.plan settled.model onto stops in cc)
      no_entry (between here) e es is =
          let first' = more_first onto.0 (more_of front m joined.whole.log joined.whole.stop settled.plan joined.whole.legal onto) e es is in
          let whole' : items_of m joined.whole.log joined.whole.stop ≡ front ++ Made first'.0 e ∷ first'.1 = sym onto.1 ∙ ap (λ (xs : List Noted). front ++ xs) first'.2 in
          let at : slice_get (items_of m joined.whole.log joined.whole.stop) (length front) ≡ Some (Made first'.0 e) = ap (λ (xs : List Noted). slice_get xs (length front)) whole' ∙ at_front front first'.1 (Made first'.0 e) in
          let long = ap (λ (xs : List Noted). length xs) whole' ∙ length-append front (Made first'.0 e ∷ first'.1) in
          no_further (items_of m joined.whole.log joined.whole.stop) inputs own (mine_of first) (own_lists_of ws) list joined.whole.stands none_others (length before) joined.whole.owners
          front (first'.0, e) (length front) settled.stands (omega arith) past (omega (arith, long)) at
          (between_input m joined.whole.log joined.whole.stop joined.whole.legal front settled.plan settled.model onto here e es is)

      settled_by : (es : List Entry) → entries_in onto.0 ≡ es → joined.whole.log ≡ entries_in front
      settled_by [] is =
          entries_whole m joined.whole.log joined.whole.stop joined.whole.legal front settled.plan settled.model onto ∙ ap (λ (xs : List Entry). entries_in front ++ xs) is ∙ append-nil (entries_in front)
      settled_by (e ∷ es) is = absurd (no_entry settled.rests e es is)

      pub settled_log : joined.whole.log ≡ entries_in front
      settled_log = settled_by (entries_in onto.0) refl

      pub settled_text : WritesLog m joined.whole.log held now
      settled_text = subst (λ (l : List Entry). Adds held now (text_from m 0 l)) (sym settled_log) settled.written

      pub settled_world : (P : World → Type 0) → InWorld front P → P (world_of m joined.whole.log)
      settled_world P here = subst (λ (l : List Entry). P (world_of m l)) (sym settled_log) (world_in P front m settled.model here)

    -- ---- one message follows what was written

    module _ (old : PlanPass) (front : List Noted) (handed : HandsOne old front own) (onto : IsPrefix front (items_of m joined.whole.log joined.whole.stop)) (past : length before ≤ length front) where
      message_by : (behind : MoreOf onto.0) (es : List SignedEntry) → behind.signed ≡ es → 0 < length (entries_in onto.0) → (message : Option (List ℕ)) × (inputs_of (entries_in onto.0) ≡ message ∷ [])
      message_by behind [] is due =
          let none : entries_in onto.0 ≡ [] = ap entries_in behind.is ∙ made_entries behind.signed behind.stop ∙ ap entries_of is in
          let long = ap (λ (es : List Entry). length es) none in
          absurd (omega (arith, long, due))
      message_by behind (e ∷ es) is due =
          let same : entries_in onto.0 ≡ e.1 ∷ entries_of es = ap entries_in behind.is ∙ made_entries behind.signed behind.stop ∙ ap entries_of is in
          let whole' : items_of m joined.whole.log joined.whole.stop ≡ front ++ (map made_of (e ∷ es) ++ stop_items behind.stop) =
          sym onto.1 ∙ ap (λ (xs : List Noted). front ++ xs) (behind.is ∙ ap (λ (xs : List SignedEntry). map made_of xs ++ stop_items behind.stop) is) in
          let model = model_seen front handed.plan onto in
          let input = between_input m joined.whole.log joined.whole.stop joined.whole.legal front handed.plan model onto handed.between e.1 (entries_of es) same in
          let one = one_input (items_of m joined.whole.log joined.whole.stop) inputs own (mine_of first) (own_lists_of ws) list joined.whole.stands none_others (length before) joined.whole.owners
          front handed.earlier handed.last handed.own handed.stands past e es behind.stop whole' input in
          (one.0, ap inputs_of same ∙ one.1)

      pub one_message : 0 < length (entries_in onto.0) → (message : Option (List ℕ)) × (inputs_of (entries_in onto.0) ≡ message ∷ [])
      one_message due =
          let behind = more_of front m joined.whole.log joined.whole.stop handed.plan joined.whole.legal onto in
          message_by behind behind.signed refl due

    -- ---- a full log

    full_length : IsFull (items_of m joined.whole.log joined.whole.stop) → length joined.whole.log ≡ (options_of joined.whole.log).entries
    full_length full =
        let here = world_in (λ w. w.options.entries ≤ length (entries_in (items_of m joined.whole.log joined.whole.stop))) (items_of m joined.whole.log joined.whole.stop) m (model_in_items m joined.whole.log joined.whole.stop joined.whole.legal) full in
        let same : entries_in (items_of m joined.whole.log joined.whole.stop) ≡ joined.whole.log = entries_in_items m joined.whole.log joined.whole.stop in
        let le : (world_of m joined.whole.log).options.entries ≤ length joined.whole.log = subst (λ (l : List Entry). (world_of m l).options.entries ≤ length l) same here in
        let options : (world_of m joined.whole.log).options.entries ≡ (options_of joined.whole.log).entries = ap (λ o. o.entries) (world_options m joined.whole.log) in
        let bound = log_is_bounded m joined.whole.log joined.whole.legal in
        omega (arith, le, options, bound)

    pub full_seen : (seen : List Noted) → IsPlan seen → model_in seen ≡ Some m → IsPrefix seen (items_of m joined.whole.log joined.whole.stop) → IsFull seen → length joined.whole.log ≡ (options_of joined.whole.log).entries
    full_seen seen plan model onto full =
        full_length (full_on seen (items_of m joined.whole.log joined.whole.stop) plan onto (model_in_items m joined.whole.log joined.whole.stop joined.whole.legal ∙ sym model) full)

    -- a worker met a full log
    pub full_round : (r : Role) → IsFullRound r (items_of m joined.whole.log joined.whole.stop) → (length joined.whole.log ≡ (options_of joined.whole.log).entries) × ((world_of m joined.whole.log).closed ≡ false) × ((world_of m joined.whole.log).done ≡ false)
    full_round r why =
        let P : World → Type 0 = λ w. (w.closed ≡ false) × (w.done ≡ false) × (has_event r w ≡ true) in
        let here = world_in P (items_of m joined.whole.log joined.whole.stop) m (model_in_items m joined.whole.log joined.whole.stop joined.whole.legal) why.1 in
        let at = subst (λ (l : List Entry). P (world_of m l)) (entries_in_items m joined.whole.log joined.whole.stop) here in
        (full_length why.0, at.0, at.1)
