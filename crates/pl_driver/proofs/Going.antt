-- A round goes on by one entry.
use Rattle.std.proofs.Common.{◌≡◌, List, [], ◌∷◌, ◌++◌, true, false, not, ◌&&◌, Option, Some, None, Ok, Err, refl, sym, ◌∙◌, ap, subst, inl, append_assoc}
use Rattle.std.specs.Prelude.{is_some}
use Rattle.std.proofs.lemmas.List.{append-nil}
use Rattle.std.proofs.lemmas.List.Elements.{filter_map-append}
use Rattle.pl_entry.specs.declared.event.Event.{Event}
use Rattle.pl_entry.specs.declared.event.Event.TheVariants as event
use Rattle.pl_entry.specs.declared.reply.Reply.{Reply}
use Rattle.pl_entry.specs.declared.reply.Reply.TheVariants as reply
use Rattle.pl_entry.specs.declared.reply.Reason.{Reason}
use Rattle.pl_entry.specs.declared.entry.Entry.{Entry}
use Rattle.pl_machine.specs.declared.choice.Choice.{Choice}
use Rattle.pl_machine.specs.declared.choice.Choice.TheVariants as choice
use Rattle.pl_machine.specs.declared.stop.Stop.{Stop}
use Rattle.pl_machine.specs.declared.stop.Stop.TheVariants as stop
use Rattle.pl_machine.specs.declared.repaired.Repaired.{Repaired}
use Rattle.pl_machine.specs.declared.repaired.Repaired.TheVariants as repaired
use Rattle.pl_machine.specs.World.{World}
use Rattle.pl_machine.specs.Step.{is_enabled, reply_of, after}
use Rattle.pl_machine.specs.Choices.{exec_choice_of, event_of}
use Rattle.pl_machine.specs.Legal.{world_from}
use Rattle.pl_machine.specs.Solo.{Picks, Drawn, IsSoloEvent, solo_from}
use Rattle.pl_machine.specs.Finished.{inputs_of, input_in}
use Rattle.pl_machine.specs.Sound.{State}
use Rattle.pl_machine.specs.Taking.{Spoils, Answers}
use Rattle.pl_machine.specs.Mending.{IsAskedAtMost, HasRepaired, RepairsOnce}
use Rattle.pl_machine.proofs.Going.{fix_done, commit_done, dispatch_done}
use Rattle.pl_machine.proofs.Runs.{world_from_push}
use Rattle.pl_driver.specs.Rounds.{Goes, Ran, RanTo, Executes, Stepped}

-- ---- one entry

-- only an input ends a run
still_going : (w : World) (e : Event) → input_in e ≡ None → (after w e).done ≡ w.done
still_going w (event.Opened o) none = refl
still_going w (event.Input line) none = absurd (cc)
still_going w (event.Fix k m) none = fix_done w m (reply_of w (event.Fix k m))
still_going w event.Rest none = refl
still_going w (event.Commit h) none = commit_done w h (reply_of w (event.Commit h))
still_going w event.Dispatch none = dispatch_done w (reply_of w event.Dispatch)
still_going w event.Close none = refl

takes_goes : {C : Type 0} (picks : Picks C) (old new : State) (c c2 : C) (e : Event) (r : Reply) → Answers old e (Ok r) new → input_in e ≡ None → IsSoloEvent picks old.world c e c2 → Goes picks old c new c2
takes_goes picks old new c c2 e r takes none solo = record {
  entry = record { event = e; reply = r };
  log = takes.1.log;
  world = takes.1.step.leaves;
  unspoiled = takes.1.spoiled;
  solo = solo;
  input = none;
  same = record { model = takes.1.model; options = takes.1.options };
  done = ap (λ (w : World). w.done) takes.1.step.leaves ∙ still_going old.world e none;
  room = takes.0.room;
}

-- ---- what is answered to an event that is enabled

pub stopped : {C : Type 0} (picks : Picks C) (drawn : Drawn C) (old new : State) (c c2 : C) (e : Event) (s : Stop) → is_enabled old.world e ≡ true → Answers old e (Err s) new → c2 ≡ c → Stepped picks drawn old c (Err s) new c2
stopped picks drawn old new c c2 e stop.NotNow on answers same = absurd (let h : true ≡ false = sym on ∙ answers.1 in (cc))
stopped picks drawn old new c c2 e stop.LogFull on answers same = (answers.0, answers.2, answers.3, same)
stopped picks drawn old new c c2 e stop.Spoiled on answers same = (answers.0, answers.1, same)
stopped picks drawn old new c c2 e stop.Memory on answers same = (answers.0, answers.1, inl same)

-- ---- one turn of repair

pub repaired_goes : {C : Type 0} (picks : Picks C) (old new : State) (c c2 : C) (done : Repaired) → old.world.rested ≡ false → HasRepaired picks old c done new c2 → Goes picks old c new c2
repaired_goes picks old new c c2 (repaired.Fixed p) going did = takes_goes picks old new c c2 (event.Fix p.conflict p.mv) reply.Done (did.3, did.4) refl (going, did.0, did.1)
repaired_goes picks old new c c2 (repaired.Rested why) going did = takes_goes picks old new c c2 event.Rest (reply.Rested why) (did.1, did.2) refl (going, ap (λ (o : Option Reason). is_some o) did.0, did.3)

pub repair_stops : {C : Type 0} (picks : Picks C) (drawn : Drawn C) (old new : State) (c c2 : C) (s : Stop) → old.world.closed ≡ false → old.world.rested ≡ false → RepairsOnce picks drawn old c (Err s) new c2 → Stepped picks drawn old c (Err s) new c2
repair_stops picks drawn old new c c2 stop.NotNow opened going answers = absurd (let h : (not old.world.closed && not old.world.rested) ≡ false = answers.1 in let k : true ≡ false = rw (opened, going) at h in cc)
repair_stops picks drawn old new c c2 stop.LogFull opened going answers = (answers.0, answers.2, answers.3, answers.4)
repair_stops picks drawn old new c c2 stop.Spoiled opened going answers = answers
repair_stops picks drawn old new c c2 stop.Memory opened going answers = answers

-- ---- what the executive chooses

chosen_solo : {C : Type 0} (picks : Picks C) (w : World) (c c2 : C) (it : Choice) → w.rested ≡ true → exec_choice_of w ≡ Some it → c2 ≡ c → IsSoloEvent picks w c (event_of it) c2 × (input_in (event_of it) ≡ None)
chosen_solo picks w c c2 choice.Dispatch rested chosen same = ((rested, chosen, same), refl)
chosen_solo picks w c c2 (choice.Commit h) rested chosen same = ((rested, chosen, same), refl)
chosen_solo picks w c c2 choice.Close rested chosen same = ((rested, chosen, same), refl)

pub executes_goes : {C : Type 0} (picks : Picks C) (old new : State) (c c2 : C) (r : Reply) → old.world.rested ≡ true → Executes old (Ok r) new → c2 ≡ c → Goes picks old c new c2
executes_goes picks old new c c2 r rested does same =
    let solo = chosen_solo picks old.world c c2 does.choice rested does.chosen same in
    takes_goes picks old new c c2 (event_of does.choice) r does.answers solo.1 solo.0

pub executes_stops : {C : Type 0} (picks : Picks C) (drawn : Drawn C) (old new : State) (c c2 : C) (s : Stop) → Executes old (Err s) new → c2 ≡ c → Stepped picks drawn old c (Err s) new c2
executes_stops picks drawn old new c c2 s does same = stopped picks drawn old new c c2 (event_of does.choice) s does.enabled does.answers same

-- ---- one more entry behind others

solo_push : {C : Type 0} (picks : Picks C) (w : World) (c : C) (es : List Entry) (e : Entry) (c2 c3 : C) → solo_from picks w c es c2 → IsSoloEvent picks (world_from w es) c2 e.event c3 → solo_from picks w c (es ++ e ∷ []) c3
solo_push picks w c [] e c2 c3 solo here = (c3, subst (λ d. IsSoloEvent picks w d e.event c3) solo here, refl)
solo_push picks w c (x ∷ es) e c2 c3 solo here = (solo.0, solo.1, solo_push picks (after w x.event) solo.0 es e c2 c3 solo.2 here)

input_none : (e : Entry) → input_in e.event ≡ None → inputs_of (e ∷ []) ≡ []
input_none e none = rw none refl

pub ran_on : {C : Type 0} (picks : Picks C) (old mid new : State) (c c2 c3 : C) → RanTo picks old c mid c2 → Goes picks mid c2 new c3 → RanTo picks old c new c3
ran_on picks old mid new c c2 c3 ran goes =
    let es = ran.entries in
    let e = goes.entry in
    record {
      entries = es ++ e ∷ [];
      ready = ran.ready;
      log = rw (goes.log, ran.log) (append_assoc old.log es (e ∷ []));
      solo = solo_push picks old.world c es e c2 c3 ran.solo (subst (λ (w : World). IsSoloEvent picks w c2 e.event c3) ran.world goes.solo);
      inputs = filter_map-append (λ (x : Entry). input_in x.event) es (e ∷ []) ∙ (rw (ran.inputs) (input_none e goes.input));
      same = record { model = goes.same.model ∙ ran.same.model; options = goes.same.options ∙ ran.same.options };
      world = goes.world ∙ ap (λ (w : World). after w e.event) ran.world ∙ sym (world_from_push old.world es e);
      unspoiled = goes.unspoiled;
      done = goes.done ∙ ran.done;
    }

pub ran_none : {C : Type 0} (picks : Picks C) (s : State) (c : C) → s.spoiled ≡ false → RanTo picks s c s c
ran_none picks s c unspoiled = record {
  entries = [];
  ready = unspoiled;
  log = sym (append-nil s.log);
  solo = refl;
  inputs = refl;
  same = record { model = refl; options = refl };
  world = refl;
  unspoiled = unspoiled;
  done = refl;
}

pub ran_spoils : {C : Type 0} (picks : Picks C) (drawn : Drawn C) (old mid new : State) (c c2 c3 : C) → RanTo picks old c mid c2 → (mid.spoiled ≡ false) × Spoils mid new × IsAskedAtMost drawn mid.world c2 c3 → Ran picks drawn old c new c3
ran_spoils picks drawn old mid new c c2 c3 ran (unspoiled, spoils, asked) = record {
  entries = ran.entries;
  chooser = c2;
  ready = ran.ready;
  log = spoils.log ∙ ran.log;
  solo = ran.solo;
  inputs = ran.inputs;
  same = record { model = spoils.model ∙ ran.same.model; options = ap (λ (w : World). w.options) spoils.world ∙ ran.same.options };
  world = spoils.world ∙ ap (λ (w : World). record w { state = new.world.state }) ran.world;
  spoiled = spoils.spoiled;
  asked = subst (λ (w : World). IsAskedAtMost drawn w c2 c3) ran.world asked;
}
