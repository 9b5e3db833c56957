-- What an input does to the flags of a round.
use Rattle.std.proofs.Common.{◌≡◌, ℕ, ◌≤◌, List, [], ◌∷◌, ◌++◌, length, true, false, Option, Some, None, Result, Ok, Err, refl, sym, ◌∙◌, ap, subst, append_assoc}
use Rattle.pl_facts.specs.declared.options.Options.{Options}
use Rattle.pl_entry.specs.declared.event.Event.{Event}
use Rattle.pl_entry.specs.declared.event.Event.TheVariants as event
use Rattle.pl_entry.specs.declared.entry.Entry.{Entry}
use Rattle.pl_entry.specs.declared.reply.Reply.{Reply}
use Rattle.pl_entry.specs.declared.reply.Reply.TheVariants as reply
use Rattle.pl_machine.specs.declared.stop.Stop.{Stop}
use Rattle.pl_machine.specs.declared.stop.Stop.TheVariants as stop
use Rattle.pl_machine.specs.Messages.{line_reply}
use Rattle.pl_machine.specs.World.{World}
use Rattle.pl_machine.specs.Step.{after, after_input}
use Rattle.pl_machine.specs.Finished.{inputs_of}
use Rattle.pl_machine.specs.Sound.{State}
use Rattle.pl_machine.specs.Taking.{Takes}
use Rattle.pl_machine.specs.Legal.{world_from}
use Rattle.pl_machine.specs.Solo.{Picks, Drawn}
use Rattle.pl_driver.specs.Rounds.{RanTo, Rounds}
use Rattle.pl_machine.specs.Solo as machine
use Rattle.pl_main.specs.Solo.{Rule, follows, IsRuleOf}
use Rattle.pl_main.specs.Tells.{is_last, LogsInput, AnswersMessage, FillsUp, at_once, within, AnswersMessageOrStops}
use Rattle.pl_pair.proofs.Ends.{is_ended, line_ends}
use Rattle.pl_pair.proofs.Ending.{line_done}

closed_by : (w : World) (line : List ℕ) (r : Reply) → w.closed ≡ true → (after_input w (Some line) r).closed ≡ is_ended r
closed_by w line reply.Ended closed = closed
closed_by w line reply.Done closed = refl
closed_by w line _ closed = refl

input_done : (w : World) (input : Option (List ℕ)) → w.done ≡ false → (after w (event.Input input)).done ≡ is_last input
input_done w None going = refl
input_done w (Some line) going = line_done w line (line_reply w.state w.options.goals line) going ∙ line_ends w.state w.options.goals line

input_closed : (w : World) (input : Option (List ℕ)) → w.closed ≡ true → (after w (event.Input input)).closed ≡ is_last input
input_closed w None closed = closed
input_closed w (Some line) closed = closed_by w line (line_reply w.state w.options.goals line) closed ∙ line_ends w.state w.options.goals line

pub takes_hears : (old new : State) (input : Option (List ℕ)) (answer : Reply) → old.world.closed ≡ true → old.world.done ≡ false → Takes old (event.Input input) answer new → LogsInput old input new
takes_hears old new input answer closed going takes = record {
  entry = record { event = event.Input input; reply = answer };
  is_input = refl;
  log = takes.log;
  world = takes.step.leaves;
  unspoiled = takes.spoiled;
  done = ap (λ (w : World). w.done) takes.step.leaves ∙ input_done old.world input going;
  closed = ap (λ (w : World). w.closed) takes.step.leaves ∙ input_closed old.world input closed;
  same = record { model = takes.model; options = takes.options };
}

one_input : (e : Entry) (input : Option (List ℕ)) → e.event ≡ event.Input input → inputs_of (e ∷ []) ≡ input ∷ []
one_input e input is = rw is refl

input_and : (e : Entry) (input : Option (List ℕ)) (es : List Entry) → e.event ≡ event.Input input → inputs_of es ≡ [] → inputs_of (e ∷ es) ≡ input ∷ []
input_and e input es is none = rw (is, none) refl

input_follows : {R : Rule} {C : Type 0} (picks : Picks C) → IsRuleOf picks R → (w : World) (e : Entry) (input : Option (List ℕ)) → e.event ≡ event.Input input → R w e.event
input_follows {R} picks rule w e input is = subst (λ (x : Event). R w x) (sym is) (rule.free w input)

round_follows : {R : Rule} {C : Type 0} (picks : Picks C) → IsRuleOf picks R → (w : World) (c : C) (es : List Entry) (c2 : C) → machine.solo_from picks w c es c2 → follows R w es
round_follows picks rule w c [] c2 solo = tt
round_follows picks rule w c (e ∷ es) c2 solo = (rule.allows w c e.event solo.0 solo.1, round_follows picks rule (after w e.event) solo.0 es c2 solo.2)

pub told_last : {R : Rule} {C : Type 0} (picks : Picks C) (old new : State) (input : Option (List ℕ)) → IsRuleOf picks R → LogsInput old input new → new.world.done ≡ true → AnswersMessage R old input new
told_last picks old new input rule hears done = record {
  entries = hears.entry ∷ [];
  log = hears.log;
  inputs = one_input hears.entry input hears.is_input;
  solo = (input_follows picks rule old.world hears.entry input hears.is_input, tt);
  world = hears.world ∙ ap (λ (x : Event). after old.world x) (sym hears.is_input);
  unspoiled = hears.unspoiled;
  closed = hears.closed ∙ sym hears.done ∙ done;
  done = hears.done;
  same = hears.same;
}

told_round : {R : Rule} {C : Type 0} (picks : Picks C) (old mid new : State) (c c2 : C) (input : Option (List ℕ)) → IsRuleOf picks R → LogsInput old input mid → mid.world.done ≡ false → RanTo picks mid c new c2 → new.world.closed ≡ true → AnswersMessage R old input new
told_round {R} picks old mid new c c2 input rule hears going ran closed =
    let led : mid.world ≡ after old.world hears.entry.event = hears.world ∙ ap (λ (x : Event). after old.world x) (sym hears.is_input) in
    record {
      entries = hears.entry ∷ ran.entries;
      log = ran.log ∙ ap (λ (l : List Entry). l ++ ran.entries) hears.log ∙ append_assoc old.log (hears.entry ∷ []) ran.entries;
      inputs = input_and hears.entry input ran.entries hears.is_input ran.inputs;
      solo = (input_follows picks rule old.world hears.entry input hears.is_input, subst (λ (w : World). follows R w ran.entries) led (round_follows picks rule mid.world c ran.entries c2 ran.solo));
      world = ran.world ∙ ap (λ (w : World). world_from w ran.entries) led;
      unspoiled = ran.unspoiled;
      closed = closed;
      done = ran.done ∙ hears.done;
      same = record { model = ran.same.model ∙ hears.same.model; options = ran.same.options ∙ hears.same.options };
    }

told_in_part : {R : Rule} {C : Type 0} (picks : Picks C) (old mid new : State) (c c2 : C) (input : Option (List ℕ)) → IsRuleOf picks R → LogsInput old input mid → mid.world.done ≡ false → RanTo picks mid c new c2 → new.world.closed ≡ false → mid.world.options.entries ≤ length new.log → FillsUp R old input new
told_in_part {R} picks old mid new c c2 input rule hears going ran open_round full =
    let led : mid.world ≡ after old.world hears.entry.event = hears.world ∙ ap (λ (x : Event). after old.world x) (sym hears.is_input) in
    within (record {
      entries = hears.entry ∷ ran.entries;
      log = ran.log ∙ ap (λ (l : List Entry). l ++ ran.entries) hears.log ∙ append_assoc old.log (hears.entry ∷ []) ran.entries;
      inputs = input_and hears.entry input ran.entries hears.is_input ran.inputs;
      solo = (input_follows picks rule old.world hears.entry input hears.is_input, subst (λ (w : World). follows R w ran.entries) led (round_follows picks rule mid.world c ran.entries c2 ran.solo));
      world = ran.world ∙ ap (λ (w : World). world_from w ran.entries) led;
      unspoiled = ran.unspoiled;
      open_round = open_round;
      going = ran.done ∙ going;
      full = subst (λ (o : Options). o.entries ≤ length new.log) hears.same.options full;
      same = record { model = ran.same.model ∙ hears.same.model; options = ran.same.options ∙ hears.same.options };
    })

-- a message, and then its round
pub tells : {R : Rule} {C : Type 0} (picks : Picks C) (drawn : Drawn C) (old mid new : State) (c c2 : C) (input : Option (List ℕ)) (r : Result (Unit {0}) Stop) → LogsInput old input mid → mid.world.done ≡ false → Rounds picks drawn mid c r new c2 → IsRuleOf picks R → AnswersMessageOrStops R old input r new
tells picks drawn old mid new c c2 input (Ok u) hears going rounds rule = told_round picks old mid new c c2 input rule hears going rounds.0 rounds.1
tells picks drawn old mid new c c2 input (Err stop.NotNow) hears going rounds rule = absurd rounds
tells picks drawn old mid new c c2 input (Err stop.LogFull) hears going rounds rule = told_in_part picks old mid new c c2 input rule hears going rounds.0 rounds.1 rounds.2
tells picks drawn old mid new c c2 input (Err stop.Spoiled) hears going rounds rule = absurd (let h : true ≡ false = sym rounds.0 ∙ hears.unspoiled in (cc))
tells picks drawn old mid new c c2 input (Err stop.Memory) hears going rounds rule = tt

pub told_at_once : {R : Rule} (old new : State) (input : Option (List ℕ)) → old.world.options.entries ≤ length old.log → new ≡ old → FillsUp R old input new
told_at_once old new input full same = at_once full same
