-- What the machine's answers come to inside a turn.
use Rattle.std.proofs.Common.{◌≡◌, ℕ, ◌+◌, List, [], ◌∷◌, length, Bool, true, false, Option, Some, None, Ok, Err, refl, sym, ◌∙◌, ap, subst, inl, inr, arith, length-append}
use Rattle.std.specs.Prelude.{not, ◌&&◌, is_some}
use Rattle.std.proofs.Math.Bool.{and-true, and-false}
use Rattle.pl_marks.specs.declared.author.Author.{Author}
use Rattle.pl_marks.specs.Marks.{Signed}
use Rattle.pl_entry.specs.declared.event.Event.{Event}
use Rattle.pl_entry.specs.declared.event.Event.TheVariants as event
use Rattle.pl_entry.specs.declared.reply.Reply.{Reply}
use Rattle.pl_entry.specs.declared.entry.Entry.{Entry}
use Rattle.pl_machine.specs.declared.stop.Stop.{Stop}
use Rattle.pl_machine.specs.declared.stop.Stop.TheVariants as stop
use Rattle.pl_machine.specs.declared.choice.Choice.{Choice}
use Rattle.pl_machine.specs.World.{World}
use Rattle.pl_machine.specs.Step.{is_enabled}
use Rattle.pl_machine.specs.Choices.{exec_choice_of, event_of}
use Rattle.pl_machine.specs.Sound.{State}
use Rattle.pl_machine.specs.Taking.{IsOpen, Takes, Spoils}
use Rattle.pl_acts.specs.declared.held.Held.{Held}
use Rattle.pl_acts.specs.declared.role.Acted.TheVariants as acted
use Rattle.pl_acts.specs.Roles.{IsChosen, IsInputOf}
use Rattle.pl_acts.specs.Items.{signed_on}
use Rattle.pl_acts.specs.Signing.{Written, SignedAnswers}
use Rattle.pl_acts.specs.Inside.{Logs, Spoiled, Wants, can_listen, FeedsIn, Executes, ExecutesIn}

abbrev pub with_plan : Written → Held → Held
with_plan p h = record h { plan = p }

-- an entry that the machine took
pub took_one : (By : World → Entry → Type 0) (a : Author) (old : Held) (p : Written) (v : Event) (r : Reply) (n : ℕ) → is_some old.stopper ≡ false → IsOpen old.plan.machine v → Takes old.plan.machine v r p.machine → p.signs ≡ signed_on a old.plan.signs
    → n + 1 ≡ length p.machine.log → By old.plan.machine.world (record { event = v; reply = r }) → Logs By a old (with_plan p old) n
took_one By a old p v r n going may takes signs last by = record {
  entry = record { event = v; reply = r };
  unspoiled = may.unspoiled;
  going = going;
  log = takes.log;
  model = takes.model;
  signs = signs;
  same = refl;
  place = (let long = ap length takes.log ∙ length-append old.plan.machine.log (record { event = v; reply = r } ∷ []) in omega (arith, long, last));
  step = (takes.step.enabled, takes.step.answers);
  by = by;
}

pub same_plan : (old : Held) (p : Written) → p ≡ old.plan → with_plan p old ≡ old
same_plan old p e = ap (λ (x : Written). with_plan x old) e

-- neither the machine nor the signatures changed
pub same_held : (old : Held) (p : Written) → p.machine ≡ old.plan.machine → p.signs ≡ old.plan.signs → with_plan p old ≡ old
same_held old p machine signs =
    same_plan old p (ap (λ (m : State). record p { machine = m }) machine ∙ ap (λ (s : Signed). record old.plan { signs = s }) signs)

pub spoils_held : (old : Held) (p : Written) → old.plan.machine.spoiled ≡ false → Spoils old.plan.machine p.machine → p.signs ≡ old.plan.signs → Spoiled old (with_plan p old)
spoils_held old p unspoiled spoils signs = (unspoiled, record { log = spoils.log; model = spoils.model; signs = signs; same = refl }, spoils.spoiled)

-- memory was wanting for the event or for the signature
pub wants_held : (a : Author) (old : Held) (p : Written) (v : Event) → old.plan.machine.spoiled ≡ false → SignedAnswers a old.plan v (Err stop.Memory) p → Wants old (with_plan p old)
wants_held a old p v unspoiled (inl answers) = inl (spoils_held old p answers.0.0 answers.0.1 answers.1)
wants_held a old p v unspoiled (inr same) = inr (unspoiled, same_plan old p same)

-- ---- an input

pub fed_one : (a : Author) (line : Option (List ℕ)) (old : Held) (p : Written) (r : Reply) (n : ℕ) → is_some old.stopper ≡ false → SignedAnswers a old.plan (event.Input line) (Ok r) p → n + 1 ≡ length p.machine.log → FeedsIn a line old (Ok n) (with_plan p old)
fed_one a line old p r n going answers last = took_one (IsInputOf line) a old p (event.Input line) r n going answers.0.0 answers.0.1 answers.1 last refl

listens : (w : World) (s b : Bool) → s ≡ false → (w.closed && not w.done) ≡ b → can_listen w s ≡ b
listens w true b e f = absurd (cc)
listens w false b e f = and-true (w.closed && not w.done) ∙ f

pub fed_none : (a : Author) (line : Option (List ℕ)) (old : Held) (p : Written) (s : Stop) → old.plan.machine.spoiled ≡ false → is_some old.stopper ≡ false → SignedAnswers a old.plan (event.Input line) (Err s) p → FeedsIn a line old (Err s) (with_plan p old)
fed_none a line old p stop.Spoiled unspoiled going answers = (answers.0.0, same_held old p answers.0.1 answers.1)
fed_none a line old p stop.NotNow unspoiled going answers = (answers.0.0, listens old.plan.machine.world (is_some old.stopper) false going answers.0.1, same_held old p answers.0.2 answers.1)
fed_none a line old p stop.LogFull unspoiled going answers = (answers.0.0, listens old.plan.machine.world (is_some old.stopper) true going answers.0.1, answers.0.2, same_held old p answers.0.3 answers.1)
fed_none a line old p stop.Memory unspoiled going answers = wants_held a old p (event.Input line) unspoiled answers

stopped_listens : (w : World) (s : Bool) → s ≡ true → can_listen w s ≡ false
stopped_listens w true e = and-false (w.closed && not w.done)
stopped_listens w false e = absurd (cc)

pub fed_stopped : (a : Author) (line : Option (List ℕ)) (old : Held) → old.plan.machine.spoiled ≡ false → is_some old.stopper ≡ true → FeedsIn a line old (Err stop.NotNow) old
fed_stopped a line old unspoiled stopped = (unspoiled, stopped_listens old.plan.machine.world (is_some old.stopper) stopped, refl)

-- ---- the executive

abbrev Chosen : Held → Choice → Type 0
Chosen old choice = exec_choice_of old.plan.machine.world ≡ Some choice

some_chosen : (o : Option Choice) (choice : Choice) → o ≡ Some choice → is_some o ≡ true
some_chosen o choice e = ap (λ (x : Option Choice). is_some x) e

pub executed : (a : Author) (old : Held) (p : Written) (choice : Choice) (r : Reply) (n : ℕ) → Chosen old choice → old.plan.machine.world.done ≡ false → is_some old.stopper ≡ false
    → SignedAnswers a old.plan (event_of choice) (Ok r) p → n + 1 ≡ length p.machine.log → ExecutesIn a old (Ok (acted.Did n)) (with_plan p old)
executed a old p choice r n chosen going running answers last =
    let P : Option Choice → Type 0 = λ o. IsChosen o (event_of choice) in (
      took_one Executes a old p (event_of choice) r n running answers.0.0 answers.0.1 answers.1 last (subst P (sym chosen) refl),
      going,
      some_chosen (exec_choice_of old.plan.machine.world) choice chosen,
    )

pub execute_stops : (a : Author) (old : Held) (p : Written) (choice : Choice) (s : Stop) → Chosen old choice → is_enabled old.plan.machine.world (event_of choice) ≡ true → old.plan.machine.spoiled ≡ false
    → old.plan.machine.world.done ≡ false → is_some old.stopper ≡ false → SignedAnswers a old.plan (event_of choice) (Err s) p → ExecutesIn a old (Err s) (with_plan p old)
execute_stops a old p choice stop.Spoiled chosen enabled unspoiled going running answers = (answers.0.0, same_held old p answers.0.1 answers.1)
execute_stops a old p choice stop.NotNow chosen enabled unspoiled going running answers = absurd (let h : true ≡ false = sym enabled ∙ answers.0.1 in cc)
execute_stops a old p choice stop.LogFull chosen enabled unspoiled going running answers =
    (record { unspoiled = unspoiled; going = going; running = running }, some_chosen (exec_choice_of old.plan.machine.world) choice chosen, answers.0.2, same_held old p answers.0.3 answers.1)
execute_stops a old p choice stop.Memory chosen enabled unspoiled going running answers = wants_held a old p (event_of choice) unspoiled answers

pub execute_none : (a : Author) (old : Held) → exec_choice_of old.plan.machine.world ≡ None → old.plan.machine.spoiled ≡ false → old.plan.machine.world.done ≡ false → is_some old.stopper ≡ false
    → ExecutesIn a old (Ok acted.Nothing) old
execute_none a old none unspoiled going running = (record { unspoiled = unspoiled; going = going; running = running }, ap (λ (x : Option Choice). is_some x) none, refl)
