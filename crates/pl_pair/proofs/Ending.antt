-- The input ends with the last entry of a log, where it ends.
use Rattle.std.proofs.Common.{◌≡◌, ℕ, List, [], ◌∷◌, ◌++◌, Bool, true, false, Option, Some, None, unwrap_or, refl, sym, ◌∙◌, ap}
use Rattle.std.specs.Prelude.{not}
use Rattle.std.proofs.lemmas.Bool.{not-true}
use Rattle.pl_lists.proofs.Tests.{and_first, and_second}
use Rattle.pl_facts.specs.declared.options.Options.{Options}
use Rattle.pl_model.specs.declared.whole.Model.{Model}
use Rattle.pl_entry.specs.declared.event.Event.{Event}
use Rattle.pl_entry.specs.declared.event.Event.TheVariants as event
use Rattle.pl_entry.specs.declared.reply.Reply.{Reply}
use Rattle.pl_entry.specs.declared.reply.Reply.TheVariants as reply
use Rattle.pl_entry.specs.declared.entry.Entry.{Entry}
use Rattle.pl_input.specs.Words.{is_line_of, end_word}
use Rattle.pl_machine.specs.Messages.{line_reply}
use Rattle.pl_machine.specs.World.{World, fresh_world}
use Rattle.pl_machine.specs.Step.{is_enabled, reply_of, after_input, after}
use Rattle.pl_machine.specs.Legal.{legal_from, world_from, no_options, options_in, IsOpenedRun, Legal, world_of}
use Rattle.pl_machine.specs.Finished.{inputs_of}
use Rattle.pl_machine.proofs.Going.{Goes, fix_done, commit_done, dispatch_done, step_goes}
use Rattle.pl_machine.proofs.Runs.{world_append}
use Rattle.pl_pair.proofs.Ends.{is_ended, line_ends}

-- whether an input ends the run
abbrev pub is_ending : Option (List ℕ) → Bool
is_ending None = true
is_ending (Some line) = is_line_of end_word line

abbrev pub NoEnds : List (Option (List ℕ)) → Type 0
NoEnds [] = Unit {0}
NoEnds (i ∷ inputs) = (is_ending i ≡ false) × NoEnds inputs

-- The last input ends the run, and none before it.
pub record LastEnds (inputs : List (Option (List ℕ))) : Type 0 where
  pub front : List (Option (List ℕ))
  pub last : Option (List ℕ)
  pub is : inputs ≡ front ++ last ∷ []
  pub none : NoEnds front
  pub ends : is_ending last ≡ true

abbrev pub EndsIf : Bool → List (Option (List ℕ)) → Type 0
EndsIf false inputs = NoEnds inputs
EndsIf true inputs = LastEnds inputs

-- ---- one step

pub line_done : (w : World) (line : List ℕ) (r : Reply) → w.done ≡ false → (after_input w (Some line) r).done ≡ is_ended r
line_done w line reply.Ended going = refl
line_done w line reply.Done going = going
line_done w line _ going = going

input_done : (w : World) (input : Option (List ℕ)) → w.done ≡ false → (after w (event.Input input)).done ≡ is_ending input
input_done w None going = refl
input_done w (Some line) going = line_done w line (line_reply w.state w.options.goals line) going ∙ line_ends w.state w.options.goals line

-- an event is enabled before the input has ended alone
pub enabled_going : (w : World) (e : Event) → is_enabled w e ≡ true → Goes w → w.done ≡ false
enabled_going w (event.Opened o) enabled goes = absurd (cc)
enabled_going w (event.Input line) enabled goes = not-true w.done (and_second w.closed (not w.done) enabled)
enabled_going w (event.Fix k m) enabled goes = goes (not-true w.closed (and_first (not w.closed) _ enabled))
enabled_going w event.Rest enabled goes = goes (not-true w.closed (and_first (not w.closed) _ enabled))
enabled_going w (event.Commit h) enabled goes = goes (not-true w.closed enabled)
enabled_going w event.Dispatch enabled goes = goes (not-true w.closed (and_first (not w.closed) _ enabled))
enabled_going w event.Close enabled goes = goes (not-true w.closed (and_first (not w.closed) _ enabled))

-- ---- a whole log

pub legal_behind : (w : World) (xs ys : List Entry) → legal_from w (xs ++ ys) → legal_from (world_from w xs) ys
legal_behind w [] ys legal = legal
legal_behind w (x ∷ xs) ys legal = legal_behind (after w x.event) xs ys legal.1

opened_behind : (m : Model) (o : Option Options) (answer : Reply) (es ys : List Entry) → IsOpenedRun m o answer (es ++ ys) → legal_from (world_from (fresh_world m (unwrap_or o no_options)) es) ys
opened_behind m None answer es ys run = absurd run
opened_behind m (Some o) answer es ys run = legal_behind (fresh_world m o) es ys run.steps

-- what stands behind a log is legal in the world after it
pub steps_behind : (m : Model) (log ys : List Entry) → Legal m log → Legal m (log ++ ys) → legal_from (world_of m log) ys
unfolding world_of
steps_behind m [] ys here legal = absurd here
steps_behind m (first ∷ es) ys here legal = opened_behind m (options_in first.event) first.reply es ys legal

pub world_behind : (m : Model) (log ys : List Entry) → Legal m log → world_of m (log ++ ys) ≡ world_from (world_of m log) ys
unfolding world_of
world_behind m [] ys here = absurd here
world_behind m (first ∷ es) ys here = world_append (fresh_world m (unwrap_or (options_in first.event) no_options)) es ys

-- nothing stands behind the end of the input
pub nothing_behind_end : (w : World) (es : List Entry) → legal_from w es → Goes w → w.done ≡ true → es ≡ []
nothing_behind_end w [] legal goes done = refl
nothing_behind_end w (e ∷ es) legal goes done = absurd (let both : true ≡ false = sym done ∙ enabled_going w e.event legal.0.enabled goes in cc)

ends_cons : (b : Bool) (i : Option (List ℕ)) (inputs : List (Option (List ℕ))) → is_ending i ≡ false → EndsIf b inputs → EndsIf b (i ∷ inputs)
ends_cons false i inputs other ends = (other, ends)
ends_cons true i inputs other ends = record {
  front = i ∷ ends.front;
  last = ends.last;
  is = ap (λ (is : List (Option (List ℕ))). i ∷ is) ends.is;
  none = (other, ends.none);
  ends = ends.ends;
}

-- the inputs of an entry and those behind it, where the input had not ended behind it
ends_on : (b : Bool) (w : World) (v : Event) (r : Reply) (es : List Entry) → w.done ≡ false → is_enabled w v ≡ true → (after w v).done ≡ false → EndsIf b (inputs_of es) → EndsIf b (inputs_of (record { event = v; reply = r } ∷ es))
ends_on b w (event.Opened o) r es going enabled on ends = ends
ends_on b w (event.Input line) r es going enabled on ends = ends_cons b line (inputs_of es) (sym (input_done w line going) ∙ on) ends
ends_on b w (event.Fix k m) r es going enabled on ends = ends
ends_on b w event.Rest r es going enabled on ends = ends
ends_on b w (event.Commit h) r es going enabled on ends = ends
ends_on b w event.Dispatch r es going enabled on ends = ends
ends_on b w event.Close r es going enabled on ends = ends

-- the input of the entry that ends the input
ends_here : (w : World) (v : Event) (r : Reply) → w.done ≡ false → is_enabled w v ≡ true → (after w v).done ≡ true → LastEnds (inputs_of (record { event = v; reply = r } ∷ []))
ends_here w (event.Opened o) r going enabled done = absurd (cc)
ends_here w (event.Input line) r going enabled done = record { front = []; last = line; is = refl; none = tt; ends = sym (input_done w line going) ∙ done }
ends_here w (event.Fix k m) r going enabled done = absurd (let both : true ≡ false = sym done ∙ (fix_done w m (reply_of w (event.Fix k m)) ∙ going) in cc)
ends_here w event.Rest r going enabled done = absurd (let both : true ≡ false = sym done ∙ going in cc)
ends_here w (event.Commit h) r going enabled done = absurd (let both : true ≡ false = sym done ∙ (commit_done w h (reply_of w (event.Commit h)) ∙ going) in cc)
ends_here w event.Dispatch r going enabled done = absurd (let both : true ≡ false = sym done ∙ (dispatch_done w (reply_of w event.Dispatch) ∙ going) in cc)
ends_here w event.Close r going enabled done = absurd (let both : true ≡ false = sym done ∙ going in cc)

ends_at : (b : Bool) (inputs : List (Option (List ℕ))) → b ≡ true → LastEnds inputs → EndsIf b inputs
ends_at true inputs e ends = ends
ends_at false inputs e ends = absurd (cc)

none_at : (b : Bool) → b ≡ false → EndsIf b []
none_at true e = absurd (cc)
none_at false e = tt

-- the entry that ends the input is the last
ends_last : (w : World) (v : Event) (r : Reply) (es : List Entry) → w.done ≡ false → is_enabled w v ≡ true → es ≡ [] → (after w v).done ≡ true → EndsIf (world_from (after w v) es).done (inputs_of (record { event = v; reply = r } ∷ es))
ends_last w v r [] going enabled none done = ends_at (after w v).done (inputs_of (record { event = v; reply = r } ∷ [])) done (ends_here w v r going enabled done)
ends_last w v r (x ∷ xs) going enabled none done = absurd (cc)

ends_by : (b : Bool) (w : World) (v : Event) (r : Reply) (es : List Entry) → (after w v).done ≡ b → w.done ≡ false → is_enabled w v ≡ true → legal_from (after w v) es → Goes (after w v)
    → ((after w v).done ≡ false → EndsIf (world_from (after w v) es).done (inputs_of es)) → EndsIf (world_from (after w v) es).done (inputs_of (record { event = v; reply = r } ∷ es))
ends_by false w v r es on going enabled legal goes next = ends_on (world_from (after w v) es).done w v r es going enabled on (next on)
ends_by true w v r es done going enabled legal goes next = ends_last w v r es going enabled (nothing_behind_end (after w v) es legal goes done) done

-- the last input ends the run exactly where the input has ended, and no other does
pub run_ends : (w : World) (es : List Entry) → legal_from w es → Goes w → w.done ≡ false → EndsIf (world_from w es).done (inputs_of es)
run_ends w [] legal goes going = none_at w.done going
run_ends w (e ∷ es) legal goes going =
    let goes2 : Goes (after w e.event) = step_goes w e.event legal.0.enabled goes in
    ends_by (after w e.event).done w e.event e.reply es refl going legal.0.enabled legal.1 goes2 (λ on. run_ends (after w e.event) es legal.1 goes2 on)
