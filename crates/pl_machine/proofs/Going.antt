-- An open round is not done: the input ends only between rounds.
use Rattle.std.proofs.Common.{◌≡◌, ℕ, List, [], ◌∷◌, Bool, true, false, Option, Some, None, unwrap_or, refl, sym, ◌∙◌, subst}
use Rattle.std.specs.Prelude.{not}
use Rattle.std.proofs.lemmas.Bool.{not-true}
use Rattle.pl_lists.proofs.Tests.{and_first, and_second}
use Rattle.pl_facts.specs.declared.options.Options.{Options}
use Rattle.pl_plan.specs.declared.repair.RepairMove.{RepairMove}
use Rattle.pl_entry.specs.declared.event.Event.{Event}
use Rattle.pl_entry.specs.declared.event.Event.TheVariants as event
use Rattle.pl_entry.specs.declared.reply.Reply.{Reply}
use Rattle.pl_entry.specs.declared.reply.Reply.TheVariants as reply
use Rattle.pl_entry.specs.declared.entry.Entry.{Entry}
use Rattle.pl_model.specs.declared.whole.Model.{Model}
use Rattle.pl_machine.specs.declared.ahead.Ahead.{Ahead}
use Rattle.pl_machine.specs.declared.id_range.IdRange.{IdRange}
use Rattle.pl_machine.specs.World.{World, fresh_world}
use Rattle.pl_machine.specs.Step.{is_enabled, reply_of, after_input, after_fix, after_commit, after_dispatch, after}
use Rattle.pl_machine.specs.Sound.{IsSound}
use Rattle.pl_machine.specs.Legal.{legal_from, world_from, options_in, IsOpenedRun, Legal, no_options, world_of}

abbrev pub Goes : World → Type 0
Goes w = w.closed ≡ false → w.done ≡ false

input_goes : (w : World) (line : Option (List ℕ)) (r : Reply) → w.closed ≡ true → w.done ≡ false → Goes (after_input w line r)
input_goes w line reply.Ended closed going begun = absurd (let both : true ≡ false = sym closed ∙ begun in cc)
input_goes w None _ closed going begun = going
input_goes w (Some line) reply.Done closed going begun = going
input_goes w (Some line) _ closed going begun = going

pub fix_done : (w : World) (m : RepairMove) (r : Reply) → (after_fix w m r).done ≡ w.done
fix_done w m reply.Done = refl
fix_done w m _ = refl

pub commit_done : (w : World) (h : ℕ) (r : Reply) → (after_commit w h r).done ≡ w.done
commit_done w h reply.Done = refl
commit_done w h (reply.Held k) = refl
commit_done w h _ = refl

pub dispatch_done : (w : World) (r : Reply) → (after_dispatch w r).done ≡ w.done
dispatch_done w (reply.Sent id kind start values) = refl
dispatch_done w _ = refl

pub step_goes : (w : World) (e : Event) → is_enabled w e ≡ true → Goes w → Goes (after w e)
step_goes w (event.Opened o) enabled goes begun = absurd (cc)
step_goes w (event.Input line) enabled goes begun =
    input_goes w line (reply_of w (event.Input line)) (and_first w.closed (not w.done) enabled) (not-true w.done (and_second w.closed (not w.done) enabled)) begun
step_goes w (event.Fix k m) enabled goes begun = fix_done w m (reply_of w (event.Fix k m)) ∙ goes (not-true w.closed (and_first (not w.closed) _ enabled))
step_goes w event.Rest enabled goes begun = goes (not-true w.closed (and_first (not w.closed) _ enabled))
step_goes w (event.Commit h) enabled goes begun = commit_done w h (reply_of w (event.Commit h)) ∙ goes (not-true w.closed enabled)
step_goes w event.Dispatch enabled goes begun = dispatch_done w (reply_of w event.Dispatch) ∙ goes (not-true w.closed (and_first (not w.closed) _ enabled))
step_goes w event.Close enabled goes begun = goes (not-true w.closed (and_first (not w.closed) _ enabled))

pub run_goes : (w : World) (es : List Entry) → legal_from w es → Goes w → Goes (world_from w es)
run_goes w [] legal goes = goes
run_goes w (e ∷ es) legal goes = run_goes (after w e.event) es legal.1 (step_goes w e.event legal.0.enabled goes)

opened_goes : (m : Model) (o : Option Options) (answer : Reply) (es : List Entry) → IsOpenedRun m o answer es → Goes (world_from (fresh_world m (unwrap_or o no_options)) es)
opened_goes m None answer es run = absurd run
opened_goes m (Some o) answer es run = run_goes (fresh_world m o) es run.steps (λ begun. refl)

pub world_goes : (m : Model) (log : List Entry) → Legal m log → Goes (world_of m log)
unfolding world_of
world_goes m [] legal = absurd legal
world_goes m (first ∷ es) legal = opened_goes m (options_in first.event) first.reply es legal

-- also where memory was wanting: the plan state is no part of it
pub sound_goes : {spoiled : Bool} {m : Model} {log : List Entry} {w : World} {due : List ℕ} {sent : ℕ} {ahead : Ahead} {ranges : List IdRange} → IsSound spoiled m log w due sent ahead ranges → w.closed ≡ false → w.done ≡ false
sound_goes {spoiled} {m} {log} {w} sound = subst Goes (sym sound.others) (world_goes m log sound.legal)
