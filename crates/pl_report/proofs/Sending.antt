-- The commands of a log are those that its world has sent.
use Rattle.std.proofs.Common.{◌≡◌, ℕ, List, [], ◌∷◌, ◌++◌, Option, Some, None, unwrap_or, append_assoc, refl, sym, ap, ◌∙◌}
use Rattle.std.proofs.lemmas.List.{append-nil}
use Rattle.pl_model.specs.declared.whole.Model.{Model}
use Rattle.pl_plan.specs.declared.repair.RepairMove.{RepairMove}
use Rattle.pl_entry.specs.declared.event.Event.{Event}
use Rattle.pl_entry.specs.declared.event.Event.TheVariants as event
use Rattle.pl_entry.specs.declared.reply.Reply.{Reply}
use Rattle.pl_entry.specs.declared.reply.Reply.TheVariants as reply
use Rattle.pl_entry.specs.declared.entry.Entry.{Entry}
use Rattle.pl_machine.specs.World.{World, fresh_world}
use Rattle.pl_machine.specs.Step.{reply_of, after, after_input, after_fix, after_commit, after_dispatch}
use Rattle.pl_machine.specs.Legal.{Legal, legal_from, world_from, world_of, IsOpenedRun, options_in, no_options}
use Rattle.pl_report.specs.Sent.{sent_in, sent_by, sent_ids}

input_sends : (w : World) (line : Option (List ℕ)) (r : Reply) → (after_input w line r).dispatched ≡ w.dispatched
input_sends w line reply.Ended = refl
input_sends w None _ = refl
input_sends w (Some line) reply.Done = refl
input_sends w (Some line) _ = refl

fix_sends : (w : World) (m : RepairMove) (r : Reply) → (after_fix w m r).dispatched ≡ w.dispatched
fix_sends w m reply.Done = refl
fix_sends w m _ = refl

commit_sends : (w : World) (h : ℕ) (r : Reply) → (after_commit w h r).dispatched ≡ w.dispatched
commit_sends w h reply.Done = refl
commit_sends w h (reply.Held k) = refl
commit_sends w h _ = refl

dispatch_sends : (w : World) (r : Reply) → (after_dispatch w r).dispatched ≡ w.dispatched ++ sent_in r
dispatch_sends w (reply.Sent id kind start values) = refl
dispatch_sends w _ = sym (append-nil w.dispatched)

none_sent : (xs ys : List ℕ) → xs ≡ ys → xs ≡ ys ++ []
none_sent xs ys e = e ∙ sym (append-nil ys)

sends : (w : World) (e : Event) → (after w e).dispatched ≡ w.dispatched ++ sent_by e (reply_of w e)
sends w (event.Opened o) = none_sent w.dispatched w.dispatched refl
sends w (event.Input line) = none_sent (after w (event.Input line)).dispatched w.dispatched (input_sends w line (reply_of w (event.Input line)))
sends w (event.Fix k m) = none_sent (after w (event.Fix k m)).dispatched w.dispatched (fix_sends w m (reply_of w (event.Fix k m)))
sends w event.Rest = none_sent w.dispatched w.dispatched refl
sends w (event.Commit h) = none_sent (after w (event.Commit h)).dispatched w.dispatched (commit_sends w h (reply_of w (event.Commit h)))
sends w event.Dispatch = dispatch_sends w (reply_of w event.Dispatch)
sends w event.Close = none_sent w.dispatched w.dispatched refl

send_all : (w : World) (es : List Entry) → legal_from w es → (world_from w es).dispatched ≡ w.dispatched ++ sent_ids es
send_all w [] steps = sym (append-nil w.dispatched)
send_all w (e ∷ es) steps =
    send_all (after w e.event) es steps.1
    ∙ ap (λ (xs : List ℕ). xs ++ sent_ids es) (sends w e.event ∙ ap (λ (r : Reply). w.dispatched ++ sent_by e.event r) (sym steps.0.answers))
    ∙ append_assoc w.dispatched (sent_by e.event e.reply) (sent_ids es)

pub log_sends : (m : Model) (log : List Entry) → Legal m log → sent_ids log ≡ (world_of m log).dispatched
unfolding world_of
log_sends m [] legal = absurd legal
log_sends m (first ∷ es) legal = by first.event first.reply legal
  where
    by : (e : Event) (r : Reply) → IsOpenedRun m (options_in e) r es → sent_by e r ++ sent_ids es ≡ (world_from (fresh_world m (unwrap_or (options_in e) no_options)) es).dispatched
    by (event.Opened o) r run = sym (send_all (fresh_world m o) es run.steps)
    by (event.Input line) r run = absurd run
    by (event.Fix k move) r run = absurd run
    by event.Rest r run = absurd run
    by (event.Commit h) r run = absurd run
    by event.Dispatch r run = absurd run
    by event.Close r run = absurd run
