-- The laws that hold of each step by itself, of the world before an entry and the world after it.
use Rattle.std.proofs.Common.{◌≡◌, ◌↔◌, ◌≤◌, [], ◌∷◌, not, nat_le, Some, Ok, sym, ◌∙◌, ap, subst}
use lib.Pointwise.{bytes_decides}
use Rattle.pl_lists.proofs.Tests.{and_third}
use Rattle.pl_model.specs.declared.whole.Model.{Model}
use Rattle.pl_msg.specs.declared.message.Message.TheVariants as message
use Rattle.pl_msg.specs.Messages.{message_of}
use Rattle.pl_entry.specs.declared.event.Event.TheVariants as event
use Rattle.pl_entry.specs.declared.reply.Reply.{Reply}
use Rattle.pl_entry.specs.declared.reply.Reply.TheVariants as reply
use Rattle.pl_semantics.specs.Conflicts.{conflicts_of}
use Rattle.pl_semantics.specs.Grants.{IsGrantable}
use Rattle.pl_update.specs.Changes.Changes.{committed_to}
use Rattle.pl_machine.specs.World.{World, due_in}
use Rattle.pl_machine.specs.Step.{all_sent, best_in, behind_of, commit_reply, reply_of, after_input, after_commit}
use Rattle.pl_machine.specs.Messages.{read_reply, line_reply, told_by, told_line}
use Rattle.pl_machine.specs.Legal.{world_of}
use Rattle.pl_machine.proofs.Granting.{grants}
use Rattle.pl_laws.specs.Laws.{FrontsAreLegal, CommitsNeverFall, HaltsWithdraw, CommitsAreGranted, GrantsChangeNoConflict, AllIsSentAtClose, with_entry}
use Rattle.pl_laws.proofs.Fronts.{goes_on, last_entry}
use Rattle.pl_laws.proofs.Lasting.{lasts_on, same_model}
use Rattle.pl_machine.proofs.Granted.{granted_same}

pub fronts : (m : Model) → FrontsAreLegal m
fronts m first es more legal = (goes_on m first es more legal).front

pub never_less : (m : Model) → CommitsNeverFall m
never_less m [] more front legal none = absurd front
never_less m (first ∷ es) more front legal none =
    let on = goes_on m first es more legal in
    let w = world_of m (first ∷ es) in
    subst (λ (v : World). w.state.committed ≤ v.state.committed) (sym on.world) (lasts_on m w more (same_model m (first ∷ es)) on.rest none)

-- what is read of the line is settled by the model
pub halts_withdraw : (m : Model) → HaltsWithdraw m
unfolding line_reply told_line
halts_withdraw m log line answer is legal =
    let last = last_entry m log (event.Input (Some line)) answer (λ begun. begun) legal in
    let w = world_of m log in
    let read : message_of w.state.model line ≡ Ok message.Halt = ap (λ (model : Model). message_of model line) (same_model m log) ∙ is in
    let answers : answer ≡ reply.Done = last.follows.answers ∙ ap (read_reply w.state w.options.goals) read in
    let done : reply_of w (event.Input (Some line)) ≡ reply.Done = ap (read_reply w.state w.options.goals) read in
    (answers, ap (λ (v : World). v.state) last.leaves ∙ ap (λ (r : Reply). (after_input w (Some line) r).state) done ∙ ap (told_by w.state) read)

pub sent_at_close : (m : Model) → AllIsSentAtClose m
sent_at_close m log answer legal =
    let last = last_entry m log event.Close answer (λ begun. begun) legal in
    let w = world_of m log in
    let all : w.dispatched ≡ due_in w.state = (bytes_decides w.dispatched (due_in w.state)).0 (and_third (not w.closed) w.rested (all_sent w) (nat_le (best_in w) (behind_of w.state)) last.follows.enabled) in
    subst (λ (v : World). v.dispatched ≡ due_in v.state) (sym last.leaves) all

pub granted_exactly : (m : Model) → CommitsAreGranted m
granted_exactly m log h answer legal =
    let last = last_entry m log (event.Commit h) answer (λ begun. begun) legal in
    let s = (world_of m log).state in
    subst (λ (r : Reply). (r ≡ reply.Done) ↔ IsGrantable s h) (sym last.follows.answers) (grants s h)

pub grants_same : (m : Model) → GrantsChangeNoConflict m
grants_same m log h legal =
    let last = last_entry m log (event.Commit h) reply.Done (λ begun. begun) legal in
    let w = world_of m log in
    let done : commit_reply w.state h ≡ reply.Done = sym last.follows.answers in
    let state : (world_of m (with_entry log (event.Commit h) reply.Done)).state ≡ committed_to h w.state = ap (λ (v : World). v.state) last.leaves ∙ ap (λ (r : Reply). (after_commit w h r).state) done in
    ap conflicts_of state ∙ granted_same w.state h ((grants w.state h).0 done)
