-- What stands of every world of a legal log.
use Rattle.std.proofs.Common.{◌≡◌, ℕ, suc, ◌+◌, ◌*◌, ◌<◌, ◌≤◌, min, List, [], ◌∷◌, ◌++◌, length, true, Option, Some, None, nat_lt, slice_get, Contains, refl, sym, ◌∙◌, ap, subst, arith, append_assoc, append-nil}
use Rattle.std.specs.Prelude.{not, option_and_then, unwrap_or}
use Rattle.std.proofs.lemmas.Bool.{ltb-true}
use Rattle.std.proofs.lemmas.List.Elements.{Contains-get_or}
use Rattle.std.proofs.lemmas.Option.{slice_get_within, get_or_from_slice_get}
use Rattle.pl_lists.proofs.Tests.{and_second}
use Rattle.pl_model.specs.declared.whole.Model.{Model}
use Rattle.pl_model.specs.Checked.{IsChecked}
use Rattle.pl_facts.specs.declared.options.Options.{Options}
use Rattle.pl_plan.specs.declared.activity.Activity.{Activity}
use Rattle.pl_plan.specs.Fitting.{FitsAlone}
use Rattle.pl_plan.proofs.Climbs.{all_at}
use Rattle.pl_plan.specs.declared.repair.RepairMove.{RepairMove}
use Rattle.pl_msg.specs.declared.message.Message.{Message}
use Rattle.pl_entry.specs.declared.event.Event.{Event}
use Rattle.pl_entry.specs.declared.event.Event.TheVariants as event
use Rattle.pl_entry.specs.declared.reply.Reply.{Reply}
use Rattle.pl_entry.specs.declared.reply.Reply.TheVariants as reply
use Rattle.pl_entry.specs.declared.entry.Entry.{Entry}
use Rattle.pl_entry.specs.Bounds.{AreOptions}
use Rattle.pl_entry.specs.Due.{due_of}
use Rattle.pl_entry.proofs.DueLaws.{due_meets}
use Rattle.pl_semantics.specs.PlanStates.{found}
use Rattle.pl_semantics.specs.Whole.{IsWhole}
use Rattle.pl_update.proofs.AboutChanges.Keeping.{whole_first}
use Rattle.pl_machine.specs.World.{World, fresh_world, due_in}
use Rattle.pl_machine.specs.Step.{next_due, sent_reply, is_enabled, reply_of, after_input, after_fix, after_commit, after_dispatch, after}
use Rattle.pl_machine.specs.Legal.{legal_from, world_from, options_in, IsOpenedRun, Legal, no_options, world_of}
use Rattle.pl_laws.specs.Standing.{IsFrontOfDue}
use Rattle.pl_laws.proofs.Changing.{Kept, said_by, kept_after}

-- ---- the next command

-- the activity that is next, where something is left
pub record NextSent (w : World) : Type 0 where
  pub a : Activity
  pub rest : List ℕ
  pub due : due_in w.state ≡ w.dispatched ++ a.id ∷ rest
  pub here : found w.state a.id ≡ Some a
  pub begun : a.start < min w.state.committed (w.state.moment + 1)
  pub next : next_due w ≡ Some a

at_front : (xs : List ℕ) (x : ℕ) (rest : List ℕ) → slice_get (xs ++ x ∷ rest) (length xs) ≡ Some x
at_front [] x rest = refl
at_front (y ∷ xs) x rest = at_front xs x rest

pub next_sent : (w : World) → IsWhole w.state → IsFrontOfDue w → nat_lt (length w.dispatched) (length (due_in w.state)) ≡ true → NextSent w
next_sent w whole (rest, is) left = by rest is
  where
    by : (rest : List ℕ) → due_in w.state ≡ w.dispatched ++ rest → NextSent w
    by [] is =
        let less = ltb-true (length w.dispatched) (length (due_in w.state)) left in
        let same : length (due_in w.state) ≡ length w.dispatched = ap length (is ∙ append-nil w.dispatched) in
        absurd (omega (arith, less, same))
    by (x ∷ rest) is =
        let at : slice_get (due_in w.state) (length w.dispatched) ≡ Some x = ap (λ (xs : List ℕ). slice_get xs (length w.dispatched)) is ∙ at_front w.dispatched x rest in
        let lt = slice_get_within (due_in w.state) (length w.dispatched) x at in
        let there : Contains (due_in w.state) x = subst (λ (n : ℕ). Contains (due_in w.state) n) (get_or_from_slice_get (due_in w.state) (length w.dispatched) x x at) (Contains-get_or (due_in w.state) (length w.dispatched) x lt) in
        let live = ((due_meets w.state.model w.state.plan.activities whole.rising w.state.moment w.state.committed).members x).0 there in
        let is_id : live.0.id ≡ x = (all_at (FitsAlone w.state.model) w.state.plan.activities x live.0 whole.fits.each live.1).1 in
        record {
          a = live.0;
          rest = rest;
          due = is ∙ ap (λ (n : ℕ). w.dispatched ++ n ∷ rest) (sym is_id);
          here = subst (λ (n : ℕ). found w.state n ≡ Some live.0) (sym is_id) live.1;
          begun = (let early : live.0.start < w.state.committed = live.2.committed in let started : live.0.start ≤ w.state.moment = live.2.started in omega (arith, early, started));
          next = ap (λ (o : Option ℕ). option_and_then (found w.state) o) at ∙ live.1;
        }

pub after_sent : (w : World) (n : NextSent w) → after w event.Dispatch ≡ record w { dispatched = w.dispatched ++ n.a.id ∷ [] }
after_sent w n = ap (λ (o : Option Activity). after_dispatch w (sent_reply w.state o)) n.next

-- ---- what was sent stays a front of what is due

same_sent : {ms : List Message} (w w2 : World) → IsFrontOfDue w → Kept ms w.state w2.state → w2.dispatched ≡ w.dispatched → IsFrontOfDue w2
same_sent {ms} w w2 (rest, is) kept same = (
  rest ++ kept.standing.due.0,
  kept.standing.due.1 ∙ ap (λ (xs : List ℕ). xs ++ kept.standing.due.0) is ∙ append_assoc w.dispatched rest kept.standing.due.0 ∙ ap (λ (xs : List ℕ). xs ++ (rest ++ kept.standing.due.0)) (sym same),
)

pub input_sent : (w : World) (line : Option (List ℕ)) (r : Reply) → (after_input w line r).dispatched ≡ w.dispatched
input_sent w line reply.Ended = refl
input_sent w None _ = refl
input_sent w (Some line) reply.Done = refl
input_sent w (Some line) _ = refl

pub fix_sent : (w : World) (m : RepairMove) (r : Reply) → (after_fix w m r).dispatched ≡ w.dispatched
fix_sent w m reply.Done = refl
fix_sent w m _ = refl

pub commit_sent : (w : World) (h : ℕ) (r : Reply) → (after_commit w h r).dispatched ≡ w.dispatched
commit_sent w h reply.Done = refl
commit_sent w h (reply.Held k) = refl
commit_sent w h _ = refl

one_longer : (xs : List ℕ) (x : ℕ) (rest : List ℕ) → xs ++ x ∷ rest ≡ (xs ++ x ∷ []) ++ rest
one_longer [] x rest = refl
one_longer (y ∷ xs) x rest = ap (λ (ys : List ℕ). y ∷ ys) (one_longer xs x rest)

pub next_of : (w : World) → IsWhole w.state → IsFrontOfDue w → is_enabled w event.Dispatch ≡ true → NextSent w
next_of w whole sent enabled = next_sent w whole sent (and_second (not w.closed) (nat_lt (length w.dispatched) (length (due_in w.state))) enabled)

sent_after : {ms : List Message} (w : World) (e : Event) → IsWhole w.state → IsFrontOfDue w → Kept ms w.state (after w e).state → is_enabled w e ≡ true → IsFrontOfDue (after w e)
sent_after {ms} w (event.Opened o) whole sent kept enabled = sent
sent_after {ms} w (event.Input line) whole sent kept enabled = same_sent w (after w (event.Input line)) sent kept (input_sent w line (reply_of w (event.Input line)))
sent_after {ms} w (event.Fix k m) whole sent kept enabled = same_sent w (after w (event.Fix k m)) sent kept (fix_sent w m (reply_of w (event.Fix k m)))
sent_after {ms} w event.Rest whole sent kept enabled = sent
sent_after {ms} w (event.Commit h) whole sent kept enabled = same_sent w (after w (event.Commit h)) sent kept (commit_sent w h (reply_of w (event.Commit h)))
sent_after {ms} w event.Dispatch whole sent kept enabled =
    let n = next_of w whole sent enabled in
    subst IsFrontOfDue (sym (after_sent w n)) (n.rest, n.due ∙ one_longer w.dispatched n.a.id n.rest)
sent_after {ms} w event.Close whole sent kept enabled = sent

-- ---- every world

-- after so many entries
pub record Stands (m : Model) (count : ℕ) (w : World) : Type 0 where
  pub model : w.state.model ≡ m
  pub whole : IsWhole w.state
  pub next_id : w.state.next_id ≤ 16 * count
  pub sent : IsFrontOfDue w

pub few_ids : {m : Model} {count : ℕ} {w : World} → Stands m count w → count ≤ 250000 → w.state.next_id ≤ 3999999000
few_ids {m} {count} {w} stands most = let ids : w.state.next_id ≤ 16 * count = stands.next_id in omega (arith, ids, most)

pub kept_of : {m : Model} {count : ℕ} {w : World} (e : Event) → Stands m count w → count ≤ 250000 → Kept (said_by w e (reply_of w e)) w.state (after w e).state
kept_of {m} {count} {w} e stands most = kept_after w e stands.whole (few_ids stands most)

pub stands_after : {m : Model} {count : ℕ} {w : World} (e : Event) → Stands m count w → count ≤ 250000 → is_enabled w e ≡ true → Stands m (count + 1) (after w e)
stands_after {m} {count} {w} e stands most enabled =
    let kept = kept_of e stands most in
    record {
      model = kept.standing.model ∙ stands.model;
      whole = kept.whole;
      next_id = (let ids : w.state.next_id ≤ 16 * count = stands.next_id in let more : (after w e).state.next_id ≤ w.state.next_id + 16 = kept.standing.next_id in omega (arith, ids, more));
      sent = sent_after w e stands.whole stands.sent kept enabled;
    }

pub stands_on : {m : Model} (count : ℕ) (w : World) (es : List Entry) → Stands m count w → count + length es ≤ 250000 → legal_from w es → Stands m (count + length es) (world_from w es)
stands_on {m} count w [] stands most legal = let same : count ≡ count + 0 = omega arith in subst (λ (n : ℕ). Stands m n w) same stands
stands_on {m} count w (e ∷ es) stands most legal =
    let same : count + 1 + length es ≡ count + suc (length es) = omega arith in
    let next : Stands m (count + 1) (after w e.event) = stands_after e.event stands (omega (arith, most)) legal.0.enabled in
    subst (λ (n : ℕ). Stands m n (world_from (after w e.event) es)) same (stands_on (count + 1) (after w e.event) es next (omega (arith, most)) legal.1)

pub stands_first : (m : Model) (o : Options) → IsChecked m → AreOptions o → Stands m 1 (fresh_world m o)
unfolding due_of
stands_first m o checked fit = record {
  model = refl;
  whole = whole_first m o.live checked fit.live.1;
  next_id = omega arith;
  sent = ([], refl);
}

stands_opened : (m : Model) (o : Option Options) (answer : Reply) (es : List Entry) → IsChecked m → IsOpenedRun m o answer es → Stands m (suc (length es)) (world_from (fresh_world m (unwrap_or o no_options)) es)
stands_opened m None answer es checked run = absurd run
stands_opened m (Some o) answer es checked run =
    let most : o.entries ≤ 250000 = run.options.entries.1 in
    let bounded : length es + 1 ≤ o.entries = run.bounded in
    let same : 1 + length es ≡ suc (length es) = omega arith in
    subst (λ (n : ℕ). Stands m n (world_from (fresh_world m o) es)) same (stands_on 1 (fresh_world m o) es (stands_first m o checked run.options) (omega (arith, bounded, most)) run.steps)

pub stands_of : (m : Model) (log : List Entry) → IsChecked m → Legal m log → Stands m (length log) (world_of m log)
unfolding world_of
stands_of m [] checked legal = absurd legal
stands_of m (first ∷ es) checked legal = stands_opened m (options_in first.event) first.reply es checked legal
