-- The starts of commands never fall: of what is due, each later one starts later, and what was sent stays so.
use Rattle.std.proofs.Common.{◌≡◌, ℕ, zero, suc, ◌+◌, ◌<◌, ◌≤◌, min, List, [], ◌∷◌, ◌++◌, length, true, Option, Some, None, All, AllPairs, Contains, refl, sym, ◌∙◌, ap, subst, arith, append-nil, inl, inr, ◌⊎◌}
use Rattle.std.specs.List.{cons_option}
use Rattle.std.proofs.lemmas.List.Elements.{All-nil, All-cons, All-contains, Contains-append_left, Contains-append_right}
use Rattle.std.proofs.lemmas.List.Kept.{AllPairs-cons}
use Rattle.pl_model.specs.declared.whole.Model.{Model}
use Rattle.pl_model.specs.Checked.{IsChecked}
use Rattle.pl_facts.specs.declared.options.Options.{Options}
use Rattle.pl_plan.specs.declared.activity.Activity.{Activity}
use Rattle.pl_msg.specs.declared.message.Message.{Message}
use Rattle.pl_entry.specs.declared.event.Event.{Event}
use Rattle.pl_entry.specs.declared.event.Event.TheVariants as event
use Rattle.pl_entry.specs.declared.reply.Reply.{Reply}
use Rattle.pl_entry.specs.declared.reply.Reply.TheVariants as reply
use Rattle.pl_entry.specs.declared.entry.Entry.{Entry}
use Rattle.pl_entry.specs.Bounds.{IsInputReply, IsLineReply, IsFixReply, IsRestReply, IsCommitReply, IsReplyTo}
use Rattle.pl_entry.specs.Due.{StartsBefore}
use Rattle.pl_entry.proofs.DueLaws.{due_meets, all_behind, pairs_behind, contains_first}
use Rattle.pl_entry.proofs.Growth.{starts_rise}
use Rattle.pl_semantics.specs.PlanStates.{found}
use Rattle.pl_semantics.specs.Whole.{IsWhole}
use Rattle.pl_machine.specs.World.{World, fresh_world}
use Rattle.pl_machine.specs.Step.{sent_reply, is_enabled, reply_of, after_dispatch, after}
use Rattle.pl_machine.specs.Legal.{MayFollow, legal_from, options_in, IsOpenedRun}
use Rattle.pl_laws.specs.Laws.{start_sent, starts_of, StartsNeverFall}
use Rattle.pl_laws.specs.Accepted.{ends_told}
use Rattle.pl_laws.specs.Standing.{ended_at}
use Rattle.pl_laws.proofs.Accepting.{same_start}
use Rattle.pl_laws.proofs.Changing.{Kept}
use Rattle.pl_laws.proofs.Running.{NextSent, next_of, after_sent, input_sent, fix_sent, commit_sent, Stands, kept_of, stands_after, stands_first}

-- ---- lists

pair_at : (R : ℕ → ℕ → Type 0) (xs ys : List ℕ) (x y : ℕ) → AllPairs R (xs ++ y ∷ ys) → Contains xs x → R x y
pair_at R [] ys x y pairs (k, lt, is) = absurd (omega (arith, lt))
pair_at R (z ∷ xs) ys x y pairs (zero, lt, is) =
    let among : Contains (xs ++ y ∷ ys) y = Contains-append_right xs (y ∷ ys) y (contains_first ys y) in
    subst (λ (n : ℕ). R n y) is (All-contains (R z) (xs ++ y ∷ ys) y (all_behind R z (xs ++ y ∷ ys) pairs) among)
pair_at R (z ∷ xs) ys x y pairs (suc k, lt, is) = pair_at R xs ys x y (pairs_behind R z (xs ++ y ∷ ys) pairs) (k, omega (arith, lt), is)

-- ---- an activity whose command was sent

-- The activity of this id has this start, has begun and is committed. Its end may be measured later: the id and the start stay.
record WasSent (w : World) (id start : ℕ) : Type 0 where
  a : Activity
  here : found w.state id ≡ Some a
  starts : a.start ≡ start
  begun : start < min w.state.committed (w.state.moment + 1)
  sent : Contains w.dispatched id

dispatch_more : (w : World) (r : Reply) → (more : List ℕ) × ((after_dispatch w r).dispatched ≡ w.dispatched ++ more)
dispatch_more w (reply.Sent id kind start values) = (id ∷ [], refl)
dispatch_more w _ = ([], sym (append-nil w.dispatched))

same_more : (xs ys : List ℕ) → ys ≡ xs → (more : List ℕ) × (ys ≡ xs ++ more)
same_more xs ys e = ([], e ∙ sym (append-nil xs))

more_sent : (w : World) (e : Event) → (more : List ℕ) × ((after w e).dispatched ≡ w.dispatched ++ more)
more_sent w (event.Opened o) = same_more w.dispatched w.dispatched refl
more_sent w (event.Input line) = same_more w.dispatched (after w (event.Input line)).dispatched (input_sent w line (reply_of w (event.Input line)))
more_sent w (event.Fix k m) = same_more w.dispatched (after w (event.Fix k m)).dispatched (fix_sent w m (reply_of w (event.Fix k m)))
more_sent w event.Rest = same_more w.dispatched w.dispatched refl
more_sent w (event.Commit h) = same_more w.dispatched (after w (event.Commit h)).dispatched (commit_sent w h (reply_of w (event.Commit h)))
more_sent w event.Dispatch = dispatch_more w (reply_of w event.Dispatch)
more_sent w event.Close = same_more w.dispatched w.dispatched refl

-- an activity that has begun stands after an event, and has begun
still_begun : {ms : List Message} (w w2 : World) (id start : ℕ) (a : Activity) → Kept ms w.state w2.state → found w.state id ≡ Some a → a.start ≡ start → start < min w.state.committed (w.state.moment + 1) → Contains w2.dispatched id → WasSent w2 id start
still_begun {ms} w w2 id start a kept here starts begun sent =
    let most : min w.state.committed (w.state.moment + 1) ≤ w2.state.committed = kept.begun.committed in
    let later : w.state.moment ≤ w2.state.moment = kept.moment in
    record {
      a = ended_at (ends_told id ms) a;
      here = kept.begun.stands id a here (omega (arith, starts, begun));
      starts = same_start (ends_told id ms) a ∙ starts;
      begun = omega (arith, begun, most, later);
      sent = sent;
    }

still_sent : {ms : List Message} (w : World) (e : Event) (id start : ℕ) → Kept ms w.state (after w e).state → WasSent w id start → WasSent (after w e) id start
still_sent {ms} w e id start kept was =
    let more = more_sent w e in
    still_begun w (after w e) id start was.a kept was.here was.starts was.begun (subst (λ (xs : List ℕ). Contains xs id) (sym more.1) (Contains-append_left w.dispatched more.0 id was.sent))

-- ---- an entry that sends a command

record Sends (w : World) (happened : Event) (answer : Reply) : Type 0 where
  next : NextSent w
  start : start_sent answer ≡ Some next.a.start
  sent : (after w happened).dispatched ≡ w.dispatched ++ next.a.id ∷ []

not_input : (r : Reply) → IsInputReply r → start_sent r ≡ None
not_input (reply.Sent id kind start values) is = absurd is
not_input _ is = refl

not_line : (line : Option (List ℕ)) (r : Reply) → IsLineReply line r → start_sent r ≡ None
not_line None r is = ap start_sent is
not_line (Some line) r is = not_input r is

not_fix : (r : Reply) → IsFixReply r → start_sent r ≡ None
not_fix (reply.Sent id kind start values) is = absurd is
not_fix _ is = refl

not_rest : (r : Reply) → IsRestReply r → start_sent r ≡ None
not_rest (reply.Sent id kind start values) is = absurd is
not_rest _ is = refl

not_commit : (r : Reply) → IsCommitReply r → start_sent r ≡ None
not_commit (reply.Sent id kind start values) is = absurd is
not_commit _ is = refl

sends_if : (w : World) (e : Event) (r : Reply) → IsWhole w.state → ((d : is_enabled w event.Dispatch ≡ true) → NextSent w) → is_enabled w e ≡ true → IsReplyTo w.state.model e r → r ≡ reply_of w e → (start_sent r ≡ None) ⊎ Sends w e r
sends_if w (event.Opened o) r whole next enabled replies answers = absurd (cc)
sends_if w (event.Input line) r whole next enabled replies answers = inl (not_line line r replies)
sends_if w (event.Fix k m) r whole next enabled replies answers = inl (not_fix r replies)
sends_if w event.Rest r whole next enabled replies answers = inl (not_rest r replies)
sends_if w (event.Commit h) r whole next enabled replies answers = inl (not_commit r replies)
sends_if w event.Dispatch r whole next enabled replies answers =
    let n : NextSent w = next enabled in
    inr (record {
      next = n;
      start = ap start_sent (answers ∙ ap (λ (o : Option Activity). sent_reply w.state o) n.next);
      sent = ap (λ (v : World). v.dispatched) (after_sent w n);
    })
sends_if w event.Close r whole next enabled replies answers = inl (ap start_sent replies)

sends : {m : Model} {count : ℕ} {w : World} (e : Entry) → Stands m count w → MayFollow w e → (start_sent e.reply ≡ None) ⊎ Sends w e.event e.reply
sends {m} {count} {w} e stands follows = sends_if w e.event e.reply stands.whole (next_of w stands.whole stands.sent) follows.enabled follows.reply follows.answers

-- it starts no earlier than one that was sent
no_earlier : {m : Model} {count : ℕ} {w : World} (id start : ℕ) → Stands m count w → WasSent w id start → (n : NextSent w) → start ≤ n.a.start
no_earlier {m} {count} {w} id start stands was n =
    let Before : ℕ → ℕ → Type 0 = λ x y. (a b : Activity) → found w.state x ≡ Some a → found w.state y ≡ Some b → StartsBefore a b in
    let due = due_meets w.state.model w.state.plan.activities stands.whole.rising w.state.moment w.state.committed in
    let pairs : AllPairs Before (w.dispatched ++ n.a.id ∷ n.rest) = subst (λ (xs : List ℕ). AllPairs Before xs) n.due due.order in
    let rises : was.a.start ≤ n.a.start = starts_rise was.a n.a (pair_at Before w.dispatched n.rest id n.a.id pairs was.sent was.a n.a was.here n.here) in
    let same : was.a.start ≡ start = was.starts in
    omega (arith, rises, same)

-- ---- a log that goes on

later_starts : {m : Model} (count : ℕ) (w : World) (es : List Entry) (id start : ℕ) → Stands m count w → count + length es ≤ 250000 → WasSent w id start → legal_from w es → All (λ t. start ≤ t) (starts_of es)
later_starts {m} count w [] id start stands most was legal = All-nil (λ (t : ℕ). start ≤ t)
later_starts {m} count w (e ∷ es) id start stands most was legal =
    let fits : count ≤ 250000 = omega (arith, most) in
    by (later_starts (count + 1) (after w e.event) es id start (stands_after e.event stands fits legal.0.enabled) (omega (arith, most)) (still_sent w e.event id start (kept_of e.event stands fits) was) legal.1) (sends e stands legal.0)
  where
    by : All (λ t. start ≤ t) (starts_of es) → (start_sent e.reply ≡ None) ⊎ Sends w e.event e.reply → All (λ t. start ≤ t) (cons_option (start_sent e.reply) (starts_of es))
    by rest (inl none) = subst (λ (o : Option ℕ). All (λ t. start ≤ t) (cons_option o (starts_of es))) (sym none) rest
    by rest (inr s) = subst (λ (o : Option ℕ). All (λ t. start ≤ t) (cons_option o (starts_of es))) (sym s.start) (All-cons (λ (t : ℕ). start ≤ t) s.next.a.start (starts_of es) (no_earlier id start stands was s.next) rest)

abbrev Rising : List ℕ → Type 0
Rising ts = AllPairs (λ (earlier later : ℕ). earlier ≤ later) ts

none_rise : Rising []
none_rise i j d lt in_range = absurd (omega (arith, in_range))

starts_rising : {m : Model} (count : ℕ) (w : World) (es : List Entry) → Stands m count w → count + length es ≤ 250000 → legal_from w es → Rising (starts_of es)
starts_rising {m} count w [] stands most legal = none_rise
starts_rising {m} count w (e ∷ es) stands most legal =
    let fits : count ≤ 250000 = omega (arith, most) in
    let next : Stands m (count + 1) (after w e.event) = stands_after e.event stands fits legal.0.enabled in
    by (kept_of e.event stands fits) next (starts_rising (count + 1) (after w e.event) es next (omega (arith, most)) legal.1) (sends e stands legal.0)
  where
    was : {ms : List Message} (s : Sends w e.event e.reply) → Kept ms w.state (after w e.event).state → WasSent (after w e.event) s.next.a.id s.next.a.start
    was {ms} s kept =
        still_begun w (after w e.event) s.next.a.id s.next.a.start s.next.a kept s.next.here refl s.next.begun
        (subst (λ (xs : List ℕ). Contains xs s.next.a.id) (sym s.sent) (Contains-append_right w.dispatched (s.next.a.id ∷ []) s.next.a.id (contains_first [] s.next.a.id)))

    by : {ms : List Message} → Kept ms w.state (after w e.event).state → Stands m (count + 1) (after w e.event) → Rising (starts_of es) → (start_sent e.reply ≡ None) ⊎ Sends w e.event e.reply → Rising (cons_option (start_sent e.reply) (starts_of es))
    by {ms} kept next rest (inl none) = subst (λ (o : Option ℕ). Rising (cons_option o (starts_of es))) (sym none) rest
    by {ms} kept next rest (inr s) = subst (λ (o : Option ℕ). Rising (cons_option o (starts_of es))) (sym s.start)
        (AllPairs-cons (λ (earlier later : ℕ). earlier ≤ later) s.next.a.start (starts_of es) (later_starts (count + 1) (after w e.event) es s.next.a.id s.next.a.start next (omega (arith, most)) (was s kept) legal.1) rest)

opened_rising : (m : Model) (o : Option Options) (answer : Reply) (es : List Entry) → IsChecked m → IsOpenedRun m o answer es → Rising (cons_option (start_sent answer) (starts_of es))
opened_rising m None answer es checked run = absurd run
opened_rising m (Some o) answer es checked run =
    let most : o.entries ≤ 250000 = run.options.entries.1 in
    let bounded : length es + 1 ≤ o.entries = run.bounded in
    subst (λ (r : Reply). Rising (cons_option (start_sent r) (starts_of es))) (sym run.answers) (starts_rising 1 (fresh_world m o) es (stands_first m o checked run.options) (omega (arith, bounded, most)) run.steps)

pub never_fall : (m : Model) → IsChecked m → StartsNeverFall m
never_fall m checked [] legal = none_rise
never_fall m checked (first ∷ es) legal = opened_rising m (options_in first.event) first.reply es checked legal
