-- How long a log is where each entry takes one of what is left of its round, or sends a command: each command is of another activity.
use Rattle.std.proofs.Common.{◌≡◌, ℕ, suc, ◌+◌, ◌-◌, ◌*◌, ◌≤◌, List, [], ◌∷◌, length, map, filter, Bool, true, false, not, ◌&&◌, Option, Some, None, refl, ◌∙◌, ap, arith, length-append, suc-mul}
use Rattle.std.specs.Prelude.{if◌then◌else◌}
use Rattle.std.specs.declared.cmp.Ordering.{Ordering}
use Rattle.std.specs.declared.cmp.Ordering.TheVariants.{Less, Equal, Greater}
use Rattle.std.specs.Ordering.{match_ordering}
use Rattle.std.specs.BTreeSet.{insert_key}
use Rattle.std.proofs.lemmas.List.{length-map}
use Rattle.pl_model.specs.declared.whole.Model.{Model}
use Rattle.pl_model.specs.Checked.{IsChecked}
use Rattle.pl_facts.specs.declared.options.Options.{Options}
use Rattle.pl_plan.specs.declared.activity.Activity.{Activity}
use Rattle.pl_plan.specs.declared.repair.RepairMove.{RepairMove}
use Rattle.pl_entry.specs.declared.event.Event.{Event}
use Rattle.pl_entry.specs.declared.event.Event.TheVariants as event
use Rattle.pl_entry.specs.declared.reply.Reply.{Reply}
use Rattle.pl_entry.specs.declared.reply.Reply.TheVariants as reply
use Rattle.pl_entry.specs.declared.entry.Entry.{Entry}
use Rattle.pl_entry.specs.Due.{is_due, start_of, start_cmp, with_starts, due_of}
use Rattle.pl_machine.specs.World.{World, fresh_world, due_in}
use Rattle.pl_machine.specs.Step.{is_enabled, reply_of, after_input, after_fix, after_commit, after_dispatch, after}
use Rattle.pl_machine.specs.Legal.{legal_from, world_from, Legal, options_of, entries_behind, world_of, MayFollow}
use Rattle.pl_machine.specs.Finished.{inputs_of}
use Rattle.pl_laws.proofs.Running.{input_sent, stands_of}

-- ---- few commands

length_insert : (k : ℕ × ℕ) (xs : List (ℕ × ℕ)) → length (insert_key start_cmp xs k) ≤ suc (length xs)
length_insert k [] = omega arith
length_insert k (x ∷ xs) = by (start_cmp k x) (length_insert k xs)
  where
    by : (r : Ordering) → length (insert_key start_cmp xs k) ≤ suc (length xs) → length (match_ordering r (k ∷ x ∷ xs) (x ∷ xs) (x ∷ insert_key start_cmp xs k)) ≤ suc (suc (length xs))
    by Less le = omega arith
    by Equal le = omega arith
    by Greater le = omega (arith, le)

length_starts : (sorted more : List (ℕ × ℕ)) → length (with_starts sorted more) ≤ length sorted + length more
length_starts sorted [] = omega arith
length_starts sorted (k ∷ more) =
    let rest = length_starts (insert_key start_cmp sorted k) more in
    let one = length_insert k sorted in
    omega (arith, rest, one)

length_kept : {X : Type 0} (p : X → Bool) (xs : List X) → length (filter p xs) ≤ length xs
length_kept {X} p [] = omega arith
length_kept {X} p (x ∷ xs) = by (p x) (length_kept p xs)
  where
    by : (b : Bool) → length (filter p xs) ≤ length xs → length (if b then x ∷ filter p xs else filter p xs) ≤ suc (length xs)
    by true le = omega (arith, le)
    by false le = omega (arith, le)

few_due : (model : Model) (xs : List Activity) (now c : ℕ) → length (due_of model xs now c) ≤ length xs
unfolding due_of
few_due model xs now c =
    let kept = filter (is_due model now c) xs in
    let starts = with_starts [] (map start_of kept) in
    let one = length-map starts (λ (s : ℕ × ℕ). s.1) in
    let two = length_starts [] (map start_of kept) in
    let three = length-map kept start_of in
    let four = length_kept (is_due model now c) xs in
    omega (arith, one, two, three, four)

pub few_sent : (m : Model) (log : List Entry) → IsChecked m → Legal m log → length (world_of m log).dispatched ≤ 10000
few_sent m log checked legal =
    let stands = stands_of m log checked legal in
    let w = world_of m log in
    let parts : length (due_in w.state) ≡ length w.dispatched + length stands.sent.0 = ap length stands.sent.1 ∙ length-append w.dispatched stands.sent.0 in
    let due = few_due w.state.model w.state.plan.activities w.state.moment w.state.committed in
    let live : length w.state.plan.activities ≤ w.state.live_limit = stands.whole.live in
    let limit : w.state.live_limit ≤ 10000 = stands.whole.limit in
    omega (arith, parts, due, live, limit)

-- ---- what is left of a round

-- an entry takes one of what is left, or sends a command
abbrev pub Spends : (World → ℕ) → World → World → Type 0
Spends left w w2 = suc (length w.dispatched + left w2) ≤ left w + length w2.dispatched

-- an input leaves less than so much, and each other entry spends
abbrev pub Pays : (World → ℕ) → ℕ → World → Event → Type 0
Pays left each w (event.Opened o) = Unit {0}
Pays left each w (event.Input line) = suc (left (after w (event.Input line))) ≤ each
Pays left each w (event.Fix k m) = Spends left w (after w (event.Fix k m))
Pays left each w event.Rest = Spends left w (after w event.Rest)
Pays left each w (event.Commit h) = Spends left w (after w (event.Commit h))
Pays left each w event.Dispatch = Spends left w (after w event.Dispatch)
Pays left each w event.Close = Spends left w (after w event.Close)

-- ---- where an event is enabled

-- repair is not over
pub repairs_on : (closed rested more : Bool) → (not closed && (not rested && more)) ≡ true → (closed ≡ false) × (rested ≡ false) × (more ≡ true)
repairs_on true rested more e = absurd (cc)
repairs_on false true more e = absurd (cc)
repairs_on false false more e = (refl, refl, e)

-- ---- options stay

input_options : (w : World) (line : Option (List ℕ)) (r : Reply) → (after_input w line r).options ≡ w.options
input_options w line reply.Ended = refl
input_options w None _ = refl
input_options w (Some line) reply.Done = refl
input_options w (Some line) _ = refl

fix_options : (w : World) (m : RepairMove) (r : Reply) → (after_fix w m r).options ≡ w.options
fix_options w m reply.Done = refl
fix_options w m _ = refl

commit_options : (w : World) (h : ℕ) (r : Reply) → (after_commit w h r).options ≡ w.options
commit_options w h reply.Done = refl
commit_options w h (reply.Held k) = refl
commit_options w h _ = refl

dispatch_options : (w : World) (r : Reply) → (after_dispatch w r).options ≡ w.options
dispatch_options w (reply.Sent id kind start values) = refl
dispatch_options w _ = refl

pub same_options : (w : World) (e : Event) → (after w e).options ≡ w.options
same_options w (event.Opened o) = refl
same_options w (event.Input line) = input_options w line (reply_of w (event.Input line))
same_options w (event.Fix k m) = fix_options w m (reply_of w (event.Fix k m))
same_options w event.Rest = refl
same_options w (event.Commit h) = commit_options w h (reply_of w (event.Commit h))
same_options w event.Dispatch = dispatch_options w (reply_of w event.Dispatch)
same_options w event.Close = refl

-- ---- a log

spend : (n d d2 b b2 p last : ℕ) → suc (d + b2) ≤ b + d2 → n + d2 ≤ b2 + p + last → suc n + d ≤ b + p + last
spend n d d2 b b2 p last one rest = omega (arith, one, rest)

receive : (n d d2 b b2 inputs each last : ℕ) → d2 ≡ d → suc b2 ≤ each → n + d2 ≤ b2 + inputs * each + last → suc n + d ≤ b + suc inputs * each + last
receive n d d2 b b2 inputs each last same le rest = let more : suc inputs * each ≡ inputs * each + each = suc-mul inputs each in omega (arith, same, le, rest, more)

total : (n b p d : ℕ) → b ≡ 0 → d ≤ 10000 → n + 0 ≤ b + p + d → suc n ≤ 10001 + p
total n b p d none few le = omega (arith, none, few, le)

-- where each entry pays, as far as what is said of the entries that follow lets it
module _ (left : World → ℕ) (turns each : ℕ) (Said : World → List Entry → Type 0) (pays : (w : World) (e : Entry) (es : List Entry) → w.options.turns ≡ turns → MayFollow w e → Said w (e ∷ es) → Pays left each w e.event × Said (after w e.event) es) where
  spent : (w : World) (e : Event) (es : List Entry) → Spends left w (after w e)
      → length es + length (after w e).dispatched ≤ left (after w e) + length (inputs_of es) * each + length (world_from (after w e) es).dispatched
      → suc (length es) + length w.dispatched ≤ left w + length (inputs_of es) * each + length (world_from (after w e) es).dispatched
  spent w e es paid rest = spend (length es) (length w.dispatched) (length (after w e).dispatched) (left w) (left (after w e)) (length (inputs_of es) * each) (length (world_from (after w e) es).dispatched) paid rest

  bounded_from : (w : World) (es : List Entry) → w.options.turns ≡ turns → legal_from w es → Said w es → length es + length w.dispatched ≤ left w + length (inputs_of es) * each + length (world_from w es).dispatched
  bounded_from w [] is legal said = omega arith
  bounded_from w (e ∷ es) is legal said =
      let step = pays w e es is legal.0 said in
      by e.event e.reply legal.0.enabled step.0 (bounded_from (after w e.event) es (ap (λ (o : Options). o.turns) (same_options w e.event) ∙ is) legal.1 step.1)
    where
      by : (happened : Event) (answer : Reply) → is_enabled w happened ≡ true → Pays left each w happened
          → length es + length (after w happened).dispatched ≤ left (after w happened) + length (inputs_of es) * each + length (world_from (after w happened) es).dispatched
          → suc (length es) + length w.dispatched ≤ left w + length (inputs_of (record { event = happened; reply = answer } ∷ es)) * each + length (world_from (after w happened) es).dispatched
      by (event.Opened o) answer enabled paid rest = absurd (cc)
      by (event.Input line) answer enabled paid rest =
          receive (length es) (length w.dispatched) (length (after w (event.Input line)).dispatched) (left w) (left (after w (event.Input line))) (length (inputs_of es)) each (length (world_from (after w (event.Input line)) es).dispatched)
          (ap length (input_sent w line (reply_of w (event.Input line)))) paid rest
      by (event.Fix k m) answer enabled paid rest = spent w (event.Fix k m) es paid rest
      by event.Rest answer enabled paid rest = spent w event.Rest es paid rest
      by (event.Commit h) answer enabled paid rest = spent w (event.Commit h) es paid rest
      by event.Dispatch answer enabled paid rest = spent w event.Dispatch es paid rest
      by event.Close answer enabled paid rest = spent w event.Close es paid rest

  opened_bounded : (m : Model) (happened : Event) (answer : Reply) (es : List Entry) → IsChecked m → Legal m (record { event = happened; reply = answer } ∷ es) → (options_of (record { event = happened; reply = answer } ∷ es)).turns ≡ turns
      → left (fresh_world m (options_of (record { event = happened; reply = answer } ∷ es))) ≡ 0 → Said (fresh_world m (options_of (record { event = happened; reply = answer } ∷ es))) es
      → suc (length es) ≤ 10001 + length (inputs_of (record { event = happened; reply = answer } ∷ es)) * each
  unfolding world_of
  opened_bounded m (event.Opened o) answer es checked legal is none said =
      let sent : length (world_from (fresh_world m o) es).dispatched ≤ 10000 = few_sent m (record { event = event.Opened o; reply = answer } ∷ es) checked legal in
      let all : length es + 0 ≤ left (fresh_world m o) + length (inputs_of es) * each + length (world_from (fresh_world m o) es).dispatched = bounded_from (fresh_world m o) es is legal.steps said in
      total (length es) (left (fresh_world m o)) (length (inputs_of es) * each) (length (world_from (fresh_world m o) es).dispatched) none sent all
  opened_bounded m (event.Input line) answer es checked legal is none said = absurd legal
  opened_bounded m (event.Fix k mv) answer es checked legal is none said = absurd legal
  opened_bounded m event.Rest answer es checked legal is none said = absurd legal
  opened_bounded m (event.Commit h) answer es checked legal is none said = absurd legal
  opened_bounded m event.Dispatch answer es checked legal is none said = absurd legal
  opened_bounded m event.Close answer es checked legal is none said = absurd legal

  pub log_bounded : (m : Model) (log : List Entry) → IsChecked m → Legal m log → (options_of log).turns ≡ turns → left (fresh_world m (options_of log)) ≡ 0 → Said (fresh_world m (options_of log)) (entries_behind log)
      → length log ≤ 10001 + length (inputs_of log) * each
  log_bounded m [] checked legal is none said = absurd legal
  log_bounded m (first ∷ es) checked legal is none said = opened_bounded m first.event first.reply es checked legal is none said
