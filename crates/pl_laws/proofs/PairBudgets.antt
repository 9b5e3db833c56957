-- How long a log is in which each commit is what the executive chooses, also before repair rests, as where a planner repairs beside it.
use Rattle.std.proofs.Common.{◌≡◌, ℕ, suc, ◌+◌, ◌-◌, ◌*◌, ◌<◌, ◌≤◌, max, List, [], ◌∷◌, length, Bool, true, false, not, ◌&&◌, ◌||◌, nat_lt, Option, Some, None, refl, sym, subst, arith, length-append, nat_le}
use Rattle.std.specs.Prelude.{if◌then◌else◌, is_some}
use Rattle.std.proofs.lemmas.Bool.{ltb-true, le-ltb, lt-leb, and_right, not-true}
use Rattle.pl_lists.proofs.Tests.{and_first, and_second}
use Rattle.pl_conflict.specs.declared.conflict.Conflict.{Conflict}
use Rattle.pl_model.specs.declared.whole.Model.{Model}
use Rattle.pl_model.specs.Checked.{IsChecked}
use Rattle.pl_plan.specs.declared.repair.RepairMove.{RepairMove}
use Rattle.pl_entry.specs.declared.event.Event.{Event}
use Rattle.pl_entry.specs.declared.event.Event.TheVariants as event
use Rattle.pl_entry.specs.declared.reply.Reply.{Reply}
use Rattle.pl_entry.specs.declared.reply.Reply.TheVariants as reply
use Rattle.pl_entry.specs.declared.entry.Entry.{Entry}
use Rattle.pl_entry.specs.Bounds.{IsDispatchReply, IsReplyTo}
use Rattle.pl_semantics.specs.declared.plan_state.PlanState.{PlanState}
use Rattle.pl_machine.specs.declared.choice.Choice.TheVariants as choice
use Rattle.pl_machine.specs.World.{World, fresh_world, due_in, reason_of}
use Rattle.pl_machine.specs.Step.{behind_of, target_in, best_in, commit_reply, is_enabled, reply_of, after_input, after_fix, after_commit, after_dispatch, after, held_reply, first_conflict, round_begun}
use Rattle.pl_machine.specs.Choices.{exec_choice_of}
use Rattle.pl_machine.specs.Legal.{options_of, entries_behind, MayFollow}
use Rattle.pl_machine.proofs.Granting.{grants}
use Rattle.pl_laws.specs.Laws.{IsChosen, chosen_from, IsExecutiveChoice, executive_from, PairLengthIsBounded, ChosenAreOfExecutive}
use Rattle.pl_machine.specs.Messages.{told_line, halts_line}
use Rattle.pl_laws.proofs.Spending.{Spends, Pays, repairs_on, log_bounded}
use Rattle.pl_laws.proofs.Budgets.{more_of, chosen_commit, best_grantable, no_more}

-- ---- what may still follow in a round, but for commands

-- once repair rests: a commit, where one would go further, and the close
abbrev at_rest : (more : Bool) → ℕ
at_rest true = 2
at_rest false = 1

-- Before: each repair lets a commit to the target follow, beside the one that may come now. A rest, a commit and a close are to come.
abbrev in_repair : (early : Bool) (left : ℕ) → ℕ
in_repair true left = 2 * left + 4
in_repair false left = 2 * left + 3

abbrev pair_by : (closed rested more early : Bool) (left : ℕ) → ℕ
pair_by true rested more early left = 0
pair_by false true more early left = at_rest more
pair_by false false more early left = in_repair early left

-- a commit to the target may come now, before repair rests
abbrev early_of : World → Bool
early_of w = not w.held && nat_lt (behind_of w.state) (target_in w)

abbrev pair_budget : World → ℕ
pair_budget w = pair_by w.closed w.rested (more_of w) (early_of w) (w.options.turns - w.turn)

rest_step : (closed rested more early : Bool) (left d : ℕ) → closed ≡ false → rested ≡ false → suc (d + pair_by closed true more early left) ≤ pair_by closed rested more early left + d
rest_step true rested more early left d c r = absurd (cc)
rest_step false true more early left d c r = absurd (cc)
rest_step false false true true left d c r = omega arith
rest_step false false true false left d c r = omega arith
rest_step false false false true left d c r = omega arith
rest_step false false false false left d c r = omega arith

close_step : (closed rested more early : Bool) (left d : ℕ) → closed ≡ false → suc (d + pair_by true rested more early left) ≤ pair_by closed rested more early left + d
close_step true rested more early left d c = absurd (cc)
close_step false true true early left d c = omega arith
close_step false true false early left d c = omega arith
close_step false false more true left d c = omega arith
close_step false false more false left d c = omega arith

fix_step : (closed rested more more2 early early2 : Bool) (turns turn d : ℕ) → closed ≡ false → rested ≡ false → turn < turns → suc (d + pair_by closed rested more2 early2 (turns - (turn + 1))) ≤ pair_by closed rested more early (turns - turn) + d
fix_step true rested more more2 early early2 turns turn d c r lt = absurd (cc)
fix_step false true more more2 early early2 turns turn d c r lt = absurd (cc)
fix_step false false more more2 true true turns turn d c r lt = omega (arith, lt)
fix_step false false more more2 true false turns turn d c r lt = omega (arith, lt)
fix_step false false more more2 false true turns turn d c r lt = omega (arith, lt)
fix_step false false more more2 false false turns turn d c r lt = omega (arith, lt)

best_step : (closed rested more more2 early early2 : Bool) (left d : ℕ) → closed ≡ false → rested ≡ true → more ≡ true → more2 ≡ false → suc (d + pair_by closed rested more2 early2 left) ≤ pair_by closed rested more early left + d
best_step true rested more more2 early early2 left d c r m n = absurd (cc)
best_step false false more more2 early early2 left d c r m n = absurd (cc)
best_step false true false more2 early early2 left d c r m n = absurd (cc)
best_step false true true true early early2 left d c r m n = absurd (cc)
best_step false true true false early early2 left d c r m n = omega arith

early_step : (closed rested more more2 early early2 : Bool) (left d : ℕ) → closed ≡ false → rested ≡ false → early ≡ true → early2 ≡ false → suc (d + pair_by closed rested more2 early2 left) ≤ pair_by closed rested more early left + d
early_step true rested more more2 early early2 left d c r m n = absurd (cc)
early_step false true more more2 early early2 left d c r m n = absurd (cc)
early_step false false more more2 false early2 left d c r m n = absurd (cc)
early_step false false more more2 true true left d c r m n = absurd (cc)
early_step false false more more2 true false left d c r m n = omega arith

fix_spends : (w : World) (m : RepairMove) (r : Reply) → w.closed ≡ false → w.rested ≡ false → w.turn < w.options.turns → Spends pair_budget w (after_fix w m r)
fix_spends w m reply.Done closed rested lt =
    fix_step w.closed w.rested (more_of w) (more_of (after_fix w m reply.Done)) (early_of w) (early_of (after_fix w m reply.Done)) w.options.turns w.turn (length w.dispatched) closed rested lt
fix_spends w m _ closed rested lt = fix_step w.closed w.rested (more_of w) (more_of w) (early_of w) (early_of w) w.options.turns w.turn (length w.dispatched) closed rested lt

dispatch_spends : (w : World) (m : Model) (r : Reply) → IsDispatchReply m r → Spends pair_budget w (after_dispatch w r)
dispatch_spends w m (reply.Sent id kind start values) is = let longer = length-append w.dispatched (id ∷ []) in omega (arith, longer)
dispatch_spends w m _ is = absurd is

-- ---- a commit once repair rests

best_spends : (w : World) (h : ℕ) → w.closed ≡ false → w.rested ≡ true → exec_choice_of w ≡ Some (choice.Commit h) → Spends pair_budget w (after w (event.Commit h))
best_spends w h closed rested chosen =
    let is = chosen_commit w h rested chosen in
    let done : commit_reply w.state (best_in w) ≡ reply.Done = (grants w.state (best_in w)).1 (best_grantable w is.0) in
    let then' = after_commit w (best_in w) reply.Done in
    let one : Spends pair_budget w (after_commit w (best_in w) reply.Done) =
    best_step w.closed w.rested (more_of w) (more_of then') (early_of w) (early_of then') (w.options.turns - w.turn) (length w.dispatched) closed rested is.0 (no_more w is.0) in
    let two : Spends pair_budget w (after_commit w (best_in w) (commit_reply w.state (best_in w))) = subst (λ (r : Reply). Spends pair_budget w (after_commit w (best_in w) r)) (sym done) one in
    subst (λ (n : ℕ). Spends pair_budget w (after_commit w n (commit_reply w.state n))) is.1 two

-- ---- a commit to the target before

early_commit : (ended left rested early more : Bool) (target best h : ℕ) → rested ≡ false
    → (if ended then None else if left then Some choice.Dispatch else if not rested && early then Some (choice.Commit target) else if rested && more then Some (choice.Commit best) else if rested then Some choice.Close else None) ≡ Some (choice.Commit h)
    → (early ≡ true) × (target ≡ h)
early_commit true left rested early more target best h r e = absurd (cc)
early_commit false true rested early more target best h r e = absurd (cc)
early_commit false false true early more target best h r e = absurd (cc)
early_commit false false false true more target best h r e = (refl, cc)
early_commit false false false false more target best h r e = absurd (cc)

chosen_early : (w : World) (h : ℕ) → w.rested ≡ false → exec_choice_of w ≡ Some (choice.Commit h) → (early_of w ≡ true) × (target_in w ≡ h)
unfolding exec_choice_of
chosen_early w h rested e = early_commit (w.closed || w.done) (nat_lt (length w.dispatched) (length (due_in w.state))) w.rested (early_of w) (more_of w) (target_in w) (best_in w) h rested e

-- it is granted, or held by the first conflict
in_reach : (behind beyond : Bool) (r : Reply) → behind ≡ false → beyond ≡ false → (if behind then reply.CommitBehind else if beyond then reply.CommitBeyond else r) ≡ r
in_reach true beyond r e f = absurd (cc)
in_reach false true r e f = absurd (cc)
in_reach false false r e f = refl

target_reply : (w : World) → nat_lt (behind_of w.state) (target_in w) ≡ true → commit_reply w.state (target_in w) ≡ held_reply (first_conflict w.state) (target_in w)
target_reply w further =
    let s : PlanState = w.state in
    let less = ltb-true (behind_of s) (target_in w) further in
    in_reach (nat_le (target_in w) (behind_of s)) (nat_lt s.model.horizon (target_in w)) (held_reply (first_conflict s) (target_in w)) (lt-leb (target_in w) (behind_of s) less) (le-ltb s.model.horizon (target_in w) (omega arith))

-- no commit to the target follows one that was granted
reached : (w : World) → early_of (after_commit w (target_in w) reply.Done) ≡ false
reached w = and_right (not w.held) (nat_lt (max (target_in w) w.state.moment) (target_in w)) (le-ltb (max (target_in w) w.state.moment) (target_in w) (omega arith))

granted_spends : (w : World) → w.closed ≡ false → w.rested ≡ false → early_of w ≡ true → Spends pair_budget w (after_commit w (target_in w) reply.Done)
granted_spends w closed rested early =
    let then' = after_commit w (target_in w) reply.Done in
    early_step w.closed w.rested (more_of w) (more_of then') (early_of w) (early_of then') (w.options.turns - w.turn) (length w.dispatched) closed rested early (reached w)

held_spends : (w : World) (k : Conflict) → w.closed ≡ false → w.rested ≡ false → early_of w ≡ true → Spends pair_budget w (after_commit w (target_in w) (reply.Held k))
held_spends w k closed rested early = early_step w.closed w.rested (more_of w) (more_of w) (early_of w) false (w.options.turns - w.turn) (length w.dispatched) closed rested early refl

asked_spends : (w : World) (first : Option Conflict) → w.closed ≡ false → w.rested ≡ false → early_of w ≡ true → Spends pair_budget w (after_commit w (target_in w) (held_reply first (target_in w)))
asked_spends w None closed rested early = granted_spends w closed rested early
asked_spends w (Some k) closed rested early = by (nat_lt k.from (target_in w))
  where
    by : (b : Bool) → Spends pair_budget w (after_commit w (target_in w) (if b then reply.Held k else reply.Done))
    by true = held_spends w k closed rested early
    by false = granted_spends w closed rested early

early_spends : (w : World) (h : ℕ) → w.closed ≡ false → w.rested ≡ false → exec_choice_of w ≡ Some (choice.Commit h) → Spends pair_budget w (after w (event.Commit h))
early_spends w h closed rested chosen =
    let is = chosen_early w h rested chosen in
    let answers = target_reply w (and_second (not w.held) (nat_lt (behind_of w.state) (target_in w)) is.0) in
    let one = asked_spends w (first_conflict w.state) closed rested is.0 in
    let two : Spends pair_budget w (after_commit w (target_in w) (commit_reply w.state (target_in w))) = subst (λ (r : Reply). Spends pair_budget w (after_commit w (target_in w) r)) (sym answers) one in
    subst (λ (n : ℕ). Spends pair_budget w (after_commit w n (commit_reply w.state n))) is.1 two

commit_spends : (w : World) (h : ℕ) → w.closed ≡ false → exec_choice_of w ≡ Some (choice.Commit h) → Spends pair_budget w (after w (event.Commit h))
commit_spends w h closed chosen = by w.rested refl
  where
    by : (b : Bool) → w.rested ≡ b → Spends pair_budget w (after w (event.Commit h))
    by true rested = best_spends w h closed rested chosen
    by false rested = early_spends w h closed rested chosen

-- ---- an input

closed_few : (closed rested more early : Bool) (left turns : ℕ) → closed ≡ true → pair_by closed rested more early left ≤ 2 * turns + 4
closed_few true rested more early left turns c = omega arith
closed_few false rested more early left turns c = absurd (cc)

opened_few : (early : Bool) (turns : ℕ) → in_repair early (turns - 0) ≤ 2 * turns + 4
opened_few true turns = omega arith
opened_few false turns = omega arith

input_budget : (w : World) (line : Option (List ℕ)) (r : Reply) → w.closed ≡ true → pair_budget (after_input w line r) ≤ 2 * w.options.turns + 4
input_budget w line reply.Ended closed = closed_few w.closed w.rested (more_of w) (early_of w) (w.options.turns - w.turn) w.options.turns closed
input_budget w None _ closed = closed_few w.closed w.rested (more_of w) (early_of w) (w.options.turns - w.turn) w.options.turns closed
input_budget w (Some line) reply.Done closed = opened_few (early_of (round_begun w (told_line w.state line) (halts_line w.state w.halted line))) w.options.turns
input_budget w (Some line) _ closed = opened_few (early_of (round_begun w w.state w.halted)) w.options.turns

-- ---- a log

event_pays : (turns : ℕ) (w : World) (happened : Event) (answer : Reply) → w.options.turns ≡ turns → is_enabled w happened ≡ true → IsReplyTo w.state.model happened answer → answer ≡ reply_of w happened → IsExecutiveChoice w happened
    → Pays pair_budget (2 * turns + 5) w happened
event_pays turns w (event.Opened o) answer is enabled replies answers chosen = tt
event_pays turns w (event.Input line) answer is enabled replies answers chosen =
    let few : pair_budget (after w (event.Input line)) ≤ 2 * w.options.turns + 4 = input_budget w line (reply_of w (event.Input line)) (and_first w.closed (not w.done) enabled) in
    omega (arith, few, is)
event_pays turns w (event.Fix k m) answer is enabled replies answers chosen =
    let on = repairs_on w.closed w.rested (nat_lt w.turn w.options.turns) enabled in
    fix_spends w m (reply_of w (event.Fix k m)) on.0 on.1 (ltb-true w.turn w.options.turns on.2)
event_pays turns w event.Rest answer is enabled replies answers chosen =
    let on = repairs_on w.closed w.rested (is_some (reason_of w)) enabled in
    rest_step w.closed w.rested (more_of w) (early_of w) (w.options.turns - w.turn) (length w.dispatched) on.0 on.1
event_pays turns w (event.Commit h) answer is enabled replies answers chosen = commit_spends w h (not-true w.closed enabled) chosen
event_pays turns w event.Dispatch answer is enabled replies answers chosen =
    let sent : IsDispatchReply w.state.model (reply_of w event.Dispatch) = subst (λ (r : Reply). IsDispatchReply w.state.model r) answers replies in
    dispatch_spends w w.state.model (reply_of w event.Dispatch) sent
event_pays turns w event.Close answer is enabled replies answers chosen =
    close_step w.closed w.rested (more_of w) (early_of w) (w.options.turns - w.turn) (length w.dispatched) (not-true w.closed (and_first (not w.closed) _ enabled))

entry_pays : (turns : ℕ) (w : World) (e : Entry) (es : List Entry) → w.options.turns ≡ turns → MayFollow w e → executive_from w (e ∷ es) → Pays pair_budget (2 * turns + 5) w e.event × executive_from (after w e.event) es
entry_pays turns w e es is follows chosen = (event_pays turns w e.event e.reply is follows.enabled follows.reply follows.answers chosen.0, chosen.1)

pub pair_bounded : (m : Model) → IsChecked m → PairLengthIsBounded m
pair_bounded m checked log legal chosen = log_bounded pair_budget (options_of log).turns (2 * (options_of log).turns + 5) executive_from (entry_pays (options_of log).turns) m log checked legal refl refl chosen

-- ---- a commit that is chosen once repair rests is one that is chosen

one_chosen : (w : World) (e : Event) → IsChosen w e → IsExecutiveChoice w e
one_chosen w (event.Opened o) chosen = tt
one_chosen w (event.Input line) chosen = tt
one_chosen w (event.Fix k m) chosen = tt
one_chosen w event.Rest chosen = tt
one_chosen w (event.Commit h) chosen = chosen.1
one_chosen w event.Dispatch chosen = tt
one_chosen w event.Close chosen = tt

all_chosen : (w : World) (es : List Entry) → chosen_from w es → executive_from w es
all_chosen w [] chosen = tt
all_chosen w (e ∷ es) chosen = (one_chosen w e.event chosen.0, all_chosen (after w e.event) es chosen.1)

pub chosen_of_executive : (m : Model) → ChosenAreOfExecutive m
chosen_of_executive m log chosen = all_chosen (fresh_world m (options_of log)) (entries_behind log) chosen
