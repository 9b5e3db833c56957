-- How long a log is in which each commit comes once repair rests, as in every log of one thread. A halt may lower what is committed, so
-- that it rises once more: but the budget of a round has one commit behind its rest, whatever was committed before, and whether commits
-- are held back does not change within a round.
use Rattle.std.proofs.Common.{◌≡◌, ℕ, suc, ◌+◌, ◌-◌, ◌<◌, ◌≤◌, max, List, [], ◌∷◌, length, Bool, true, false, not, ◌&&◌, ◌||◌, nat_lt, Option, Some, None, refl, sym, ◌∙◌, ap, subst, arith, length-append}
use Rattle.std.specs.Prelude.{if◌then◌else◌, slice_get, is_some}
use Rattle.std.proofs.lemmas.Bool.{ltb-true, le-ltb, not-true}
use Rattle.std.proofs.lemmas.List.Elements.{All-weaker}
use Rattle.pl_lists.proofs.Tests.{and_first}
use Rattle.pl_conflict.specs.declared.conflict.Conflict.{Conflict}
use Rattle.pl_model.specs.declared.whole.Model.{Model}
use Rattle.pl_model.specs.Checked.{IsChecked}
use Rattle.pl_plan.specs.declared.repair.RepairMove.{RepairMove}
use Rattle.pl_entry.specs.declared.event.Event.{Event}
use Rattle.pl_entry.specs.declared.event.Event.TheVariants as event
use Rattle.pl_entry.specs.declared.reply.Reply.{Reply}
use Rattle.pl_entry.specs.declared.reply.Reply.TheVariants as reply
use Rattle.pl_entry.specs.declared.entry.Entry.{Entry}
use Rattle.pl_entry.specs.Bounds.{IsDispatchReply, IsReplyTo}
use Rattle.pl_entry.specs.Horizon.{target_of, best_of, IsBest}
use Rattle.pl_entry.proofs.BestLaws.{best_is}
use Rattle.pl_semantics.specs.declared.plan_state.PlanState.{PlanState}
use Rattle.pl_semantics.specs.Conflicts.{conflicts_of}
use Rattle.pl_semantics.specs.Grants.{touches_before, IsGrantable}
use Rattle.pl_semantics.proofs.Standing.{ordered}
use Rattle.pl_update.specs.Changes.Changes.{committed_to}
use Rattle.pl_machine.specs.declared.choice.Choice.TheVariants as choice
use Rattle.pl_machine.specs.World.{World, fresh_world, due_in, reason_of}
use Rattle.pl_machine.specs.Step.{behind_of, target_in, best_in, commit_reply, is_enabled, reply_of, after_input, after_fix, after_commit, after_dispatch, after}
use Rattle.pl_machine.specs.Choices.{exec_choice_of}
use Rattle.pl_machine.specs.Legal.{options_of, entries_behind, MayFollow}
use Rattle.pl_machine.specs.Solo.{Picks, IsSoloEvent, solo_from, SoloBy}
use Rattle.pl_machine.proofs.Granting.{grants}
use Rattle.pl_laws.specs.Laws.{IsChosen, chosen_from, AreCommitsChosen, LengthIsBounded}
use Rattle.pl_machine.proofs.Granted.{granted_same}
use Rattle.pl_laws.proofs.Spending.{Spends, Pays, repairs_on, log_bounded}

-- ---- what may still follow in a round, but for commands

abbrev budget_by : (closed rested more : Bool) (left : ℕ) → ℕ
budget_by true rested more left = 0
budget_by false false more left = left + 3
budget_by false true true left = 2
budget_by false true false left = 1

-- a commit would go further
abbrev pub more_of : World → Bool
more_of w = nat_lt (behind_of w.state) (best_in w)

abbrev budget : World → ℕ
budget w = budget_by w.closed w.rested (more_of w) (w.options.turns - w.turn)

rest_step : (closed rested more : Bool) (left d : ℕ) → closed ≡ false → rested ≡ false → suc (d + budget_by closed true more left) ≤ budget_by closed rested more left + d
rest_step true rested more left d c r = absurd (cc)
rest_step false true more left d c r = absurd (cc)
rest_step false false true left d c r = omega arith
rest_step false false false left d c r = omega arith

close_step : (closed rested more : Bool) (left d : ℕ) → closed ≡ false → suc (d + budget_by true rested more left) ≤ budget_by closed rested more left + d
close_step true rested more left d c = absurd (cc)
close_step false false more left d c = omega arith
close_step false true true left d c = omega arith
close_step false true false left d c = omega arith

fix_step : (closed rested more more2 : Bool) (turns turn d : ℕ) → closed ≡ false → rested ≡ false → turn < turns → suc (d + budget_by closed rested more2 (turns - (turn + 1))) ≤ budget_by closed rested more (turns - turn) + d
fix_step true rested more more2 turns turn d c r lt = absurd (cc)
fix_step false true more more2 turns turn d c r lt = absurd (cc)
fix_step false false more more2 turns turn d c r lt = omega (arith, lt)

commit_step : (closed rested more more2 : Bool) (left d : ℕ) → closed ≡ false → rested ≡ true → more ≡ true → more2 ≡ false → suc (d + budget_by closed rested more2 left) ≤ budget_by closed rested more left + d
commit_step true rested more more2 left d c r m n = absurd (cc)
commit_step false false more more2 left d c r m n = absurd (cc)
commit_step false true false more2 left d c r m n = absurd (cc)
commit_step false true true true left d c r m n = absurd (cc)
commit_step false true true false left d c r m n = omega arith

fix_spends : (w : World) (m : RepairMove) (r : Reply) → w.closed ≡ false → w.rested ≡ false → w.turn < w.options.turns → Spends budget w (after_fix w m r)
fix_spends w m reply.Done closed rested lt = fix_step w.closed w.rested (more_of w) (more_of (after_fix w m reply.Done)) w.options.turns w.turn (length w.dispatched) closed rested lt
fix_spends w m _ closed rested lt = fix_step w.closed w.rested (more_of w) (more_of w) w.options.turns w.turn (length w.dispatched) closed rested lt

dispatch_spends : (w : World) (m : Model) (r : Reply) → IsDispatchReply m r → Spends budget w (after_dispatch w r)
dispatch_spends w m (reply.Sent id kind start values) is = let longer = length-append w.dispatched (id ∷ []) in omega (arith, longer)
dispatch_spends w m _ is = absurd is

-- ---- the one commit of a round

commit_of : (ended left rested early more : Bool) (target best h : ℕ) → rested ≡ true
    → (if ended then None else if left then Some choice.Dispatch else if not rested && early then Some (choice.Commit target) else if rested && more then Some (choice.Commit best) else if rested then Some choice.Close else None) ≡ Some (choice.Commit h)
    → (more ≡ true) × (best ≡ h)
commit_of true left rested early more target best h r e = absurd (cc)
commit_of false true rested early more target best h r e = absurd (cc)
commit_of false false false early more target best h r e = absurd (cc)
commit_of false false true early true target best h r e = (refl, cc)
commit_of false false true early false target best h r e = absurd (cc)

pub chosen_commit : (w : World) (h : ℕ) → w.rested ≡ true → exec_choice_of w ≡ Some (choice.Commit h) → (more_of w ≡ true) × (best_in w ≡ h)
unfolding exec_choice_of
chosen_commit w h rested e = commit_of (w.closed || w.done) (nat_lt (length w.dispatched) (length (due_in w.state))) w.rested (not w.held && nat_lt (behind_of w.state) (target_in w)) (more_of w) (target_in w) (best_in w) h rested e

-- it is granted, and nothing more can be committed then
pub best_grantable : (w : World) → more_of w ≡ true → IsGrantable w.state (best_in w)
best_grantable w more =
    let s : PlanState = w.state in
    let best : IsBest s.model s.moment w.halted (conflicts_of s) (best_in w) = best_is s.model s.moment w.halted (conflicts_of s) (ordered s) in
    let within : best_in w ≤ target_of s.model s.moment w.halted = best.within in
    record {
      later = ltb-true (behind_of s) (best_in w) more;
      within = omega (arith, within);
      untouched = All-weaker (λ (k : Conflict). best_in w ≤ k.from) (λ (k : Conflict). touches_before (best_in w) k ≡ false) (λ k le. le-ltb k.from (best_in w) le) (conflicts_of s) best.untouched;
    }

pub no_more : (w : World) → more_of w ≡ true → more_of (record w { state = committed_to (best_in w) w.state }) ≡ false
no_more w more =
    let s : PlanState = w.state in
    let same : best_in (record w { state = committed_to (best_in w) s }) ≡ best_in w = ap (λ (ks : List Conflict). best_of s.model s.moment w.halted (slice_get ks 0)) (granted_same s (best_in w) (best_grantable w more)) in
    ap (λ (b : ℕ). nat_lt (max (best_in w) s.moment) b) same ∙ le-ltb (max (best_in w) s.moment) (best_in w) (omega arith)

commit_spends : (w : World) (h : ℕ) → w.closed ≡ false → w.rested ≡ true → exec_choice_of w ≡ Some (choice.Commit h) → Spends budget w (after w (event.Commit h))
commit_spends w h closed rested chosen =
    let is = chosen_commit w h rested chosen in
    let done : commit_reply w.state (best_in w) ≡ reply.Done = (grants w.state (best_in w)).1 (best_grantable w is.0) in
    let one : Spends budget w (after_commit w (best_in w) reply.Done) = commit_step w.closed w.rested (more_of w) (more_of (after_commit w (best_in w) reply.Done)) (w.options.turns - w.turn) (length w.dispatched) closed rested is.0 (no_more w is.0) in
    let two : Spends budget w (after_commit w (best_in w) (commit_reply w.state (best_in w))) = subst (λ (r : Reply). Spends budget w (after_commit w (best_in w) r)) (sym done) one in
    subst (λ (n : ℕ). Spends budget w (after_commit w n (commit_reply w.state n))) is.1 two

-- ---- an input

closed_few : (closed rested more : Bool) (left turns : ℕ) → closed ≡ true → budget_by closed rested more left ≤ turns + 3
closed_few true rested more left turns c = omega arith
closed_few false rested more left turns c = absurd (cc)

input_budget : (w : World) (line : Option (List ℕ)) (r : Reply) → w.closed ≡ true → budget (after_input w line r) ≤ w.options.turns + 3
input_budget w line reply.Ended closed = closed_few w.closed w.rested (more_of w) (w.options.turns - w.turn) w.options.turns closed
input_budget w None _ closed = closed_few w.closed w.rested (more_of w) (w.options.turns - w.turn) w.options.turns closed
input_budget w (Some line) reply.Done closed = omega arith
input_budget w (Some line) _ closed = omega arith

-- ---- a log

event_pays : (turns : ℕ) (w : World) (happened : Event) (answer : Reply) → w.options.turns ≡ turns → is_enabled w happened ≡ true → IsReplyTo w.state.model happened answer → answer ≡ reply_of w happened → IsChosen w happened
    → Pays budget (turns + 4) w happened
event_pays turns w (event.Opened o) answer is enabled replies answers chosen = tt
event_pays turns w (event.Input line) answer is enabled replies answers chosen =
    let few : budget (after w (event.Input line)) ≤ w.options.turns + 3 = input_budget w line (reply_of w (event.Input line)) (and_first w.closed (not w.done) enabled) in
    omega (arith, few, is)
event_pays turns w (event.Fix k m) answer is enabled replies answers chosen =
    let on = repairs_on w.closed w.rested (nat_lt w.turn w.options.turns) enabled in
    fix_spends w m (reply_of w (event.Fix k m)) on.0 on.1 (ltb-true w.turn w.options.turns on.2)
event_pays turns w event.Rest answer is enabled replies answers chosen =
    let on = repairs_on w.closed w.rested (is_some (reason_of w)) enabled in
    rest_step w.closed w.rested (more_of w) (w.options.turns - w.turn) (length w.dispatched) on.0 on.1
event_pays turns w (event.Commit h) answer is enabled replies answers chosen = commit_spends w h (not-true w.closed enabled) chosen.0 chosen.1
event_pays turns w event.Dispatch answer is enabled replies answers chosen =
    let sent : IsDispatchReply w.state.model (reply_of w event.Dispatch) = subst (λ (r : Reply). IsDispatchReply w.state.model r) answers replies in
    dispatch_spends w w.state.model (reply_of w event.Dispatch) sent
event_pays turns w event.Close answer is enabled replies answers chosen =
    close_step w.closed w.rested (more_of w) (w.options.turns - w.turn) (length w.dispatched) (not-true w.closed (and_first (not w.closed) _ enabled))

entry_pays : (turns : ℕ) (w : World) (e : Entry) (es : List Entry) → w.options.turns ≡ turns → MayFollow w e → chosen_from w (e ∷ es) → Pays budget (turns + 4) w e.event × chosen_from (after w e.event) es
entry_pays turns w e es is follows chosen = (event_pays turns w e.event e.reply is follows.enabled follows.reply follows.answers chosen.0, chosen.1)

pub bounded : (m : Model) → IsChecked m → LengthIsBounded m
bounded m checked log legal chosen = log_bounded budget (options_of log).turns ((options_of log).turns + 4) chosen_from (entry_pays (options_of log).turns) m log checked legal refl refl chosen

-- ---- a log of one thread, whatever its chooser picks

solo_event : {C : Type 0} (picks : Picks C) (w : World) (c : C) (e : Event) (c2 : C) → IsSoloEvent picks w c e c2 → IsChosen w e
solo_event {C} picks w c (event.Opened o) c2 solo = tt
solo_event {C} picks w c (event.Input line) c2 solo = tt
solo_event {C} picks w c (event.Fix k m) c2 solo = tt
solo_event {C} picks w c event.Rest c2 solo = tt
solo_event {C} picks w c (event.Commit h) c2 solo = (solo.0, solo.1)
solo_event {C} picks w c event.Dispatch c2 solo = tt
solo_event {C} picks w c event.Close c2 solo = tt

solo_chosen : {C : Type 0} (picks : Picks C) (w : World) (c : C) (es : List Entry) (c2 : C) → solo_from picks w c es c2 → chosen_from w es
solo_chosen {C} picks w c [] c2 solo = tt
solo_chosen {C} picks w c (e ∷ es) c2 solo = (solo_event picks w c e.event solo.0 solo.1, solo_chosen picks (after w e.event) solo.0 es c2 solo.2)

pub one_thread : {C : Type 0} (picks : Picks C) (m : Model) (log : List Entry) (c c2 : C) → SoloBy picks c m log c2 → AreCommitsChosen m log
unfolding SoloBy
one_thread {C} picks m log c c2 solo = solo_chosen picks (fresh_world m (options_of log)) c (entries_behind log) c2 solo
