-- How long a log may grow, and that nothing follows a full one.
use Rattle.std.proofs.Common.{◌≡◌, ℕ, ◌+◌, ◌<◌, ◌≤◌, List, [], ◌∷◌, ◌++◌, length, Bool, true, false, Option, Some, None, refl, sym, ◌∙◌, ap, subst, arith, length-append}
use Rattle.std.proofs.lemmas.List.{append-nil}
use Rattle.std.specs.Prelude.{◌||◌, not, ◌&&◌, is_some, if◌then◌else◌, unwrap_or}
use Rattle.std.proofs.lemmas.List.Elements.{filter_map-append}
use mathlib.Core.List.{IsPrefix}
use Rattle.pl_model.specs.declared.whole.Model.{Model}
use Rattle.pl_facts.specs.declared.options.Options.{Options}
use Rattle.pl_plan.specs.declared.repair.RepairMove.{RepairMove}
use Rattle.pl_entry.specs.declared.event.Event.{Event}
use Rattle.pl_entry.specs.declared.event.Event.TheVariants as event
use Rattle.pl_entry.specs.declared.reply.Reply.{Reply}
use Rattle.pl_entry.specs.declared.reply.Reply.TheVariants as reply
use Rattle.pl_entry.specs.declared.entry.Entry.{Entry}
use Rattle.pl_machine.specs.declared.choice.Choice.{Choice}
use Rattle.pl_machine.specs.World.{World, fresh_world}
use Rattle.pl_machine.specs.Choices.{exec_choice_of}
use Rattle.pl_machine.specs.Step.{reply_of, after_input, after_fix, after_commit, after_dispatch, after}
use Rattle.pl_machine.specs.Legal.{Legal, IsOpenedRun, no_options, options_in, world_from, options_of, entries_behind, world_of}
use Rattle.pl_acts.specs.declared.noted.Noted.{Noted}
use Rattle.pl_acts.specs.declared.role.Role.{Role}
use Rattle.pl_acts.specs.declared.role.Role.TheVariants.{Planner, Executive}
use Rattle.pl_acts.specs.Items.{Signs, items_of, model_in, OfWorld, InWorld, entry_in, entries_in}
use Rattle.pl_acts.specs.Roles.{has_event}
use Rattle.pl_acts.specs.Seen.{IsPlan, IsFull}
use Rattle.pl_machine.proofs.ShortLogs.{log_is_some, log_is_short}
use Rattle.pl_acts.proofs.Items.{length_stopped, length_going, entries_in_items, model_in_items}

plan_length_by : (m : Model) (log : List Entry) (s : Signs) (t : Bool) → is_some s.stopper ≡ t → length log ≤ 250000 → length (items_of m log s) ≤ 250001
plan_length_by m log s true is le = (let e = length_stopped m log s is in omega arith)
plan_length_by m log s false is le = (let e = length_going m log s is in omega arith)

plan_length : (m : Model) (log : List Entry) (s : Signs) → length log ≤ 250000 → length (items_of m log s) ≤ 250001
plan_length m log s le = plan_length_by m log s (is_some s.stopper) refl le

pub plan_short : (seen : List Noted) → IsPlan seen → length seen ≤ 250001
plan_short seen plan =
    let le = plan_length plan.model plan.log plan.signs (log_is_short plan.model plan.log plan.legal) in
    let same = ap length plan.is in
    omega arith

-- ---- a full log

input_keeps : (w : World) (line : Option (List ℕ)) (r : Reply) → (after_input w line r).options ≡ w.options
input_keeps w line reply.Ended = refl
input_keeps w None _ = refl
input_keeps w (Some line) reply.Done = refl
input_keeps w (Some line) _ = refl

fix_keeps : (w : World) (m : RepairMove) (r : Reply) → (after_fix w m r).options ≡ w.options
fix_keeps w m reply.Done = refl
fix_keeps w m _ = refl

commit_keeps : (w : World) (h : ℕ) (r : Reply) → (after_commit w h r).options ≡ w.options
commit_keeps w h reply.Done = refl
commit_keeps w h (reply.Held k) = refl
commit_keeps w h _ = refl

dispatch_keeps : (w : World) (r : Reply) → (after_dispatch w r).options ≡ w.options
dispatch_keeps w (reply.Sent id kind start values) = refl
dispatch_keeps w _ = refl

step_keeps : (w : World) (v : Event) → (after w v).options ≡ w.options
step_keeps w (event.Opened o) = refl
step_keeps w (event.Input line) = input_keeps w line (reply_of w (event.Input line))
step_keeps w (event.Fix k m) = fix_keeps w m (reply_of w (event.Fix k m))
step_keeps w event.Rest = refl
step_keeps w (event.Commit h) = commit_keeps w h (reply_of w (event.Commit h))
step_keeps w event.Dispatch = dispatch_keeps w (reply_of w event.Dispatch)
step_keeps w event.Close = refl

run_keeps : (w : World) (es : List Entry) → (world_from w es).options ≡ w.options
run_keeps w [] = refl
run_keeps w (e ∷ es) = run_keeps (after w e.event) es ∙ step_keeps w e.event

pub world_options : (m : Model) (log : List Entry) → (world_of m log).options ≡ options_of log
unfolding world_of
world_options m log = run_keeps (fresh_world m (options_of log)) (entries_behind log)

options_on : (log rest : List Entry) → 0 < length log → options_of (log ++ rest) ≡ options_of log
options_on [] rest lt = absurd (omega arith)
options_on (first ∷ es) rest lt = refl

full_of : (o : Option Model) (es more : List Entry) → 0 < length es → OfWorld o es (λ w. w.options.entries ≤ length es) → OfWorld o (es ++ more) (λ w. w.options.entries ≤ length (es ++ more))
full_of None es more lt full = absurd full
full_of (Some m) es more lt full =
    let same : (world_of m (es ++ more)).options ≡ (world_of m es).options = world_options m (es ++ more) ∙ options_on es more lt ∙ sym (world_options m es) in
    let long = length-append es more in
    rw same (omega (arith, long, full))

pub full_on : (xs ys : List Noted) → IsPlan xs → IsPrefix xs ys → model_in ys ≡ model_in xs → IsFull xs → IsFull ys
full_on xs ys plan on same full =
    let es = entries_in xs in
    let more = entries_in on.0 in
    let all : es ++ more ≡ entries_in ys = sym (filter_map-append entry_in xs on.0) ∙ ap entries_in on.1 in
    let some : 0 < length es = rw (ap entries_in plan.is ∙ entries_in_items plan.model plan.log plan.signs) (log_is_some plan.model plan.log plan.legal) in
    let P : Option Model → Type 0 = λ o. OfWorld o (es ++ more) (λ w. w.options.entries ≤ length (es ++ more)) in
    let Q : List Entry → Type 0 = λ zs. OfWorld (model_in ys) zs (λ w. w.options.entries ≤ length zs) in
    subst Q all (subst P (sym same) (full_of (model_in xs) es more some full))

-- ---- nothing follows a full log

bounded_of : (m : Model) (o : Option Options) (answer : Reply) (es : List Entry) → IsOpenedRun m o answer es → length es + 1 ≤ (unwrap_or o no_options).entries
bounded_of m None answer es run = absurd run
bounded_of m (Some o) answer es run = run.bounded

pub log_is_bounded : (m : Model) (log : List Entry) → Legal m log → length log ≤ (options_of log).entries
log_is_bounded m [] legal = absurd legal
log_is_bounded m (first ∷ es) legal = (let le = bounded_of m (options_in first.event) first.reply es legal in omega arith)

none_more : (es more : List Entry) → length (es ++ more) ≤ length es → more ≡ []
none_more es [] le = refl
none_more es (e ∷ more) le = absurd (omega (arith, length-append es (e ∷ more), le))

nothing_behind : (m : Model) (es more : List Entry) → Legal m (es ++ more) → 0 < length es → (world_of m es).options.entries ≤ length es → more ≡ []
nothing_behind m es more legal some full =
    let same : (options_of (es ++ more)).entries ≡ (world_of m es).options.entries = ap (λ (o : Options). o.entries) (options_on es more some ∙ sym (world_options m es)) in
    let bound = log_is_bounded m (es ++ more) legal in
    none_more es more (omega (arith, same, bound, full))

full_in : (m : Model) (o : Option Model) (es : List Entry) → o ≡ Some m → OfWorld o es (λ w. w.options.entries ≤ length es) → (world_of m es).options.entries ≤ length es
full_in m o es is full =
    let P : Option Model → Type 0 = λ o. OfWorld o es (λ w. w.options.entries ≤ length es) in
    subst P is full

pub some_entries : (xs : List Noted) → IsPlan xs → 0 < length (entries_in xs)
some_entries xs plan = rw (ap entries_in plan.is ∙ entries_in_items plan.model plan.log plan.signs) (log_is_some plan.model plan.log plan.legal)

-- what goes on from a full log has its entries
pub full_ends : (xs ys : List Noted) → IsPlan xs → IsPlan ys → IsPrefix xs ys → model_in ys ≡ model_in xs → IsFull xs → entries_in ys ≡ entries_in xs
full_ends xs ys plan plan2 on same full =
    let es = entries_in xs in
    let more = entries_in on.0 in
    let all : es ++ more ≡ entries_in ys = sym (filter_map-append entry_in xs on.0) ∙ ap entries_in on.1 in
    let log : entries_in ys ≡ plan2.log = ap entries_in plan2.is ∙ entries_in_items plan2.model plan2.log plan2.signs in
    let model : model_in xs ≡ Some plan2.model = sym same ∙ (ap model_in plan2.is ∙ model_in_items plan2.model plan2.log plan2.signs plan2.legal) in
    let legal : Legal plan2.model (es ++ more) = subst (λ (zs : List Entry). Legal plan2.model zs) (sym (all ∙ log)) plan2.legal in
    let none = nothing_behind plan2.model es more legal (some_entries xs plan) (full_in plan2.model (model_in xs) es model full) in
    sym all ∙ (ap (λ (zs : List Entry). es ++ zs) none ∙ append-nil es)

-- the world is the one after the entries
pub same_world : (P : World → Type 0) (xs ys : List Noted) → model_in ys ≡ model_in xs → entries_in ys ≡ entries_in xs → InWorld xs P → InWorld ys P
same_world P xs ys same entries here =
    let Q : Option Model → Type 0 = λ o. OfWorld o (entries_in xs) P in
    let R : List Entry → Type 0 = λ zs. OfWorld (model_in ys) zs P in
    subst R (sym entries) (subst Q (sym same) here)

-- ---- a role has an event in an open round alone

unless_closed : (b d : Bool) (rest : Option Choice) → is_some (if b || d then None else rest) ≡ true → b ≡ false
unless_closed true d rest is = absurd (cc)
unless_closed false d rest is = refl

choice_open : (w : World) → is_some (exec_choice_of w) ≡ true → w.closed ≡ false
unfolding exec_choice_of
choice_open w is = unless_closed w.closed w.done _ is

open_both : (a b : Bool) → (not a && b) ≡ true → a ≡ false
open_both true b is = absurd (cc)
open_both false b is = refl

event_open : (r : Role) (w : World) → has_event r w ≡ true → w.closed ≡ false
event_open (Planner g) w is = open_both w.closed (not w.rested) is
event_open Executive w is = choice_open w is

on_world : (P Q : World → Type 0) (o : Option Model) (es : List Entry) → ((w : World) → P w → Q w) → OfWorld o es P → OfWorld o es Q
on_world P Q None es f h = absurd h
on_world P Q (Some m) es f h = f (world_of m es) h

pub in_world_on : (P Q : World → Type 0) (xs : List Noted) → ((w : World) → P w → Q w) → InWorld xs P → InWorld xs Q
in_world_on P Q xs f h = on_world P Q (model_in xs) (entries_in xs) f h

-- an open round in which the role has an event
abbrev pub IsRunning : Role → World → Type 0
IsRunning r = λ w. (w.closed ≡ false) × (w.done ≡ false) × (has_event r w ≡ true)

pub runs_full : (r : Role) (xs ys : List Noted) → IsPlan xs → IsPlan ys → IsPrefix xs ys → model_in ys ≡ model_in xs → IsFull xs → InWorld xs (λ w. (w.done ≡ false) × (has_event r w ≡ true)) → InWorld ys (IsRunning r)
runs_full r xs ys plan plan2 on same full here =
    same_world (IsRunning r) xs ys same (full_ends xs ys plan plan2 on same full)
    (in_world_on (λ w. (w.done ≡ false) × (has_event r w ≡ true)) (IsRunning r) xs (λ w h. (event_open r w h.1, h.0, h.1)) here)
