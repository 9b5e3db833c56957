-- What was sent, among what is due.
use Rattle.std.proofs.Common.{◌≡◌, ℕ, zero, suc, ◌+◌, ◌≤◌, ◌<◌, min, List, [], ◌∷◌, ◌++◌, length, take, Bool, true, false, not, nat_eq, nat_le, nat_lt, ◌&&◌, ℤ, Option, Some, None, slice_get, get_or, Contains, All, IfSome, is_some, refl, sym, ◌∙◌, ap, subst, arith}
use Rattle.std.specs.Prelude.{option_and_then}
use Rattle.std.proofs.lemmas.Bool.{lt-ltb, ltb-true}
use Rattle.std.proofs.lemmas.Grind.{common_steps, get_or_default_zero}
use Rattle.std.proofs.lemmas.List.{length-take, take_more}
use Rattle.std.proofs.lemmas.List.Elements.{Contains-get_or}
use Rattle.std.proofs.lemmas.Option.{slice_get_within, slice_get-get_or, get_or_from_slice_get}
use lib.Pointwise.{pointwise}
use Rattle.pl_lists.proofs.Tests.{and_second}
use Rattle.pl_model.specs.declared.whole.Model.{Model}
use Rattle.pl_entry.specs.declared.entry.Entry.{Entry}
use Rattle.pl_machine.specs.declared.ahead.Ahead.{Ahead}
use Rattle.pl_machine.specs.declared.id_range.IdRange.{IdRange}
use Rattle.pl_machine.specs.World.{World, due_in}
use Rattle.pl_machine.specs.Step.{all_sent, next_due, sent_reply, after_dispatch, after, reply_of}
use Rattle.pl_machine.specs.Keeping.{AreSendable}
use Rattle.pl_plan.specs.declared.activity.Activity.{Activity}
use Rattle.pl_plan.specs.Fitting.{FitsAlone, kind_of}
use Rattle.pl_plan.proofs.Climbs.{all_at}
use Rattle.pl_plan.proofs.ValueLaws.{values_solve}
use Rattle.pl_entry.proofs.DueLaws.{due_meets}
use Rattle.pl_entry.specs.declared.event.Event.TheVariants as event
use Rattle.pl_entry.specs.declared.reply.Reply.{Reply}
use Rattle.pl_entry.specs.declared.reply.Reply.TheVariants as reply
use Rattle.pl_entry.specs.Bounds.{IsWord, IsSent, IsDispatchReply}
use Rattle.pl_model.specs.declared.kinds.Kind.{Kind}
use Rattle.pl_model.specs.Checked.{IsAmount, params_of}
use Rattle.pl_semantics.specs.declared.plan_state.PlanState.{PlanState}
use Rattle.pl_semantics.specs.PlanStates.{found, is_committed, row_of}
use Rattle.pl_semantics.specs.Whole.{IsWhole}
use Rattle.pl_machine.specs.Taking.{IsOpen, Takes}
use Rattle.pl_machine.specs.Sound.{State, IsSound}
use Rattle.pl_machine.proofs.Runs.{sound_step}

same_itself : (n : ℕ) → nat_eq n n ≡ true
same_itself n = grind (arith, common_steps)

none_left : nat_le 0 0 ≡ true
none_left = grind (arith, common_steps)

some_left : (n : ℕ) → nat_le (suc n) 0 ≡ false
some_left n = grind (arith, common_steps)

one_less : (m n : ℕ) → nat_le (suc m) (suc n) ≡ nat_le m n
one_less m n = grind (arith, common_steps)

front_is_all : (n : ℕ) (ys : List ℕ) → n ≤ length ys → nat_le (length ys) n ≡ pointwise nat_eq (take n ys) ys
front_is_all zero [] le = none_left
front_is_all zero (y ∷ ys) le = some_left (length ys)
front_is_all (suc n) [] le = absurd (omega (arith, le))
front_is_all (suc n) (y ∷ ys) le =
    one_less (length ys) n ∙ front_is_all n ys (omega (arith, le)) ∙ sym (ap (λ b. b && pointwise nat_eq (take n ys) ys) (same_itself y))

count_sent : (n : ℕ) (ys : List ℕ) → n ≤ length ys → nat_le (length ys) n ≡ not (nat_lt (length (take n ys)) (length ys))
count_sent n ys le = rw (length-take n ys) (grind (arith, common_steps))

count_is : (n : ℕ) (xs : List ℕ) → n ≤ length xs → length (take n xs) ≡ n
count_is n xs le = length-take n xs ∙ (let same : min n (length xs) ≡ n = omega (arith, le) in same)

pub sent_all : {spoiled : Bool} {m : Model} {log : List Entry} {w : World} {due : List ℕ} {sent : ℕ} {ahead : Ahead} {ranges : List IdRange} (s : State) → record { spoiled = spoiled; model = m; log = log; world = w } ≡ s → IsSound spoiled m log w due sent ahead ranges
    → s.spoiled ≡ false → w.dispatched ≡ take sent due → nat_le (length due) sent ≡ all_sent s.world
sent_all {spoiled} {m} {log} {w} {due} {sent} s is sound unspoiled dispatched =
    let standing = sound.stands (ap (λ (t : State). t.spoiled) is ∙ unspoiled) in
    front_is_all sent due sound.within ∙ ap (λ xs. pointwise nat_eq xs due) (sym dispatched) ∙ ap (λ xs. pointwise nat_eq w.dispatched xs) standing.listed
    ∙ ap (λ (t : State). all_sent t.world) is

pub sent_count : {spoiled : Bool} {m : Model} {log : List Entry} {w : World} {due : List ℕ} {sent : ℕ} {ahead : Ahead} {ranges : List IdRange} (s : State) → record { spoiled = spoiled; model = m; log = log; world = w } ≡ s → IsSound spoiled m log w due sent ahead ranges
    → s.spoiled ≡ false → w.dispatched ≡ take sent due → nat_le (length due) sent ≡ not (nat_lt (length s.world.dispatched) (length (due_in s.world.state)))
sent_count {spoiled} {m} {log} {w} {due} {sent} s is sound unspoiled dispatched =
    let standing = sound.stands (ap (λ (t : State). t.spoiled) is ∙ unspoiled) in
    count_sent sent due sound.within ∙ ap (λ xs. not (nat_lt (length xs) (length due))) (sym dispatched) ∙ ap (λ xs. not (nat_lt (length w.dispatched) (length xs))) standing.listed
    ∙ ap (λ (t : State). not (nat_lt (length t.world.dispatched) (length (due_in t.world.state)))) is

pub left_count : {spoiled : Bool} {m : Model} {log : List Entry} {w : World} {due : List ℕ} {sent : ℕ} {ahead : Ahead} {ranges : List IdRange} (s : State) → record { spoiled = spoiled; model = m; log = log; world = w } ≡ s → IsSound spoiled m log w due sent ahead ranges
    → s.spoiled ≡ false → w.dispatched ≡ take sent due → nat_lt sent (length due) ≡ nat_lt (length s.world.dispatched) (length (due_in s.world.state))
left_count {spoiled} {m} {log} {w} {due} {sent} s is sound unspoiled dispatched =
    let standing = sound.stands (ap (λ (t : State). t.spoiled) is ∙ unspoiled) in
    let place : length w.dispatched ≡ sent = ap length dispatched ∙ count_is sent due sound.within in
    ap (λ (n : ℕ). nat_lt n (length due)) (sym place) ∙ ap (λ (xs : List ℕ). nat_lt (length w.dispatched) (length xs)) standing.listed
    ∙ ap (λ (t : State). nat_lt (length t.world.dispatched) (length (due_in t.world.state))) is

-- ---- the next command

next_at : (s : PlanState) (due : List ℕ) (n : ℕ) → due ≡ due_in s → n < length due → slice_get (due_in s) n ≡ Some (get_or due n 0)
next_at s due n is lt = ap (λ (xs : List ℕ). slice_get xs n) (sym is) ∙ slice_get-get_or due n 0 lt

-- what is next, where something is left
pub next_found : (w : World) (due : List ℕ) (sent : ℕ) → due ≡ due_in w.state → w.dispatched ≡ take sent due → sent < length due → next_due w ≡ found w.state (get_or due sent 0)
next_found w due sent is dispatched lt =
    let le : sent ≤ length due = omega arith in
    let place : length w.dispatched ≡ sent = ap length dispatched ∙ count_is sent due le in
    ap (λ (o : Option ℕ). option_and_then (found w.state) o) (ap (λ (n : ℕ). slice_get (due_in w.state) n) place ∙ next_at w.state due sent is lt)

-- it is live and committed
pub next_live : (s : PlanState) (due : List ℕ) (n : ℕ) → IsWhole s → due ≡ due_in s → n < length due → (a : Activity) × (found s (get_or due n 0) ≡ Some a) × (is_committed s a ≡ true)
next_live s due n whole is lt =
    let meets = due_meets s.model s.plan.activities whole.rising s.moment s.committed in
    let among : Contains (due_in s) (get_or due n 0) = subst (λ (xs : List ℕ). Contains xs (get_or due n 0)) is (Contains-get_or due n 0 lt) in
    let live = (meets.members (get_or due n 0)).0 among in
    (live.0, live.1, lt-ltb live.0.start s.committed live.2.committed)

pub found_itself : (s : PlanState) (id : ℕ) (a : Activity) → IsWhole s → Some a ≡ found s id → found s a.id ≡ Some a
found_itself s id a whole here = let is : a.id ≡ id = (all_at (FitsAlone s.model) s.plan.activities id a whole.fits.each (sym here)).1 in subst (λ (n : ℕ). found s n ≡ Some a) (sym is) (sym here)

pub next_of : (s : State) {spoiled : Bool} {m : Model} {log : List Entry} {w : World} {due : List ℕ} {sent : ℕ} {ahead : Ahead} {ranges : List IdRange} (id : ℕ) → record { spoiled = spoiled; model = m; log = log; world = w } ≡ s → IsSound spoiled m log w due sent ahead ranges
    → s.spoiled ≡ false → w.dispatched ≡ take sent due → IsWhole s.world.state → length s.world.dispatched < length (due_in s.world.state) → id ≡ get_or due sent id
    → (a : Activity) × (found s.world.state id ≡ Some a) × (is_committed s.world.state a ≡ true) × (found s.world.state a.id ≡ Some a) × (next_due s.world ≡ Some a)
next_of s {spoiled} {m} {log} {w} {due} {sent} id is sound unspoiled dispatched whole left read =
    let standing = sound.stands (ap (λ (t : State). t.spoiled) is ∙ unspoiled) in
    let same : w ≡ s.world = ap (λ (t : State). t.world) is in
    let lt : sent < length due = ltb-true sent (length due) (left_count s is sound unspoiled dispatched ∙ lt-ltb (length s.world.dispatched) (length (due_in s.world.state)) left) in
    let id_is : id ≡ get_or due sent 0 = read ∙ get_or_default_zero due sent id lt in
    let whole_before : IsWhole w.state = subst (λ (v : World). IsWhole v.state) (sym same) whole in
    let live = next_live w.state due sent whole_before standing.listed lt in
    let here : found w.state id ≡ Some live.0 = ap (found w.state) id_is ∙ live.1 in
    let itself : found w.state live.0.id ≡ Some live.0 = found_itself w.state id live.0 whole_before (sym here) in
    let next : next_due w ≡ Some live.0 = next_found w due sent standing.listed dispatched lt ∙ live.1 in (
      live.0,
      subst (λ (v : World). found v.state id ≡ Some live.0) same here,
      subst (λ (v : World). is_committed v.state live.0 ≡ true) same live.2,
      subst (λ (v : World). found v.state live.0.id ≡ Some live.0) same itself,
      subst (λ (v : World). next_due v ≡ Some live.0) same next,
    )

kind_there : (kinds : List Kind) (n : ℕ) → n < length kinds → is_some (slice_get kinds n) ≡ true
kind_there [] n lt = absurd (omega arith)
kind_there (k ∷ kinds) zero lt = refl
kind_there (k ∷ kinds) (suc n) lt = kind_there kinds n (omega arith)

sent_by : (id start : ℕ) (values : List (Option ℤ)) (o : Option Kind) → is_some o ≡ true → IsWord id → IsWord start → length values ≡ length (params_of o) → All (λ v. IfSome v IsAmount) values → IsSent id start values o
sent_by id start values None there id_fits start_fits places all = absurd (cc)
sent_by id start values (Some k) there id_fits start_fits places all = (id_fits, start_fits, places, all)

-- the command of a committed activity is within its bounds
pub is_command : (s : PlanState) (a : Activity) (id kind start : ℕ) (values : List (Option ℤ)) → id ≡ a.id → kind ≡ a.kind → start ≡ a.start → values ≡ row_of s a
    → IsWhole s → AreSendable s → found s a.id ≡ Some a → is_committed s a ≡ true → IsWord a.id → IsWord a.kind → IsWord a.start → IsDispatchReply s.model (reply.Sent id kind start values)
is_command s a id kind start values id_is kind_is start_is values_are whole sendable here committed id_fits kind_fits start_fits =
    let alone = (all_at (FitsAlone s.model) s.plan.activities a.id a whole.fits.each here).0 in
    let places = (values_solve s.model s.plan.activities whole.checked whole.fits.rooted).places a.id a here in
    let known : slice_get s.model.kinds kind ≡ kind_of s.model a = ap (λ (n : ℕ). slice_get s.model.kinds n) kind_is in
    let sent : IsSent id start values (kind_of s.model a) =
    sent_by id start values (kind_of s.model a) (kind_there s.model.kinds a.kind alone.kind) (subst IsWord (sym id_is) id_fits) (subst IsWord (sym start_is) start_fits) (ap length values_are ∙ places)
    (subst (λ (row : List (Option ℤ)). All (λ v. IfSome v IsAmount) row) (sym values_are) (sendable a.id a here committed)) in
    (subst IsWord (sym kind_is) kind_fits, subst (IsSent id start values) (sym known) sent)

-- ---- one more is sent

id_of_next : (s : PlanState) (o : Option ℕ) (a : Activity) → IsWhole s → option_and_then (found s) o ≡ Some a → o ≡ Some a.id
id_of_next s None a whole here = absurd (cc)
id_of_next s (Some id) a whole here = ap (λ (n : ℕ). Some n) (sym (all_at (FitsAlone s.model) s.plan.activities id a whole.fits.each here).1)

one_more : (due : List ℕ) (n id : ℕ) → slice_get due n ≡ Some id → take (n + 1) due ≡ take n due ++ id ∷ []
one_more due n id here = take_more due n id (slice_get_within due n id here) ∙ ap (λ (x : ℕ). take n due ++ x ∷ []) (get_or_from_slice_get due n id id here)

-- the world after a dispatch, by what is next
sent_world : (m : Model) (w : World) (answer : Reply) (o : Option Activity) → next_due w ≡ o → IsDispatchReply m answer → answer ≡ sent_reply w.state o
    → (a : Activity) × (next_due w ≡ Some a) × (after_dispatch w answer ≡ record w { dispatched = w.dispatched ++ a.id ∷ [] })
sent_world m w answer None is replies answers = absurd (subst (IsDispatchReply m) answers replies)
sent_world m w answer (Some a) is replies answers = (a, is, ap (after_dispatch w) answers)

pub left_of_open : (s : State) {spoiled : Bool} {m : Model} {log : List Entry} {w : World} {due : List ℕ} {sent : ℕ} {ahead : Ahead} {ranges : List IdRange} → record { spoiled = spoiled; model = m; log = log; world = w } ≡ s → IsSound spoiled m log w due sent ahead ranges
    → w.dispatched ≡ take sent due → IsOpen s event.Dispatch → sent < length due
left_of_open s {spoiled} {m} {log} {w} {due} {sent} is sound dispatched may =
    ltb-true sent (length due) (left_count s is sound may.unspoiled dispatched ∙ and_second (not s.world.closed) (nat_lt (length s.world.dispatched) (length (due_in s.world.state))) may.enabled)

sent_more : (s : State) {spoiled : Bool} {m : Model} {log : List Entry} {w : World} {due : List ℕ} {sent : ℕ} {ahead : Ahead} {ranges : List IdRange} (answer : Reply)
    → record { spoiled = spoiled; model = m; log = log; world = w } ≡ s → IsSound spoiled m log w due sent ahead ranges → w.dispatched ≡ take sent due → IsWhole w.state → IsOpen s event.Dispatch
    → IsDispatchReply s.model answer → answer ≡ reply_of s.world event.Dispatch → (sent < length due) × (record w { dispatched = take (sent + 1) due } ≡ after s.world event.Dispatch)
sent_more s {spoiled} {m} {log} {w} {due} {sent} answer is sound dispatched whole may replies answers =
    let unspoiled : spoiled ≡ false = ap (λ (t : State). t.spoiled) is ∙ may.unspoiled in
    let same : w ≡ s.world = ap (λ (t : State). t.world) is in
    let standing = sound.stands unspoiled in
    let answers2 : answer ≡ sent_reply w.state (next_due w) = answers ∙ ap (λ (v : World). sent_reply v.state (next_due v)) (sym same) in
    let next = sent_world s.model w answer (next_due w) refl replies answers2 in
    let place : length w.dispatched ≡ sent = ap length dispatched ∙ count_is sent due sound.within in
    let at : slice_get (due_in w.state) (length w.dispatched) ≡ Some next.0.id = id_of_next w.state (slice_get (due_in w.state) (length w.dispatched)) next.0 whole next.1 in
    let here : slice_get due sent ≡ Some next.0.id = ap (λ (n : ℕ). slice_get due n) (sym place) ∙ ap (λ (xs : List ℕ). slice_get xs (length w.dispatched)) standing.listed ∙ at in
    let longer : take (sent + 1) due ≡ w.dispatched ++ next.0.id ∷ [] = one_more due sent next.0.id here ∙ ap (λ (xs : List ℕ). xs ++ next.0.id ∷ []) (sym dispatched) in (
      slice_get_within due sent next.0.id here,
      ap (λ (xs : List ℕ). record w { dispatched = xs }) longer ∙ sym next.2 ∙ ap (λ (v : World). after_dispatch v answer) same ∙ ap (after_dispatch s.world) answers,
    )

pub sound_sent : (s : State) {spoiled : Bool} {m : Model} {log : List Entry} {w : World} {due : List ℕ} {sent : ℕ} {ahead : Ahead} {ranges : List IdRange} (spoiled2 : Bool) (answer : Reply)
    → record { spoiled = spoiled; model = m; log = log; world = w } ≡ s → IsSound spoiled m log w due sent ahead ranges → w.dispatched ≡ take sent due → IsWhole w.state → IsOpen s event.Dispatch
    → IsDispatchReply s.model answer → answer ≡ reply_of s.world event.Dispatch
    → IsSound spoiled2 m (log ++ record { event = event.Dispatch; reply = answer } ∷ []) (record w { dispatched = take (sent + 1) due }) due (sent + 1) ahead ranges
sound_sent s {spoiled} {m} {log} {w} {due} {sent} {ahead} {ranges} spoiled2 answer is sound dispatched whole may replies answers =
    let unspoiled : spoiled ≡ false = ap (λ (t : State). t.spoiled) is ∙ may.unspoiled in
    let standing = sound.stands unspoiled in
    let more = sent_more s answer is sound dispatched whole may replies answers in
    sound_step s spoiled2 (record w { dispatched = take (sent + 1) due }) due (sent + 1) ahead ranges event.Dispatch answer is sound may tt replies answers more.1 (record {
      options = refl;
      model = refl;
      due = standing.listed;
      looked = standing.looked;
      sent = (let lt : sent < length due = more.0 in omega arith);
      turn = sound.turn;
      sendable = standing.sendable;
      next_id = omega arith;
    })

pub took_sent : (s : State) {spoiled : Bool} {m : Model} {log : List Entry} {w : World} {due : List ℕ} {sent : ℕ} {ahead : Ahead} {ranges : List IdRange} (spoiled2 : Bool) (answer : Reply)
    → record { spoiled = spoiled; model = m; log = log; world = w } ≡ s → IsSound spoiled m log w due sent ahead ranges → w.dispatched ≡ take sent due → IsWhole w.state → IsOpen s event.Dispatch
    → IsDispatchReply s.model answer → answer ≡ reply_of s.world event.Dispatch → spoiled2 ≡ false
    → IsOpen s event.Dispatch × Takes s event.Dispatch answer (record { spoiled = spoiled2; model = m; log = log ++ record { event = event.Dispatch; reply = answer } ∷ []; world = record w { dispatched = take (sent + 1) due } })
took_sent s {spoiled} {m} {log} {w} {due} {sent} spoiled2 answer is sound dispatched whole may replies answers unspoiled =
    let more = sent_more s answer is sound dispatched whole may replies answers in (
      may,
      record {
        step = record { enabled = may.enabled; answers = answers; leaves = more.1 };
        log = ap (λ (t : State). t.log ++ record { event = event.Dispatch; reply = answer } ∷ []) is;
        spoiled = unspoiled;
        model = ap (λ (t : State). t.model) is;
        options = ap (λ (t : State). t.world.options) is;
      },
    )
