-- Two logs of one thread whose inputs agree.
use Rattle.std.proofs.Common.{◌≡◌, ℕ, ◌+◌, ◌≤◌, List, [], ◌∷◌, ◌++◌, length, Bool, true, false, not, ◌&&◌, Option, Some, None, refl, sym, ◌∙◌, ap, subst, length-append, arith}
use Rattle.std.specs.Prelude.{unwrap_or}
use Rattle.std.specs.List.{cons_option}
use Rattle.std.proofs.lemmas.List.{append-nil}
use Rattle.std.proofs.lemmas.Bool.{not-true}
use Rattle.pl_model.specs.declared.whole.Model.{Model}
use Rattle.pl_facts.specs.declared.options.Options.{Options}
use Rattle.pl_entry.specs.declared.event.Event.{Event}
use Rattle.pl_entry.specs.declared.event.Event.TheVariants as event
use Rattle.pl_entry.specs.declared.reply.Reply.{Reply}
use Rattle.pl_entry.specs.declared.entry.Entry.{Entry}
use Rattle.pl_machine.specs.World.{World, fresh_world}
use Rattle.pl_machine.specs.Step.{is_enabled, reply_of, after}
use Rattle.pl_machine.specs.Legal.{MayFollow, legal_from, world_from, Legal, IsOpenedRun, options_in, options_of, no_options, entries_behind, world_of}
use Rattle.pl_main.specs.Solo.{solo_event, IsSoloEvent, FollowsAll, solo_from, Solo}
use Rattle.pl_machine.specs.Finished.{input_in, inputs_of}
use Rattle.pl_pair.proofs.Ending.{legal_behind}
use Rattle.pl_main.proofs.Playing.{inputs_append}

abbrev Message : Type 0
Message = Option (List ℕ)

-- ---- one entry

fixed : (w : World) (e : Event) → input_in e ≡ None → IsSoloEvent w e → solo_event w ≡ Some e
fixed w (event.Opened o) none solo = solo
fixed w (event.Input line) none solo = absurd (let h : Some line ≡ None = none in (cc))
fixed w (event.Fix k m) none solo = solo
fixed w event.Rest none solo = solo
fixed w (event.Commit h) none solo = solo
fixed w event.Dispatch none solo = solo
fixed w event.Close none solo = solo

is_input : (e : Event) (line : Message) → input_in e ≡ Some line → e ≡ event.Input line
is_input (event.Opened o) line is = absurd (let h : None ≡ Some line = is in (cc))
is_input (event.Input found) line is = (let h : Some found ≡ Some line = is in (cc))
is_input (event.Fix k m) line is = absurd (let h : None ≡ Some line = is in (cc))
is_input event.Rest line is = absurd (let h : None ≡ Some line = is in (cc))
is_input (event.Commit h) line is = absurd (let h : None ≡ Some line = is in (cc))
is_input event.Dispatch line is = absurd (let h : None ≡ Some line = is in (cc))
is_input event.Close line is = absurd (let h : None ≡ Some line = is in (cc))

both_true : (a b : Bool) → a && b ≡ true → (a ≡ true) × (b ≡ true)
both_true true true e = (refl, refl)
both_true true false e = absurd (let h : false ≡ true = e in (cc))
both_true false b e = absurd (let h : false ≡ true = e in (cc))

-- where an event that is no input is enabled, a round is open
in_round : (w : World) (e : Event) → input_in e ≡ None → is_enabled w e ≡ true → w.closed ≡ false
in_round w (event.Opened o) none on = absurd (let h : false ≡ true = on in (cc))
in_round w (event.Input line) none on = absurd (let h : Some line ≡ None = none in (cc))
in_round w (event.Fix k m) none on = not-true w.closed (both_true (not w.closed) _ on).0
in_round w event.Rest none on = not-true w.closed (both_true (not w.closed) _ on).0
in_round w (event.Commit h) none on = not-true w.closed on
in_round w event.Dispatch none on = not-true w.closed (both_true (not w.closed) _ on).0
in_round w event.Close none on = not-true w.closed (both_true (not w.closed) _ on).0

waits_closed : (w : World) (line : Message) → is_enabled w (event.Input line) ≡ true → (w.closed ≡ true) × (w.done ≡ false)
waits_closed w line on = let both = both_true w.closed (not w.done) on in (both.0, not-true w.done both.1)

closed_not : (w : World) → w.closed ≡ true → w.closed ≡ false → ⊥
closed_not w yes_ no_ = (let h : true ≡ false = sym yes_ ∙ no_ in (cc))

abbrev pub entry_by : Event → Reply → Entry
entry_by e r = record { event = e; reply = r }

entries_same : (e f : Event) (r s : Reply) → e ≡ f → r ≡ s → entry_by e r ≡ entry_by f s
entries_same e f r s p q = cc

-- the next entries are one, where the inputs agree
same_event : (w : World) (e f : Event) (a b : Option Message) → input_in e ≡ a → input_in f ≡ b → is_enabled w e ≡ true → is_enabled w f ≡ true → IsSoloEvent w e → IsSoloEvent w f
    → ((x y : Message) → a ≡ Some x → b ≡ Some y → x ≡ y) → e ≡ f
same_event w e f None None ea fb on1 on2 s1 s2 agree =
    let h : Some e ≡ Some f = sym (fixed w e ea s1) ∙ fixed w f fb s2 in (cc)
same_event w e f None (Some y) ea fb on1 on2 s1 s2 agree =
    let input = is_input f y fb in
    absurd (closed_not w (waits_closed w y (subst (λ (v : Event). is_enabled w v ≡ true) input on2)).0 (in_round w e ea on1))
same_event w e f (Some x) None ea fb on1 on2 s1 s2 agree =
    let input = is_input e x ea in
    absurd (closed_not w (waits_closed w x (subst (λ (v : Event). is_enabled w v ≡ true) input on1)).0 (in_round w f fb on2))
same_event w e f (Some x) (Some y) ea fb on1 on2 s1 s2 agree =
    is_input e x ea ∙ ap (λ (v : Message). event.Input v) (agree x y refl refl) ∙ sym (is_input f y fb)

-- ---- the entries

heads_agree : (a b : Option Message) (xs ys more : List Message) → cons_option b ys ≡ cons_option a xs ++ more → (x y : Message) → a ≡ Some x → b ≡ Some y → x ≡ y
heads_agree None b xs ys more e x y p q = absurd (let h : None ≡ Some x = p in (cc))
heads_agree (Some v) None xs ys more e x y p q = absurd (let h : None ≡ Some y = q in (cc))
heads_agree (Some v) (Some u) xs ys more e x y p q =
    let h : u ∷ ys ≡ v ∷ (xs ++ more) = e in
    let one : Some v ≡ Some x = p in
    let two : Some u ≡ Some y = q in
    (cc)

rest_agrees : (a b : Option Message) (xs ys more : List Message) → a ≡ b → cons_option b ys ≡ cons_option a xs ++ more → ys ≡ xs ++ more
rest_agrees None None xs ys more same e = e
rest_agrees None (Some u) xs ys more same e = absurd (let h : None ≡ Some u = same in (cc))
rest_agrees (Some v) None xs ys more same e = absurd (let h : Some v ≡ None = same in (cc))
rest_agrees (Some v) (Some u) xs ys more same e = (let h : u ∷ ys ≡ v ∷ (xs ++ more) = e in (cc))

-- one list of entries is a front of the other
pub data AreOne (xs ys : List Entry) : Type 0 where
  log_further : (more : List Entry) → ys ≡ xs ++ more → AreOne xs ys
  log_shorter : (more : List Entry) → xs ≡ ys ++ more → AreOne xs ys

one_more : (x y : Entry) (xs ys : List Entry) → x ≡ y → AreOne xs ys → AreOne (x ∷ xs) (y ∷ ys)
one_more x y xs ys same (log_further more e) = log_further more (ap (λ (b : Entry). b ∷ ys) (sym same) ∙ ap (λ (es : List Entry). x ∷ es) e)
one_more x y xs ys same (log_shorter more e) = log_shorter more (ap (λ (b : Entry). b ∷ xs) same ∙ ap (λ (es : List Entry). y ∷ es) e)

are_one : (w : World) (xs ys : List Entry) (more : List Message) → legal_from w xs → legal_from w ys → solo_from w xs → solo_from w ys → inputs_of ys ≡ inputs_of xs ++ more → AreOne xs ys
are_one w [] ys more l1 l2 s1 s2 e = log_further ys refl
are_one w (x ∷ xs) [] more l1 l2 s1 s2 e = log_shorter (x ∷ xs) refl
are_one w (x ∷ xs) (y ∷ ys) more l1 l2 s1 s2 e =
    let same : x.event ≡ y.event = same_event w x.event y.event (input_in x.event) (input_in y.event) refl refl l1.0.enabled l2.0.enabled s1.0 s2.0 (heads_agree (input_in x.event) (input_in y.event) (inputs_of xs) (inputs_of ys) more e) in
    let replies : x.reply ≡ y.reply = l1.0.answers ∙ ap (λ (v : Event). reply_of w v) same ∙ sym l2.0.answers in
    let entries : x ≡ y = entries_same x.event y.event x.reply y.reply same replies in
    let rest : inputs_of ys ≡ inputs_of xs ++ more = rest_agrees (input_in x.event) (input_in y.event) (inputs_of xs) (inputs_of ys) more (ap (λ (v : Event). input_in v) same) e in
    one_more x y xs ys entries (are_one (after w x.event) xs ys more l1.1 (subst (λ (v : Event). legal_from (after w v) ys) (sym same) l2.1) s1.1 (subst (λ (v : Event). solo_from (after w v) ys) (sym same) s2.1) rest)

-- the first entry behind a closed round is an input, and there is none behind the end
first_behind : (w : World) (z : Entry) (a : Option Message) → input_in z.event ≡ a → MayFollow w z → w.closed ≡ true → (line : Message) × (a ≡ Some line) × (w.done ≡ false)
first_behind w z None is may closed = absurd (closed_not w closed (in_round w z.event is may.enabled))
first_behind w z (Some line) is may closed =
    (line, refl, (waits_closed w line (subst (λ (v : Event). is_enabled w v ≡ true) (is_input z.event line is) may.enabled)).1)

-- ---- the logs

no_input : (e : Event) (o : Options) → options_in e ≡ Some o → input_in e ≡ None
no_input (event.Opened p) o is = refl
no_input (event.Input line) o is = absurd (let h : None ≡ Some o = is in (cc))
no_input (event.Fix k m) o is = absurd (let h : None ≡ Some o = is in (cc))
no_input event.Rest o is = absurd (let h : None ≡ Some o = is in (cc))
no_input (event.Commit h) o is = absurd (let g : None ≡ Some o = is in (cc))
no_input event.Dispatch o is = absurd (let h : None ≡ Some o = is in (cc))
no_input event.Close o is = absurd (let h : None ≡ Some o = is in (cc))

pub record IsOpened (m : Model) (o : Options) (log : List Entry) : Type 0 where
  pub steps : legal_from (fresh_world m o) (entries_behind log)
  pub bounded : length (entries_behind log) + 1 ≤ o.entries
  pub count : length log ≡ length (entries_behind log) + 1
  pub inputs : inputs_of log ≡ inputs_of (entries_behind log)
  pub solo : solo_from (fresh_world m o) (entries_behind log)
  pub world : world_of m log ≡ world_from (fresh_world m o) (entries_behind log)

opened_by : (m : Model) (first : Entry) (entries : List Entry) (o : Option Options) → options_in first.event ≡ o → IsOpenedRun m o first.reply entries → Solo m (first ∷ entries) → IsOpened m (unwrap_or o no_options) (first ∷ entries)
unfolding FollowsAll world_of
opened_by m first entries None is run solo = absurd run
opened_by m first entries (Some o) is run solo = record {
  steps = run.steps;
  bounded = run.bounded;
  count = omega arith;
  inputs = ap (λ (a : Option Message). cons_option a (inputs_of entries)) (no_input first.event o is);
  solo = subst (λ (p : Option Options). solo_from (fresh_world m (unwrap_or p no_options)) entries) is solo;
  world = ap (λ (p : Option Options). world_from (fresh_world m (unwrap_or p no_options)) entries) is;
}

opened : (m : Model) (log : List Entry) → Legal m log → Solo m log → IsOpened m (options_of log) log
opened m [] legal solo = absurd legal
opened m (first ∷ entries) legal solo = opened_by m first entries (options_in first.event) refl legal solo

pub opened_with : (m : Model) (o : Options) (log : List Entry) → Legal m log → Solo m log → options_of log ≡ o → IsOpened m o log
opened_with m o log legal solo is = subst (λ (p : Options). IsOpened m p log) is (opened m log legal solo)

pub logs_are_one : (m : Model) (o : Options) (xs ys : List Entry) (more : List Message) → IsOpened m o xs → IsOpened m o ys → inputs_of ys ≡ inputs_of xs ++ more → AreOne (entries_behind xs) (entries_behind ys)
logs_are_one m o xs ys more first second e =
    are_one (fresh_world m o) (entries_behind xs) (entries_behind ys) more first.steps second.steps first.solo second.solo
    (sym second.inputs ∙ e ∙ ap (λ (ns : List Message). ns ++ more) first.inputs)

none_more : (xs ys more : List Entry) → ys ≡ xs ++ more → length ys ≤ length xs → xs ≡ ys
none_more xs ys [] is short = sym (is ∙ append-nil xs)
none_more xs ys (z ∷ zs) is short = absurd (
    let whole : length ys ≡ length (xs ++ z ∷ zs) = ap (λ (es : List Entry). length es) is in
    let parts : length (xs ++ z ∷ zs) ≡ length xs + length (z ∷ zs) = length-append xs (z ∷ zs) in
    let some : length (z ∷ zs) ≡ length zs + 1 = omega arith in
    omega (arith, whole, parts, some, short))

same_world : (m : Model) (o : Options) (xs ys : List Entry) → IsOpened m o xs → IsOpened m o ys → entries_behind xs ≡ entries_behind ys → world_of m xs ≡ world_of m ys
same_world m o xs ys first second same = first.world ∙ ap (λ (es : List Entry). world_from (fresh_world m o) es) same ∙ sym second.world

no_more_inputs : (xs more : List Message) → xs ≡ xs ++ more → more ≡ []
no_more_inputs xs [] e = refl
no_more_inputs xs (x ∷ more) e = absurd (
    let whole : length xs ≡ length (xs ++ x ∷ more) = ap (λ (ns : List Message). length ns) e in
    let parts : length (xs ++ x ∷ more) ≡ length xs + length (x ∷ more) = length-append xs (x ∷ more) in
    let some : length (x ∷ more) ≡ length more + 1 = omega arith in
    omega (arith, whole, parts, some))

-- what stands behind a closed log begins with an input
by_input : (m : Model) (o : Options) (longer closed : List Entry) (z : Entry) (zs : List Entry) → IsOpened m o longer → IsOpened m o closed → (world_of m closed).closed ≡ true
    → entries_behind longer ≡ entries_behind closed ++ z ∷ zs → (line : Message) × (inputs_of longer ≡ inputs_of closed ++ (line ∷ inputs_of zs))
by_input m o longer closed z zs first second shut is =
    let rest = legal_behind (fresh_world m o) (entries_behind closed) (z ∷ zs) (subst (λ (es : List Entry). legal_from (fresh_world m o) es) is first.steps) in
    let waits : (world_from (fresh_world m o) (entries_behind closed)).closed ≡ true = ap (λ (w : World). w.closed) (sym second.world) ∙ shut in
    let next = first_behind (world_from (fresh_world m o) (entries_behind closed)) z (input_in z.event) refl rest.0 waits in (
      next.0,
      first.inputs ∙ ap (λ (es : List Entry). inputs_of es) is ∙ inputs_append (entries_behind closed) (z ∷ zs)
          ∙ ap (λ (ns : List Message). ns ++ cons_option (input_in z.event) (inputs_of zs)) (sym second.inputs)
          ∙ ap (λ (a : Option Message). inputs_of closed ++ cons_option a (inputs_of zs)) next.1,
    )

-- Two closed logs with the same inputs are one log.
pub closed_are_one : (m : Model) (o : Options) (one other : List Entry) → IsOpened m o one → IsOpened m o other → inputs_of other ≡ inputs_of one
    → (world_of m one).closed ≡ true → (world_of m other).closed ≡ true → entries_behind one ≡ entries_behind other
closed_are_one m o one other first second same shut shut2 = by (logs_are_one m o one other [] first second (same ∙ sym (append-nil (inputs_of one))))
  where
    none_longer : (longer closed zs : List Entry) → IsOpened m o longer → IsOpened m o closed → inputs_of longer ≡ inputs_of closed → (world_of m closed).closed ≡ true
        → entries_behind longer ≡ entries_behind closed ++ zs → entries_behind longer ≡ entries_behind closed
    none_longer longer closed [] a b e waits is = is ∙ append-nil (entries_behind closed)
    none_longer longer closed (z ∷ zs) a b e waits is =
        let on = by_input m o longer closed z zs a b waits is in
        absurd (let none : on.0 ∷ inputs_of zs ≡ [] = no_more_inputs (inputs_of closed) (on.0 ∷ inputs_of zs) (sym e ∙ on.1) in (cc))

    by : AreOne (entries_behind one) (entries_behind other) → entries_behind one ≡ entries_behind other
    by (log_further zs is) = sym (none_longer other one zs second first same shut is)
    by (log_shorter zs is) = none_longer one other zs first second (sym same) shut2 is

-- A log as long as its options allow and a closed one whose inputs begin with its own are one log.
pub full_and_closed : (m : Model) (o : Options) (full other : List Entry) (more : List Message) → IsOpened m o full → IsOpened m o other → inputs_of other ≡ inputs_of full ++ more
    → length full ≡ o.entries → (world_of m other).closed ≡ true → (world_of m full ≡ world_of m other) × (more ≡ [])
full_and_closed m o full other more first second e long closed = by_one (logs_are_one m o full other more first second e)
  where
    same_log : entries_behind full ≡ entries_behind other → (world_of m full ≡ world_of m other) × (more ≡ [])
    same_log same =
        let inputs : inputs_of full ≡ inputs_of other = first.inputs ∙ ap (λ (es : List Entry). inputs_of es) same ∙ sym second.inputs in
        (same_world m o full other first second same, no_more_inputs (inputs_of full) more (inputs ∙ e))

    by_more : (zs : List Entry) → entries_behind full ≡ entries_behind other ++ zs → (world_of m full ≡ world_of m other) × (more ≡ [])
    by_more [] is = same_log (is ∙ append-nil (entries_behind other))
    by_more (z ∷ zs) is =
        let on = by_input m o full other z zs first second closed is in
        absurd (
        let one : length (inputs_of full) ≡ length (inputs_of other ++ (on.0 ∷ inputs_of zs)) = ap (λ (ns : List Message). length ns) on.1 in
        let two : length (inputs_of other ++ (on.0 ∷ inputs_of zs)) ≡ length (inputs_of other) + length (on.0 ∷ inputs_of zs) = length-append (inputs_of other) (on.0 ∷ inputs_of zs) in
        let three : length (on.0 ∷ inputs_of zs) ≡ length (inputs_of zs) + 1 = omega arith in
        let four : length (inputs_of other) ≡ length (inputs_of full ++ more) = ap (λ (ns : List Message). length ns) e in
        let five : length (inputs_of full ++ more) ≡ length (inputs_of full) + length more = length-append (inputs_of full) more in
        omega (arith, one, two, three, four, five))

    by_one : AreOne (entries_behind full) (entries_behind other) → (world_of m full ≡ world_of m other) × (more ≡ [])
    by_one (log_further zs is) = same_log (none_more (entries_behind full) (entries_behind other) zs is (omega (arith, first.count, long, second.bounded)))
    by_one (log_shorter zs is) = by_more zs is
