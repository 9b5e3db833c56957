-- What is committed can be sent: a commit is granted only where no value of what it commits is out of range.
use Rattle.std.proofs.Common.{◌≡◌, ℕ, zero, suc, ◌+◌, ◌<◌, ◌≤◌, ℤ, List, [], ◌∷◌, ◌++◌, length, Bool, true, false, ◌||◌, int_le, nat_lt, nat_le, All, Option, Some, None, IfSome, Result, Ok, Err, IfOk, ◌↔◌, if◌then◌else◌, refl, sym, ◌∙◌, subst, arith}
use Rattle.std.specs.List.{flat_map}
use Rattle.std.proofs.lemmas.Bool.{leb-false, ltb-false, ltb-true, lt-leb, le-leb, le-ltb, or_left, or_right}
use Rattle.std.proofs.lemmas.Grind.{common_steps}
use Rattle.std.proofs.lemmas.Int.{ints}
use Rattle.std.proofs.lemmas.List.Elements.{All-nil, All-cons, All-head, All-tail, All-get_or, All-from_get_or, All-weaker}
use Rattle.std.proofs.lemmas.Option.{get_or_from_slice_get}
use Rattle.pl_lists.proofs.Tests.{not_and_parts, or_first_false}
use Rattle.pl_lists.proofs.Numbers.{le_from_test}
use Rattle.pl_conflict.specs.declared.conflict.Conflict.{Conflict}
use Rattle.pl_conflict.specs.declared.conflict.Code.TheVariants.{BadValue, Late}
use Rattle.pl_conflict.specs.Order.{has}
use Rattle.pl_conflict.proofs.Sorting.{same, has-append}
use Rattle.pl_model.specs.declared.parameters.Param.{Param}
use Rattle.pl_model.specs.declared.kinds.Kind.{Kind}
use Rattle.pl_model.specs.declared.whole.Model.{Model}
use Rattle.pl_model.specs.Checked.{IsAmount, IsCheckedParam, IsCheckedKind, params_of}
use Rattle.pl_plan.specs.declared.activity.Activity.{Activity}
use Rattle.pl_plan.specs.Fitting.{FitsAlone, kind_of}
use Rattle.pl_plan.specs.Values.{binding_of}
use Rattle.pl_plan.specs.Known.{is_outside, is_bad_param}
use Rattle.pl_semantics.specs.declared.plan_state.PlanState.{PlanState}
use Rattle.pl_semantics.specs.PlanStates.{found, is_committed, row_of, numbered, of_found, reservations_of}
use Rattle.pl_semantics.specs.Activities.{at_start, bindings_of, params_at, value_in, row_above, bad_param, bad_duration, bad_amount, bad_values_at, late_at, unset_at, undetailed_at, overrun_at, wrong_at, wrong_of, activity_conflicts}
use Rattle.pl_semantics.specs.Goals.{goal_conflicts}
use Rattle.pl_semantics.specs.Links.{link_conflicts}
use Rattle.pl_semantics.specs.Timelines.{timeline_conflicts}
use Rattle.pl_semantics.specs.Conflicts.{conflicts_of}
use Rattle.pl_semantics.specs.Grants.{touches_before, IsGrantable}
use Rattle.pl_semantics.specs.Whole.{IsWhole}
use Rattle.pl_plan.proofs.Climbs.{all_at}
use Rattle.pl_plan.proofs.ValueLaws.{values_solve}
use Rattle.pl_entry.proofs.Growth.{due_grows}
use Rattle.pl_entry.proofs.DueLaws.{due_meets, due_only}
use Rattle.pl_entry.specs.Due.{AreDue}
use Rattle.pl_machine.specs.World.{due_in}
use Rattle.pl_entry.specs.declared.event.Event.TheVariants as event
use Rattle.pl_entry.specs.declared.reply.Reply.{Reply}
use Rattle.pl_entry.specs.declared.reply.Reply.TheVariants as reply
use Rattle.pl_semantics.proofs.Standing.{members, activities_by_subject}
use Rattle.pl_semantics.proofs.Granting.{untouched}
use Rattle.pl_update.specs.Changes.Changes.{committed_to}
use Rattle.pl_update.proofs.AboutGoalsAndActivities.Granted.{each_case}
use Rattle.pl_machine.specs.declared.stop.Stop.{Stop}
use Rattle.pl_machine.specs.Sound.{State}
use Rattle.pl_machine.specs.Taking.{Answers}
use Rattle.pl_machine.specs.Keeping.{AreSendable, KeepsStanding}
use Rattle.pl_machine.specs.Step.{behind_of, first_conflict, held_reply, commit_reply}

has-left : (xs ys : List Conflict) (q : Conflict) → has q xs ≡ true → has q (xs ++ ys) ≡ true
has-left xs ys q e = has-append xs ys q ∙ or_left (has q xs) (has q ys) e

has-right : (xs ys : List Conflict) (q : Conflict) → has q ys ≡ true → has q (xs ++ ys) ≡ true
has-right xs ys q e = has-append xs ys q ∙ or_right (has q xs) (has q ys) e

has-itself : (q : Conflict) → has q (q ∷ []) ≡ true
has-itself q = grind (arith, common_steps)

-- ---- no bad parameter

-- whether the parameter of this number has a bad value
abbrev is_bad_at : PlanState → Activity → ℕ × Param → Bool
is_bad_at s a p = is_bad_param (binding_of p.0 (bindings_of s a)) p.1 (row_above s a.parent) (row_of s a) (value_in s a p.0)

first_bad : (s : PlanState) (a : Activity) (p : ℕ × Param) (b : Bool) → is_bad_at s a p ≡ b → (has (at_start a BadValue p.0 0) (bad_param s a p) ≡ true → ⊥) → b ≡ false
first_bad s a p false e none_here = refl
first_bad s a p true e none_here = absurd (none_here (rw e (has-itself (at_start a BadValue p.0 0))))

none_bad : (s : PlanState) (a : Activity) (ps : List (ℕ × Param)) → ((p : ℕ × Param) → has (at_start a BadValue p.0 0) (flat_map (bad_param s a) ps) ≡ true → ⊥) → All (λ p. is_bad_at s a p ≡ false) ps
none_bad s a [] none_here = All-nil (λ (p : ℕ × Param). is_bad_at s a p ≡ false)
none_bad s a (p ∷ ps) none_here =
    All-cons (λ (q : ℕ × Param). is_bad_at s a q ≡ false) p ps
    (first_bad s a p (is_bad_at s a p) refl (λ e. none_here p (has-left (bad_param s a p) (flat_map (bad_param s a) ps) (at_start a BadValue p.0 0) e)))
    (none_bad s a ps (λ q e. none_here q (has-right (bad_param s a p) (flat_map (bad_param s a) ps) (at_start a BadValue q.0 0) e)))

-- a bad parameter stands among the conflicts
stands : (s : PlanState) (a : Activity) → IsWhole s → found s a.id ≡ Some a → is_committed s a ≡ false → (p : ℕ × Param)
    → has (at_start a BadValue p.0 0) (flat_map (bad_param s a) (params_at s a)) ≡ true → has (at_start a BadValue p.0 0) (conflicts_of s) ≡ true
unfolding wrong_at
stands s a whole here planned p e =
    let q = at_start a BadValue p.0 0 in
    let params = flat_map (bad_param s a) (params_at s a) in
    let duration = of_found (bad_duration s a) (kind_of s.model a) in
    let amounts = flat_map (bad_amount s a) (reservations_of s a) in
    let bad : has q (bad_values_at s a) ≡ true = has-left (params ++ duration) amounts q (has-left params duration q e) in
    let by_bad : has q (late_at s a ++ unset_at s a ++ bad_values_at s a) ≡ true = has-right (late_at s a ++ unset_at s a) (bad_values_at s a) q bad in
    let all : has q (late_at s a ++ unset_at s a ++ bad_values_at s a ++ undetailed_at s a ++ overrun_at s a) ≡ true =
    has-left (late_at s a ++ unset_at s a ++ bad_values_at s a ++ undetailed_at s a) (overrun_at s a) q (has-left (late_at s a ++ unset_at s a ++ bad_values_at s a) (undetailed_at s a) q by_bad) in
    let wrong : has q (wrong_at s a) ≡ true = rw planned all in
    let subject : has q (wrong_of s a.id) ≡ true = rw here wrong in
    let others = has q (link_conflicts s) || has q (timeline_conflicts s) in
    let among : (has q (activity_conflicts s) || others) ≡ true = or_left (has q (activity_conflicts s)) others (activities_by_subject s whole.rising q ∙ subject) in
    members s q ∙ or_right (has q (goal_conflicts s)) (has q (activity_conflicts s) || others) among

-- ---- amounts

in_range : (low high v : ℤ) → IsAmount low → IsAmount high → int_le low v ≡ true → int_le v high ≡ true → IsAmount v
in_range low high v least most above below = let up = le_from_test low v above in let down = le_from_test v high below in (omega (arith, ints, least.0, up), omega (arith, ints, most.1, down))

amount_of : (low high : ℤ) (v : Option ℤ) → IsAmount low → IsAmount high → is_outside low high v ≡ false → IfSome v IsAmount
amount_of low high None least most e = tt
amount_of low high (Some v) least most e = let both = not_and_parts (int_le low v) (int_le v high) e in in_range low high v least most both.0 both.1

-- the values of parameters that are not out of range
amounts_from : (values : ℕ → Option ℤ) (n count : ℕ) (ps : List Param) → All (IsCheckedParam count) ps → All (λ (p : ℕ × Param). is_outside p.1.low p.1.high (values p.0) ≡ false) (numbered n ps)
    → (i : ℕ) → i < length ps → IfSome (values (n + i)) IsAmount
amounts_from values n count [] checked ok i lt = absurd (omega (arith, lt))
amounts_from values n count (p ∷ ps) checked ok zero lt =
    let first = All-head (IsCheckedParam count) p ps checked in
    let head = All-head (λ (q : ℕ × Param). is_outside q.1.low q.1.high (values q.0) ≡ false) (n, p) (numbered (suc n) ps) ok in
    let same : n ≡ n + 0 = omega arith in
    subst (λ k. IfSome (values k) IsAmount) same (amount_of p.low p.high (values n) first.least first.greatest head)
amounts_from values n count (p ∷ ps) checked ok (suc i) lt =
    let same : suc n + i ≡ n + suc i = omega arith in
    subst (λ k. IfSome (values k) IsAmount) same (amounts_from values (suc n) count ps (All-tail (IsCheckedParam count) p ps checked) (All-tail (λ (q : ℕ × Param). is_outside q.1.low q.1.high (values q.0) ≡ false) (n, p) (numbered (suc n) ps) ok) i (omega (arith, lt)))

-- ---- a granted commit

all_each : (P : Conflict → Type 0) (ks : List Conflict) → All P ks → (q : Conflict) → has q ks ≡ true → P q
all_each P [] all q h = absurd (cc)
all_each P (k ∷ ks) all q h = each_case P k q (has q ks) (same q k) refl (All-head P k ks all) (all_each P ks (All-tail P k ks all) q) h

kind_at : (model : Model) (a : Activity) (o : Option Kind) → All (IsCheckedKind model) model.kinds → a.kind < length model.kinds → kind_of model a ≡ o → All (IsCheckedParam (length (params_of o))) (params_of o)
kind_at model a o all lt is = cases o is
  where
    cases : (o : Option Kind) → kind_of model a ≡ o → All (IsCheckedParam (length (params_of o))) (params_of o)
    cases None is = All-nil (IsCheckedParam 0)
    cases (Some k) is = (subst (IsCheckedKind model) (get_or_from_slice_get model.kinds a.kind k k is) (All-get_or (IsCheckedKind model) model.kinds a.kind k lt all)).params

module _ (s : PlanState) (h : ℕ) (whole : IsWhole s) (untouched : All (λ (k : Conflict). touches_before h k ≡ false) (conflicts_of s)) where
  -- what is newly committed has no bad value
  planned : (a : Activity) → found s a.id ≡ Some a → is_committed s a ≡ false → a.start < h → All (λ v. IfSome v IsAmount) (row_of s a)
  planned a here new early =
      let ok : All (λ (p : ℕ × Param). is_bad_at s a p ≡ false) (params_at s a) =
      none_bad s a (params_at s a) (λ p e.
      let free : nat_lt a.start h ≡ false = all_each (λ (k : Conflict). touches_before h k ≡ false) (conflicts_of s) untouched (at_start a BadValue p.0 0) (stands s a whole here new p e) in
      let late = ltb-false a.start h free in absurd (omega (arith, early, late))) in
      let inside = All-weaker (λ (p : ℕ × Param). is_bad_at s a p ≡ false) (λ (p : ℕ × Param). is_outside p.1.low p.1.high (value_in s a p.0) ≡ false) (λ p e. or_first_false _ _ e) (params_at s a) ok in
      let alone = (all_at (FitsAlone s.model) s.plan.activities a.id a whole.fits.each here).0 in
      let checked = kind_at s.model a (kind_of s.model a) whole.checked.kinds alone.kind refl in
      let places = (values_solve s.model s.plan.activities whole.checked whole.fits.rooted).places a.id a here in
      All-from_get_or (λ v. IfSome v IsAmount) (row_of s a) None (λ i lt.
      let same : 0 + i ≡ i = omega arith in
      let within : i < length (params_of (kind_of s.model a)) = omega (arith, lt, places) in
      subst (λ k. IfSome (value_in s a k) IsAmount) same (amounts_from (value_in s a) 0 (length (params_of (kind_of s.model a))) (params_of (kind_of s.model a)) checked inside i within))

  pub sendable_then : AreSendable s → AreSendable (committed_to h s)
  sendable_then sendable id a here committed =
      let is : a.id ≡ id = (all_at (FitsAlone s.model) s.plan.activities id a whole.fits.each here).1 in
      let found_here : found s a.id ≡ Some a = subst (λ (n : ℕ). found s n ≡ Some a) (sym is) here in
      cases (is_committed s a) refl found_here
    where
      cases : (b : Bool) → is_committed s a ≡ b → found s a.id ≡ Some a → All (λ v. IfSome v IsAmount) (row_of s a)
      cases true e there = sendable a.id a there e
      cases false e there = planned a there e (ltb-true a.start h committed)

granted : (s : PlanState) (h : ℕ) (behind beyond : Bool) → nat_le h (behind_of s) ≡ behind → nat_lt s.model.horizon h ≡ beyond
    → (if behind then reply.CommitBehind else if beyond then reply.CommitBeyond else held_reply (first_conflict s) h) ≡ reply.Done
    → (behind_of s < h) × (h ≤ s.model.horizon) × (held_reply (first_conflict s) h ≡ reply.Done)
granted s h true beyond e f done = absurd (cc)
granted s h false true e f done = absurd (cc)
granted s h false false e f done = (leb-false h (behind_of s) e, ltb-false s.model.horizon h f, done)

not_held : (o : Option Conflict) (h : ℕ) → held_reply o h ≡ reply.Done → IfSome o (λ k. h ≤ k.from)
not_held None h e = tt
not_held (Some k) h e = ltb-false k.from h (cases (nat_lt k.from h) e)
  where
    cases : (b : Bool) → (if b then reply.Held k else reply.Done) ≡ reply.Done → b ≡ false
    cases true e = absurd (cc)
    cases false e = refl

pub commit_bounds : (s : PlanState) (h : ℕ) → commit_reply s h ≡ reply.Done → (s.committed ≤ h) × (h ≤ s.model.horizon)
commit_bounds s h done = let ok = granted s h (nat_le h (behind_of s)) (nat_lt s.model.horizon h) refl refl done in (omega (arith, ok.0), ok.1)

pub keeps_commit : (s : PlanState) (h : ℕ) → IsWhole s → commit_reply s h ≡ reply.Done → KeepsStanding s (committed_to h s)
keeps_commit s h whole done =
    let ok = granted s h (nat_le h (behind_of s)) (nat_lt s.model.horizon h) refl refl done in
    let free = (untouched s h).1 (not_held (first_conflict s) h ok.2) in
    record {
      model = refl;
      next_id = omega arith;
      due = due_grows s.model s.plan.activities whole.rising s.moment s.committed s.moment h (omega arith) (omega (arith, ok.0));
      sendable = sendable_then s h whole free;
    }

-- ---- nothing comes to be due by a commit: what has started and is not committed is late

late_stands : (s : PlanState) (a : Activity) → IsWhole s → found s a.id ≡ Some a → is_committed s a ≡ false → nat_le a.start s.moment ≡ true → has (at_start a Late 0 0) (conflicts_of s) ≡ true
unfolding wrong_at
late_stands s a whole here planned started =
    let q = at_start a Late 0 0 in
    let late : has q (late_at s a) ≡ true = rw started (has-itself q) in
    let all : has q (late_at s a ++ unset_at s a ++ bad_values_at s a ++ undetailed_at s a ++ overrun_at s a) ≡ true =
    has-left (late_at s a ++ unset_at s a ++ bad_values_at s a ++ undetailed_at s a) (overrun_at s a) q (has-left (late_at s a ++ unset_at s a ++ bad_values_at s a) (undetailed_at s a) q (has-left (late_at s a ++ unset_at s a) (bad_values_at s a) q (has-left (late_at s a) (unset_at s a) q late))) in
    let wrong : has q (wrong_at s a) ≡ true = rw planned all in
    let subject : has q (wrong_of s a.id) ≡ true = rw here wrong in
    let others = has q (link_conflicts s) || has q (timeline_conflicts s) in
    let among : (has q (activity_conflicts s) || others) ≡ true = or_left (has q (activity_conflicts s)) others (activities_by_subject s whole.rising q ∙ subject) in
    members s q ∙ or_right (has q (goal_conflicts s)) (has q (activity_conflicts s) || others) among

module _ (s : PlanState) (h : ℕ) (whole : IsWhole s) (untouched : All (λ (k : Conflict). touches_before h k ≡ false) (conflicts_of s)) where
  -- what has started before the moment is committed
  was_committed : (a : Activity) → found s a.id ≡ Some a → a.start ≤ s.moment → a.start < h → a.start < s.committed
  was_committed a here started early = by (is_committed s a) refl
    where
      by : (b : Bool) → is_committed s a ≡ b → a.start < s.committed
      by true e = ltb-true a.start s.committed e
      by false e =
          let free : nat_lt a.start h ≡ false = all_each (λ (k : Conflict). touches_before h k ≡ false) (conflicts_of s) untouched (at_start a Late 0 0) (late_stands s a whole here e (le-leb a.start s.moment started)) in
          let late = ltb-false a.start h free in absurd (omega (arith, early, late))

  pub due_stays : s.committed ≤ h → due_in (committed_to h s) ≡ due_in s
  due_stays later = sym (due_only s.model s.plan.activities whole.rising s.moment h (due_in s) (record {
    members = λ id. (
      (λ in'. let d = (meets.members id).0 in' in let early = d.2.committed in (d.0, d.1, record { committed = omega (arith, early, later); started = d.2.started; basic = d.2.basic })),
      (λ d. (meets.members id).1 (d.0, d.1, record { committed = was_committed d.0 (itself id d.0 d.1) d.2.started d.2.committed; started = d.2.started; basic = d.2.basic })),
    );
    order = meets.order;
  }))
    where
      meets : AreDue s.model s.plan.activities s.moment s.committed (due_in s)
      meets = due_meets s.model s.plan.activities whole.rising s.moment s.committed

      itself : (id : ℕ) (a : Activity) → found s id ≡ Some a → found s a.id ≡ Some a
      itself id a here = subst (λ (n : ℕ). found s n ≡ Some a) (sym (all_at (FitsAlone s.model) s.plan.activities id a whole.fits.each here).1) here

pub due_committed : (s : PlanState) (h : ℕ) → IsWhole s → commit_reply s h ≡ reply.Done → due_in (committed_to h s) ≡ due_in s
due_committed s h whole done =
    let ok = granted s h (nat_le h (behind_of s)) (nat_lt s.model.horizon h) refl refl done in
    due_stays s h whole ((untouched s h).1 (not_held (first_conflict s) h ok.2)) (omega (arith, ok.0))

-- ---- a commit is granted exactly where no conflict touches what comes before it

held_not : (h : ℕ) (k : Conflict) (b : Bool) → b ≡ false → (if b then reply.Held k else reply.Done) ≡ reply.Done
held_not h k true e = absurd (cc)
held_not h k false e = refl

free_first : (o : Option Conflict) (h : ℕ) → IfSome o (λ k. h ≤ k.from) → held_reply o h ≡ reply.Done
free_first None h free = refl
free_first (Some k) h free = held_not h k (nat_lt k.from h) (le-ltb k.from h free)

done_by : (behind beyond : Bool) (r : Reply) → behind ≡ false → beyond ≡ false → r ≡ reply.Done → (if behind then reply.CommitBehind else if beyond then reply.CommitBeyond else r) ≡ reply.Done
done_by true beyond r e f done = absurd (cc)
done_by false true r e f done = absurd (cc)
done_by false false r e f done = done

pub grants : (s : PlanState) (h : ℕ) → (commit_reply s h ≡ reply.Done) ↔ IsGrantable s h
grants s h = (
  λ done. (let ok = granted s h (nat_le h (behind_of s)) (nat_lt s.model.horizon h) refl refl done in record { later = ok.0; within = ok.1; untouched = (untouched s h).1 (not_held (first_conflict s) h ok.2) }),
  λ free. done_by (nat_le h (behind_of s)) (nat_lt s.model.horizon h) (held_reply (first_conflict s) h) (lt-leb h (behind_of s) free.later) (le-ltb s.model.horizon h free.within) (free_first (first_conflict s) h ((untouched s h).0 free.untouched)),
)

pub answered : (old new : State) (h : ℕ) (r : Result Reply Stop) → Answers old (event.Commit h) r new → IfOk r (λ answer. (answer ≡ reply.Done) ↔ IsGrantable old.world.state h)
answered old new h (Ok answer) took = (
  λ done. (grants old.world.state h).0 (sym took.1.step.answers ∙ done),
  λ free. took.1.step.answers ∙ (grants old.world.state h).1 free,
)
answered old new h (Err e) took = tt
