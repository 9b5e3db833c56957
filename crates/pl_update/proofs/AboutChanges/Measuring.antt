-- A measured end replaces the activity of its id by itself with this end, and leaves a plan state whole.
use Rattle.std.proofs.Common.{◌≡◌, ℕ, ◌<◌, ◌≤◌, eqb, Bool, true, false, cond, List, [], ◌∷◌, length, get_or, Some, refl, sym, ap, ◌∙◌, subst, arith}
use Rattle.std.specs.Option.{option_map}
use Rattle.std.proofs.lemmas.Bool.{eqb-true, eq-eqb}
use Rattle.std.proofs.lemmas.Option.{same_Some}
use Rattle.std.proofs.lemmas.List.{length-map}
use Rattle.std.proofs.lemmas.List.Elements.{All-nil, All-cons}
use Rattle.pl_plan.specs.declared.activity.Activity.{Activity}
use Rattle.pl_plan.specs.Activities.{IsLive, activity_of, placed, without, ended, with_end}
use Rattle.pl_plan.specs.Fitting.{Fits, FitsAlone}
use Rattle.pl_plan.specs.Moves.{KeepsTree}
use Rattle.pl_plan.specs.Values.{values_of}
use Rattle.pl_plan.proofs.Ends.{end_exchanged}
use Rattle.pl_plan.proofs.Ids.{found_at}
use Rattle.pl_plan.proofs.MoveLaws.{fits_changed}
use Rattle.pl_semantics.specs.declared.plan_state.PlanState.{PlanState}
use Rattle.pl_semantics.specs.PlanStates.{found, among}
use Rattle.pl_semantics.specs.Whole.{IsWhole, IsCarried, IsIdBelow, HasBegun}
use Rattle.pl_semantics.proofs.Found.{found_id, found_live, all_found}
use Rattle.pl_update.specs.Changes.Changes.{measured_to, CanMeasure}
use Rattle.pl_update.specs.Changes.Replaced.{CanReplace, replaced, next_after, with_plan}
use Rattle.pl_update.proofs.AboutChanges.Keeping.{whole_replaced}
use Rattle.pl_update.proofs.AboutChanges.Renewing.{exchanged_renewed}
use Rattle.pl_update.proofs.AboutEvaluations.Still.{bare, values_bare}

-- with its end measured, if it is the activity of this id
abbrev ended_at : ℕ → ℕ → Activity → Activity
ended_at id moment a = cond (eqb a.id id) (ended moment a) a

-- ---- one activity

ended_keeps : (id moment : ℕ) → KeepsTree (ended_at id moment)
ended_keeps id moment = record { id = λ a. by_id a (eqb a.id id); kind = λ a. by_kind a (eqb a.id id); parent = λ a. by_parent a (eqb a.id id) }
  where
    by_id : (a : Activity) (b : Bool) → (cond b (ended moment a) a).id ≡ a.id
    by_id a true = refl
    by_id a false = refl

    by_kind : (a : Activity) (b : Bool) → (cond b (ended moment a) a).kind ≡ a.kind
    by_kind a true = refl
    by_kind a false = refl

    by_parent : (a : Activity) (b : Bool) → (cond b (ended moment a) a).parent ≡ a.parent
    by_parent a true = refl
    by_parent a false = refl

ended_detail : (id moment : ℕ) (a : Activity) → (ended_at id moment a).detail ≡ a.detail
ended_detail id moment a = by (eqb a.id id)
  where
    by : (b : Bool) → (cond b (ended moment a) a).detail ≡ a.detail
    by true = refl
    by false = refl

-- no value hangs on measured ends
bare_ended : (id moment : ℕ) (xs : List Activity) (q : ℕ) → option_map bare (activity_of q (with_end id moment xs)) ≡ option_map bare (activity_of q xs)
bare_ended id moment [] q = refl
bare_ended id moment (x ∷ xs) q = by (eqb x.id id) refl (eqb x.id q) refl (bare_ended id moment xs q)
  where
    by : (b : Bool) → eqb x.id id ≡ b → (c : Bool) → eqb x.id q ≡ c → option_map bare (activity_of q (with_end id moment xs)) ≡ option_map bare (activity_of q xs) → option_map bare (activity_of q (with_end id moment (x ∷ xs))) ≡ option_map bare (activity_of q (x ∷ xs))
    by true e true f more = rw (e, f) refl
    by true e false f more = rw (e, f) more
    by false e true f more = rw (e, f) refl
    by false e false f more = rw (e, f) more

-- ---- the plan state

module _ (s : PlanState) (id moment : ℕ) (whole : IsWhole s) (a : Activity) (here : found s id ≡ Some a) where
  same_id : a.id ≡ id
  same_id = found_id id s.plan.activities a here

  live_here : IsLive a.id s.plan.activities
  live_here = rw (found_live id s.plan.activities a here) refl

  own : IsIdBelow s.next_id a
  own = all_found (IsIdBelow s.next_id) id s.plan.activities a whole.ids here

  ended_activities : replaced s.plan.activities (id ∷ []) (ended moment a ∷ []) ≡ with_end id moment s.plan.activities
  unfolding replaced
  ended_activities =
      ap (λ n. placed (ended moment a) (without n s.plan.activities)) (sym same_id)
      ∙ (sym (exchanged_renewed (ended moment a) s.plan.activities whole.rising live_here) ∙ sym (end_exchanged id moment s.plan.activities 0 a whole.rising here))

  same_next : next_after s.next_id (ended moment a ∷ []) ≡ s.next_id
  same_next = let below : a.id < s.next_id = own.1 in omega (arith, below)

  pub measured_as : with_plan (id ∷ []) (ended moment a ∷ []) s ≡ measured_to id moment s
  measured_as =
      ap (λ (xs : List Activity). record s { plan = record { activities = xs }; next_id = next_after s.next_id (ended moment a ∷ []) }) ended_activities
      ∙ ap (λ (n : ℕ). record s { plan = record { activities = with_end id moment s.plan.activities }; next_id = n }) same_next

  module _ (can : CanMeasure s id moment) where
    same : can.a ≡ a
    same = same_Some can.a a (sym can.here ∙ here)

    alone_ended : (x : Activity) → activity_of x.id s.plan.activities ≡ Some x → FitsAlone s.model x → FitsAlone s.model (ended_at id moment x)
    alone_ended x live fit = by (eqb x.id id) refl
      where
        by : (b : Bool) → eqb x.id id ≡ b → FitsAlone s.model (cond b (ended moment x) x)
        by false e = fit
        by true e =
            let is : can.a ≡ x = same_Some can.a x (sym can.here ∙ (ap (λ n. activity_of n s.plan.activities) (sym (eqb-true x.id id e)) ∙ live)) in
            let P : Activity → Type 0 = λ z. (z.start < moment) × (moment ≤ s.model.horizon) in
            record { kind = fit.kind; start = fit.start; set = fit.set; choice = fit.choice; measured = subst P is (can.after, can.within) }

    fits_ended : Fits s.model (with_end id moment s.plan.activities)
    fits_ended =
        fits_changed s.model s.plan.activities whole.rising whole.fits (ended_at id moment) (ended_keeps id moment) (ended_detail id moment)
        (λ k d lt. alone_ended (get_or s.plan.activities k d) (found_at s.plan.activities 0 k (get_or s.plan.activities k d).id d whole.rising lt refl) (whole.fits.each k d lt))

    pub values_same : (q : ℕ) → values_of s.model (with_end id moment s.plan.activities) q ≡ values_of s.model s.plan.activities q
    values_same q = values_bare s.model (with_end id moment s.plan.activities) s.plan.activities fits_ended.rooted whole.fits.rooted (bare_ended id moment s.plan.activities) q

    pub can_measure : CanReplace s (id ∷ []) (ended moment a ∷ [])
    can_measure =
        let bound : s.next_id ≤ 4000000001 = whole.next.1 in
        let Gone : Activity → Type 0 = λ x. IsLive x.id s.plan.activities → among x.id (id ∷ []) ≡ true in
        let IsGiven : Activity → Type 0 = λ x. (1 ≤ x.id) × (x.id ≤ 4000000000) in
        let length_same : length (with_end id moment s.plan.activities) ≡ length s.plan.activities = length-map s.plan.activities (ended_at id moment) in
        let begun : (a.start ≤ s.moment) × (a.start < s.committed) = subst (λ (z : Activity). (z.start ≤ s.moment) × (z.start < s.committed)) same (can.begun, can.committed) in
        record {
          live = All-cons (λ n. IsLive n s.plan.activities) id [] (rw here refl) (All-nil (λ n. IsLive n s.plan.activities));
          once = λ i j d lt within. absurd (omega (arith, lt, within));
          free = All-cons Gone (ended moment a) [] (λ live. rw (eq-eqb id a.id (sym same_id)) refl) (All-nil Gone);
          ids = All-cons IsGiven (ended moment a) [] (own.0, let below : a.id < s.next_id = own.1 in omega (arith, below, bound)) (All-nil IsGiven);
          carried = All-cons (IsCarried s.goals) (ended moment a) [] (all_found (IsCarried s.goals) id s.plan.activities a whole.carried here) (All-nil (IsCarried s.goals));
          begun = All-cons (HasBegun s.moment s.committed) (ended moment a) [] begun (All-nil (HasBegun s.moment s.committed));
          kept = λ q out. rw ended_activities (values_same q);
          fits = rw ended_activities fits_ended;
          few = rw ended_activities (omega (arith, length_same, whole.live));
        }

pub whole_measured : (s : PlanState) (id moment : ℕ) → IsWhole s → CanMeasure s id moment → IsWhole (measured_to id moment s)
whole_measured s id moment whole can =
    subst IsWhole (measured_as s id moment whole can.a can.here) (whole_replaced s (id ∷ []) (ended moment can.a ∷ []) whole (can_measure s id moment whole can.a can.here can))
