-- The choice of an alternative of a root that is alone in a plan: it can be made there as it can be made in the plan itself.
use Rattle.std.proofs.Common.{◌≡◌, ℕ, suc, ◌+◌, ◌<◌, ◌≤◌, ltb, Bool, true, false, cond, List, [], ◌∷◌, ◌++◌, length, Option, Some, None, refl, sym, ap, ◌∙◌, subst, arith}
use Rattle.std.specs.Prelude.{◌&&◌, All, is_none, slice_get}
use Rattle.std.proofs.lemmas.Bool.{eq-eqb}
use Rattle.std.proofs.lemmas.List.Elements.{All-nil, All-cons}
use Rattle.pl_lists.proofs.Tests.{and_first}
use Rattle.pl_model.specs.declared.alternatives.Slot.{Slot}
use Rattle.pl_model.specs.declared.alternatives.Alternative.{Alternative}
use Rattle.pl_plan.specs.declared.activity.Activity.{Activity}
use Rattle.pl_plan.specs.declared.repair.RepairMove.TheVariants.{Detail}
use Rattle.pl_plan.specs.Activities.{activity_of}
use Rattle.pl_plan.specs.Fitting.{Fits, FitsAlone, AreFilled, IsInSlot, chosen_slots}
use Rattle.pl_plan.specs.Trees.{IsParented, IsRooted}
use Rattle.pl_plan.proofs.Climbs.{all_at}
use Rattle.pl_semantics.specs.declared.plan_state.PlanState.{PlanState}
use Rattle.pl_semantics.specs.Legal.{MayBeMade}
use Rattle.pl_semantics.specs.Moves.{alternatives_at, child_for, children_from, children_in, children_for, detailed, is_locked, is_proper, holds, applied}
use Rattle.pl_semantics.specs.PlanStates.{floor_of, found}
use Rattle.pl_semantics.specs.Whole.{IsWhole, IsCarried, IsGoalOf, IsIdBelow, HasBegun}
use Rattle.pl_semantics.proofs.Refusing.{may, not_refused}
use Rattle.pl_moves.specs.Runs.{CanBeMade}
use Rattle.pl_bounds.specs.Askings.{without_goal}
use Rattle.pl_bounds.specs.Choosing.{bare, chosen_alone}
use Rattle.pl_bounds.proofs.Adding.{itself}

-- ---- the children are the same

children_same : (s : PlanState) (a : Activity) (n : ℕ) (slots : List Slot) (offsets : List ℕ) → children_from (bare s a) (without_goal a) n slots offsets ≡ children_from s a n slots offsets
children_same s a n [] offsets = refl
children_same s a n (at ∷ slots) [] = refl
children_same s a n (at ∷ slots) (offset ∷ offsets) = ap (λ (l : List Activity). child_for s a.id n (s.next_id + n) at (a.start + offset) ∷ l) (children_same s a (suc n) slots offsets)

children_in_same : (s : PlanState) (a : Activity) (o : Option Alternative) → children_in (bare s a) (without_goal a) o ≡ children_in s a o
children_in_same s a None = refl
children_in_same s a (Some of) = children_same s a 0 of.slots of.offsets

some_live : (q : ℕ) (xs : List Activity) (a : Activity) → activity_of q xs ≡ Some a → 1 ≤ length xs
some_live q [] a e = absurd (cc)
some_live q (x ∷ xs) a e = omega arith

none_of : (o : Option ℕ) → is_none o ≡ true → o ≡ None
none_of None e = refl
none_of (Some n) e = absurd (cc)

-- ---- the plan with the root alone

module _ (s : PlanState) (whole : IsWhole s) (a : Activity) (here : found s a.id ≡ Some a) (root : a.parent ≡ None) (alternative : ℕ) (can : CanBeMade s (Detail a.id alternative)) where
  abbrev pub alone : PlanState
  alone = bare s a

  abbrev lone : Activity
  lone = without_goal a

  fits_itself : FitsAlone s.model a
  fits_itself = (all_at (FitsAlone s.model) s.plan.activities a.id a whole.fits.each here).0

  test : holds (λ x. is_none x.detail && ltb alternative (length (alternatives_at s x))) (found s a.id) ≡ true
  unfolding is_proper
  test = can.proper

  own_test : (is_none a.detail && ltb alternative (length (alternatives_at s a))) ≡ true
  own_test = rw here at test

  pub undone : a.detail ≡ None
  undone = none_of a.detail (and_first (is_none a.detail) (ltb alternative (length (alternatives_at s a))) own_test)

  rooted_alone : IsRooted (lone ∷ [])
  rooted_alone = record { parents = All-cons (IsParented (lone ∷ [])) lone [] (rw root tt) (All-nil (IsParented (lone ∷ []))) }

  slotless : length (chosen_slots s.model lone) ≡ 0
  slotless = rw undone refl

  fits_alone : Fits s.model (lone ∷ [])
  fits_alone = record {
    rooted = rooted_alone;
    each = All-cons (FitsAlone s.model) lone [] (record { kind = fits_itself.kind; start = fits_itself.start; set = fits_itself.set; choice = fits_itself.choice; measured = fits_itself.measured }) (All-nil (FitsAlone s.model));
    filled = All-cons (AreFilled s.model (lone ∷ [])) lone [] (λ slot d lt. absurd (omega (arith, lt, slotless))) (All-nil (AreFilled s.model (lone ∷ [])));
    no_other = All-cons (IsInSlot s.model (lone ∷ [])) lone [] (rw root tt) (All-nil (IsInSlot s.model (lone ∷ [])));
  }

  pub whole_bare : IsWhole alone
  whole_bare = record {
    checked = whole.checked;
    rising = (omega arith, tt);
    fits = fits_alone;
    goals = All-nil (IsGoalOf s.model);
    distinct = λ i j d lt within. absurd (omega (arith, within));
    carried = All-cons (IsCarried []) lone [] tt (All-nil (IsCarried []));
    bases = whole.bases;
    present = whole.present;
    horizon = whole.horizon;
    ids = All-cons (IsIdBelow s.next_id) lone [] (all_at (IsIdBelow s.next_id) s.plan.activities a.id a whole.ids here).0 (All-nil (IsIdBelow s.next_id));
    next = whole.next;
    limit = whole.limit;
    begun = All-cons (HasBegun s.moment s.committed) lone [] (all_at (HasBegun s.moment s.committed) s.plan.activities a.id a whole.begun here).0 (All-nil (HasBegun s.moment s.committed));
    live = (let some = some_live a.id s.plan.activities a here in let few = whole.live in omega (arith, some, few));
  }

  pub found_bare : found alone a.id ≡ Some lone
  found_bare = itself lone

  proper_bare : is_proper alone (Detail a.id alternative) ≡ true
  unfolding is_proper
  proper_bare = rw found_bare own_test

  pub children_for_same : children_for alone alternative (found alone a.id) ≡ children_for s alternative (found s a.id)
  children_for_same = rw (found_bare, here) (children_in_same s a (slice_get (alternatives_at s a) alternative))

  may_here : MayBeMade s (Detail a.id alternative)
  may_here = may s (Detail a.id alternative) can.allowed

  unlocked_here : is_locked s (Detail a.id alternative) a ≡ false
  unlocked_here = (all_at (λ (x : Activity). is_locked s (Detail a.id alternative) x ≡ false) s.plan.activities a.id a may_here.unlocked here).0

  may_bare : MayBeMade alone (Detail a.id alternative)
  may_bare = record {
    unlocked = All-cons (λ (x : Activity). is_locked alone (Detail a.id alternative) x ≡ false) lone [] unlocked_here (All-nil (λ (x : Activity). is_locked alone (Detail a.id alternative) x ≡ false));
    above = subst (λ (l : List Activity). All (λ (x : Activity). floor_of s ≤ x.start) l) (sym children_for_same) may_here.above;
    within = subst (λ (l : List Activity). All (λ (x : Activity). x.start < s.model.horizon) l) (sym children_for_same) may_here.within;
    room = (let some = some_live a.id s.plan.activities a here in let room = may_here.room in let same = ap (λ (l : List Activity). length l) children_for_same in omega (arith, some, room, same));
  }

  pub can_bare : CanBeMade alone (Detail a.id alternative)
  can_bare = record { proper = proper_bare; allowed = not_refused alone (Detail a.id alternative) may_bare }

  -- ---- once the alternative is chosen

  pub activities_alone : (chosen_alone s a alternative).plan.activities ≡ detailed alternative lone ∷ children_for s alternative (found s a.id)
  unfolding applied
  activities_alone =
      ap (λ (b : Bool). (cond b (detailed alternative lone) lone ∷ []) ++ children_for alone alternative (found alone a.id)) (eq-eqb a.id a.id refl)
      ∙ ap (λ (l : List Activity). detailed alternative lone ∷ l) children_for_same
