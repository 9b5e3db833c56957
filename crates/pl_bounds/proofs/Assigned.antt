-- An assignment leaves the open goals, and the activities that lack an alternative.
use Rattle.std.proofs.Common.{◌≡◌, ℕ, ℤ, ◌+◌, ◌≤◌, eqb, Bool, true, false, cond, List, [], ◌∷◌, ◌++◌, map, filter, Option, Some, None, refl, sym, ap, ◌∙◌, subst, inl, inr}
use Rattle.std.specs.Prelude.{◌||◌, ◌&&◌, ◌⊎◌, not, nat_le}
use Rattle.std.specs.List.{flat_map}
use Rattle.std.specs.Option.{option_map}
use Rattle.std.proofs.Math.Bool.{or-true}
use Rattle.pl_lists.proofs.Tests.{or_second_true}
use Rattle.pl_conflict.specs.declared.conflict.Conflict.{Conflict}
use Rattle.pl_conflict.specs.declared.conflict.Code.{Code}
use Rattle.pl_conflict.specs.declared.conflict.Code.TheVariants as code
use Rattle.pl_conflict.specs.Codes.{code_number}
use Rattle.pl_conflict.specs.Order.{has}
use Rattle.pl_conflict.proofs.Sorting.{has-append}
use Rattle.pl_facts.specs.declared.goal.Goal.{Goal}
use Rattle.pl_moves.specs.Runs.{CanBeMade}
use Rattle.pl_plan.specs.declared.activity.Activity.{Activity}
use Rattle.pl_plan.specs.declared.repair.RepairMove.TheVariants.{Assign}
use Rattle.pl_plan.specs.Fitting.{kind_of}
use Rattle.pl_plan.specs.Moves.{KeepsTree}
use Rattle.pl_plan.specs.Serving.{serves, is_served}
use Rattle.pl_plan.proofs.Kept.{found-changed}
use Rattle.pl_semantics.specs.declared.plan_state.PlanState.{PlanState}
use Rattle.pl_semantics.specs.PlanStates.{floor_of, found, goal_at, is_committed, of_found, reservations_of, when}
use Rattle.pl_semantics.specs.Activities.{at_start, bad_amount, bad_duration, bad_param, bad_values_at, params_at, undetailed_at, unset_at, unset_one, wrong_at}
use Rattle.pl_semantics.specs.Conflicts.{conflicts_of}
use Rattle.pl_semantics.specs.Goals.{open_at, open_goal, open_of}
use Rattle.pl_semantics.specs.Moves.{applied, has_id, with_activities, with_value}
use Rattle.pl_semantics.specs.Parts.{part_of}
use Rattle.pl_semantics.specs.Whole.{IsWhole}
use Rattle.pl_semantics.proofs.Owning.{Each, each_append, each_when, each_found, each_flat}
use Rattle.pl_bounds.specs.Plain.{is_plain, is_plain_part, count_of_plain}
use Rattle.pl_bounds.specs.Standing.{is_valueless, is_valueless_one, count_of_valueless}
use Rattle.pl_bounds.proofs.Differing.{has_passing}
use Rattle.pl_bounds.proofs.Leaving.{left_are_few, standing_apart}
use Rattle.pl_bounds.proofs.Made.{whole_then}
use Rattle.pl_bounds.proofs.Opens.{open_is_left, open_stands, wrong_is_left, wrong_stands}
use Rattle.pl_bounds.proofs.Restarted.{among_fixed, fixed_among, fixed_at, is_fixed}

-- ---- codes

open_or_undetailed : (c : Code) → is_valueless c ≡ true → (c ≡ code.OpenGoal) ⊎ (c ≡ code.Undetailed)
open_or_undetailed code.OpenGoal e = inl refl
open_or_undetailed code.Undetailed e = inr refl
open_or_undetailed _ e = absurd (cc)

valueless_plain : (c : Code) → is_valueless c ≡ true → is_plain_part (part_of c) ≡ true
valueless_plain code.OpenGoal e = refl
valueless_plain code.Undetailed e = refl
valueless_plain _ e = absurd (cc)

abbrev IsOfValues : Conflict → Type 0
IsOfValues q = eqb (code_number q.code) 5 ≡ false

-- what is wrong with values
of_values : (s : PlanState) (a : Activity) → Each IsOfValues (unset_at s a ++ bad_values_at s a)
of_values s a =
    each_append IsOfValues (unset_at s a) (bad_values_at s a)
    (each_flat IsOfValues (unset_one s a) (params_at s a) (λ p. each_when IsOfValues _ (at_start a code.Unset p.0 0) refl))
    (each_append IsOfValues (flat_map (bad_param s a) (params_at s a) ++ of_found (bad_duration s a) (kind_of s.model a)) (flat_map (bad_amount s a) (reservations_of s a))
    (each_append IsOfValues (flat_map (bad_param s a) (params_at s a)) (of_found (bad_duration s a) (kind_of s.model a))
    (each_flat IsOfValues (bad_param s a) (params_at s a) (λ p. each_when IsOfValues _ (at_start a code.BadValue p.0 0) refl))
    (each_found IsOfValues (bad_duration s a) (kind_of s.model a) (λ k. each_when IsOfValues _ (at_start a code.BadValue 16 0) refl)))
    (each_flat IsOfValues (bad_amount s a) (reservations_of s a) (λ r. each_when IsOfValues _ (at_start a code.BadValue (17 + r.0) 0) refl)))

-- one that tells of no alternative is of that part
lacks_one : (s : PlanState) (a : Activity) (q : Conflict) → q.code ≡ code.Undetailed → has q (fixed_at s a) ≡ true → has q (undetailed_at s a) ≡ true
lacks_one s a q is there =
    or_second_true (has q (unset_at s a ++ bad_values_at s a)) (has q (undetailed_at s a)) (sym (has-append (unset_at s a ++ bad_values_at s a) (undetailed_at s a) q) ∙ there)
    (λ h. absurd (let no : eqb (code_number q.code) 5 ≡ false = of_values s a q h in let bad : true ≡ false = sym (ap (λ c. eqb (code_number c) 5) is) ∙ no in cc))

-- ---- the activities then

-- an activity without what is set of it
abbrev bare : Activity → Activity
bare a = record a { set = [] }

module _ (s : PlanState) (whole : IsWhole s) (next : s.next_id ≤ 3999999000) (id param : ℕ) (value : ℤ) (can : CanBeMade s (Assign id param value)) where
  abbrev xs : List Activity
  xs = s.plan.activities

  abbrev e : Activity → Activity
  e a = cond (has_id id a) (with_value param value a) a

  abbrev then_ : PlanState
  then_ = with_activities s (map e s.plan.activities)

  is_then : applied s (Assign id param value) ≡ then_
  unfolding applied
  is_then = refl

  whole_too : IsWhole then_
  whole_too = subst (λ (t : PlanState). IsWhole t) is_then (whole_then s whole next (Assign id param value) tt can)

  kept_by : (b : Bool) (a : Activity) → bare (cond b (with_value param value a) a) ≡ bare a
  kept_by true a = refl
  kept_by false a = refl

  keeps : (a : Activity) → bare (e a) ≡ bare a
  keeps a = kept_by (has_id id a) a

  tree : KeepsTree e
  tree = record { id = λ a. ap (λ (z : Activity). z.id) (keeps a); kind = λ a. ap (λ (z : Activity). z.kind) (keeps a); parent = λ a. ap (λ (z : Activity). z.parent) (keeps a) }

  found_then : (q : ℕ) → found then_ q ≡ option_map e (found s q)
  found_then q = found-changed e tree xs q

  -- ---- open goals

  served_same : (n : ℕ) (ys : List Activity) → is_served n (map e ys) ≡ is_served n ys
  served_same n [] = refl
  served_same n (y ∷ ys) = ap (λ (z : Activity). serves n z || is_served n (map e ys)) (keeps y) ∙ ap (λ b. serves n y || b) (served_same n ys)

  opens_same : (n : ℕ) → open_of then_ n ≡ open_of s n
  unfolding open_at
  opens_same n = by (goal_at s n)
    where
      by : (o : Option Goal) → of_found (open_at then_) o ≡ of_found (open_at s) o
      by None = refl
      by (Some g) = ap (λ b. when ((not g.dropped && not b) && nat_le (floor_of s) g.latest) (open_goal g)) (served_same g.number xs)

  open_then : (q : Conflict) → q.code ≡ code.OpenGoal → has q (conflicts_of s) ≡ true → has q (conflicts_of then_) ≡ true
  open_then q is there =
      open_is_left then_ whole_too q
      (ap (λ (ks : List Conflict). has q ks) (opens_same q.subject) ∙ open_stands s whole q (ap (λ c. eqb (code_number c) 0) is) there)

  -- ---- alternatives

  lacks_same : (a : Activity) → undetailed_at then_ (e a) ≡ undetailed_at s a
  lacks_same a = ap (undetailed_at s) (keeps a)

  free_same : (a : Activity) → is_committed then_ (e a) ≡ is_committed s a
  free_same a = ap (is_committed s) (keeps a)

  lacks_then : (q : Conflict) → q.code ≡ code.Undetailed → has q (conflicts_of s) ≡ true → has q (conflicts_of then_) ≡ true
  lacks_then q is there = by (found s q.subject) refl (wrong_stands s whole q (ap part_of is) there)
    where
      by : (o : Option Activity) → found s q.subject ≡ o → has q (of_found (wrong_at s) o) ≡ true → has q (conflicts_of then_) ≡ true
      by None f h = absurd (let bad : false ≡ true = h in cc)
      by (Some a) f h =
          let both = fixed_among s a q (ap is_fixed is) h in
          let own : has q (undetailed_at then_ (e a)) ≡ true = ap (λ (ks : List Conflict). has q ks) (lacks_same a) ∙ lacks_one s a q is both.1 in
          let fixed : has q (fixed_at then_ (e a)) ≡ true =
          has-append (unset_at then_ (e a) ++ bad_values_at then_ (e a)) (undetailed_at then_ (e a)) q
          ∙ (ap (λ b. has q (unset_at then_ (e a) ++ bad_values_at then_ (e a)) || b) own ∙ or-true (has q (unset_at then_ (e a) ++ bad_values_at then_ (e a)))) in
          let wrong : has q (wrong_at then_ (e a)) ≡ true = among_fixed then_ (e a) q (free_same a ∙ both.0) fixed in
          let now : found then_ q.subject ≡ Some (e a) = found_then q.subject ∙ ap (option_map e) f in
          wrong_is_left then_ whole_too q (ap (λ (o : Option Activity). has q (of_found (wrong_at then_) o)) now ∙ wrong)

  -- ---- together

  stands_then : (q : Conflict) → has q (filter is_valueless_one (conflicts_of s)) ≡ true → (has q (conflicts_of then_) ≡ true) × (is_plain q ≡ true)
  stands_then q h = (by (open_or_undetailed q.code both.1), valueless_plain q.code both.1)
    where
      both : (has q (conflicts_of s) ≡ true) × (is_valueless_one q ≡ true)
      both = has_passing is_valueless_one (conflicts_of s) q h

      by : (q.code ≡ code.OpenGoal) ⊎ (q.code ≡ code.Undetailed) → has q (conflicts_of then_) ≡ true
      by (inl is) = open_then q is both.0
      by (inr is) = lacks_then q is both.0

  pub assign_left : count_of_valueless s ≤ count_of_plain (applied s (Assign id param value))
  assign_left =
      subst (λ (t : PlanState). count_of_valueless s ≤ count_of_plain t) (sym is_then)
      (left_are_few then_ (filter is_valueless_one (conflicts_of s)) (standing_apart s is_valueless_one) stands_then)
