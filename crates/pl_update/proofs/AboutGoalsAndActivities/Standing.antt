-- How the conflicts of goals and activities follow a change.
use Rattle.std.proofs.Common.{◌≡◌, ℕ, eqb, Bool, true, false, List, [], ◌∷◌, ◌++◌, Option, Some, None, refl, sym, ap, ◌∙◌, subst, inl, inr}
use Rattle.std.specs.Prelude.{◌||◌, ◌&&◌, ◌⊎◌, not, nat_le, nat_lt}
use Rattle.std.specs.List.{flat_map}
use Rattle.std.proofs.lemmas.Bool.{eqb-true, false≢true, and_parts}
use Rattle.pl_conflict.specs.declared.conflict.Conflict.{Conflict}
use Rattle.pl_conflict.specs.Codes.{code_number}
use Rattle.pl_conflict.specs.Order.{has}
use Rattle.pl_conflict.proofs.Sorting.{has-append}
use Rattle.pl_facts.specs.declared.goal.Goal.{Goal}
use Rattle.pl_facts.specs.Goals.{goal_of, AreDistinct}
use Rattle.pl_plan.specs.declared.activity.Activity.{Activity}
use Rattle.pl_plan.specs.Activities.{AreRising}
use Rattle.pl_detect.proofs.Found.{found_id}
use Rattle.pl_semantics.specs.declared.plan_state.PlanState.{PlanState}
use Rattle.pl_semantics.specs.PlanStates.{is_open, is_committed, floor_of, goal_at, served_by, found, of_found}
use Rattle.pl_semantics.specs.Parts.{Part, part_of, of_goals, of_activities, of_links, of_timelines}
use Rattle.pl_semantics.specs.Goals.{open_goal, open_at, open_of, off_goal, off_from, off_at, off_of, goal_conflicts}
use Rattle.pl_semantics.specs.Activities.{wrong_at, wrong_of, activity_conflicts}
use Rattle.pl_semantics.specs.Links.{link_conflicts}
use Rattle.pl_semantics.specs.Timelines.{timeline_conflicts}
use Rattle.pl_semantics.specs.Conflicts.{conflicts_of}
use Rattle.pl_semantics.specs.Whole.{IsWhole}
use Rattle.pl_semantics.proofs.Owning.{Each, each_when, each_planned, each_found, each_append, each_flat}
use Rattle.pl_semantics.proofs.Subjects.{open_is, off_is, wrong_is}
use Rattle.pl_semantics.proofs.Keys.{by_number, by_id}
use Rattle.pl_semantics.proofs.Standing.{members, of_links_alone, of_timelines_alone}
use Rattle.pl_update.specs.GoalsAndActivities.Near.{near, IsPlain, Follows}
use Rattle.pl_update.proofs.AboutGoalsAndActivities.Mending.{IsPart, Mends, near_mends, mends_both}

-- ---- the tests of the three rules

abbrev is_of_goals : Part → Bool
is_of_goals of_goals = true
is_of_goals of_activities = false
is_of_goals of_links = false
is_of_goals of_timelines = false

abbrev is_of_activities : Part → Bool
is_of_activities of_goals = false
is_of_activities of_activities = true
is_of_activities of_links = false
is_of_activities of_timelines = false

abbrev is_open_kind : Conflict → Bool
is_open_kind k = is_of_goals (part_of k.code) && eqb (code_number k.code) 0

abbrev is_off_kind : Conflict → Bool
is_off_kind k = is_of_goals (part_of k.code) && eqb (code_number k.code) 1

abbrev is_wrong_kind : Conflict → Bool
is_wrong_kind k = is_of_activities (part_of k.code)

open_or_off : (k : Conflict) → is_open_kind k ≡ true → is_off_kind k ≡ true → ⊥
open_or_off k e f =
    let one : code_number k.code ≡ 0 = eqb-true (code_number k.code) 0 (and_parts (is_of_goals (part_of k.code)) (eqb (code_number k.code) 0) e).1 in
    let two : eqb (code_number k.code) 1 ≡ true = (and_parts (is_of_goals (part_of k.code)) (eqb (code_number k.code) 1) f).1 in
    let bad : false ≡ true = rw one at two in
    false≢true bad

goal_or_activity : (p : Part) (b c : Bool) → ((is_of_goals p && b) || (is_of_goals p && c)) ≡ true → is_of_activities p ≡ true → ⊥
goal_or_activity of_goals b c e f = false≢true f
goal_or_activity of_activities b c e f = false≢true e
goal_or_activity of_links b c e f = false≢true e
goal_or_activity of_timelines b c e f = false≢true e

-- ---- the three rules

pub found_number : (n : ℕ) (goals : List Goal) (g : Goal) → goal_of n goals ≡ Some g → g.number ≡ n
found_number n [] g here = absurd (cc)
found_number n (x ∷ goals) g here = cases (eqb x.number n) refl (found_number n goals g)
  where
    cases : (b : Bool) → eqb x.number n ≡ b → (goal_of n goals ≡ Some g → g.number ≡ n) → g.number ≡ n
    cases true e more = let at : Some x ≡ Some g = rw e at here in let same : x ≡ g = cc in subst (λ (y : Goal). y.number ≡ n) same (eqb-true x.number n e)
    cases false e more = more (rw e at here)

open_kind : (s : PlanState) (g : Goal) → Each (λ k. is_open_kind k ≡ true) (open_at s g)
unfolding open_at
open_kind s g = each_when (λ k. is_open_kind k ≡ true) (is_open s g && nat_le (floor_of s) g.latest) (open_goal g) refl

off_kind : (s : PlanState) (a : Activity) → Each (λ k. is_off_kind k ≡ true) (off_at s a)
unfolding off_at
off_kind s a = each_planned (λ k. is_off_kind k ≡ true) (is_committed s a) (of_found (off_from a) (served_by s a)) (each_found (λ k. is_off_kind k ≡ true) (off_from a) (served_by s a) (λ g. each_when (λ k. is_off_kind k ≡ true) (nat_lt a.start g.earliest || nat_lt g.latest a.start) (off_goal a g) refl))

opens_part : (s : PlanState) → AreDistinct s.goals → IsPart is_open_kind (open_of s) (flat_map (open_at s) s.goals)
opens_part s distinct = record {
  owned = λ n k h. owned n k (goal_at s n) refl h;
  whole = λ k. by_number (open_at s) (λ g k h. (open_is s g k h).0) s.goals distinct k;
}
  where
    owned : (n : ℕ) (k : Conflict) (o : Option Goal) → goal_at s n ≡ o → has k (of_found (open_at s) o) ≡ true → (k.subject ≡ n) × (is_open_kind k ≡ true)
    owned n k None e h = absurd (cc)
    owned n k (Some g) e h = ((open_is s g k h).0 ∙ found_number n s.goals g e, open_kind s g k h)

-- a rule for each activity, whose conflicts have its id and pass a test
by_ids : (s : PlanState) (f : Activity → List Conflict) (mine : Conflict → Bool) → ((a : Activity) (k : Conflict) → has k (f a) ≡ true → k.subject ≡ a.id) → ((a : Activity) (k : Conflict) → has k (f a) ≡ true → mine k ≡ true) → AreRising s.plan.activities → IsPart mine (λ id. of_found f (found s id)) (flat_map f s.plan.activities)
by_ids s f mine own is rising = record {
  owned = λ id k h. owned id k (found s id) refl h;
  whole = λ k. by_id f own s.plan.activities rising k;
}
  where
    owned : (id : ℕ) (k : Conflict) (o : Option Activity) → found s id ≡ o → has k (of_found f o) ≡ true → (k.subject ≡ id) × (mine k ≡ true)
    owned id k None e h = absurd (cc)
    owned id k (Some a) e h = (own a k h ∙ found_id id s.plan.activities a e, is a k h)

offs_part : (s : PlanState) → AreRising s.plan.activities → IsPart is_off_kind (off_of s) (flat_map (off_at s) s.plan.activities)
offs_part s rising = by_ids s (off_at s) is_off_kind (λ a k h. (off_is s a k h).0) (off_kind s) rising

wrongs_part : (s : PlanState) → AreRising s.plan.activities → IsPart is_wrong_kind (wrong_of s) (activity_conflicts s)
wrongs_part s rising = by_ids s (wrong_at s) is_wrong_kind (λ a k h. (wrong_is s a k h).0) (λ a k h. ap is_of_activities (wrong_is s a k h).1) rising

-- ---- a change

-- What stands at goals and activities after a change: what stood and did not go, and what came.
pub plainly_mended : (s t : PlanState) (numbers ids : List ℕ) → IsWhole s → IsWhole t → Follows s t numbers ids → (q : Conflict)
    → (has q (goal_conflicts t) || has q (activity_conflicts t)) ≡ (((has q (goal_conflicts s) || has q (activity_conflicts s)) && not (has q (near s numbers ids))) || has q (near t numbers ids))
unfolding near
plainly_mended s t numbers ids before after change q =
    let all : Mends (λ k. (is_open_kind k || is_off_kind k) || is_wrong_kind k) (goal_conflicts s ++ activity_conflicts s) (goal_conflicts t ++ activity_conflicts t) (near s numbers ids) (near t numbers ids) =
    mends_both (λ k. is_open_kind k || is_off_kind k) is_wrong_kind (λ k. goal_or_activity (part_of k.code) (eqb (code_number k.code) 0) (eqb (code_number k.code) 1)) _ _ _ _ _ _ _ _
    (mends_both is_open_kind is_off_kind open_or_off _ _ _ _ _ _ _ _
    (near_mends is_open_kind (open_of t) (open_of s) _ _ numbers (opens_part s before.distinct) (opens_part t after.distinct) change.opens)
    (near_mends is_off_kind (off_of t) (off_of s) _ _ ids (offs_part s before.rising) (offs_part t after.rising) change.offs))
    (near_mends is_wrong_kind (wrong_of t) (wrong_of s) _ _ ids (wrongs_part s before.rising) (wrongs_part t after.rising) change.wrongs) in
    sym (has-append (goal_conflicts t) (activity_conflicts t) q) ∙ all.mends q ∙ ap (λ b. (b && not (has q (near s numbers ids))) || has q (near t numbers ids)) (has-append (goal_conflicts s) (activity_conflicts s) q)

-- what stands near is of goals and activities
pub near_plain : (s : PlanState) (numbers ids : List ℕ) → Each IsPlain (near s numbers ids)
unfolding near
near_plain s numbers ids =
    each_append IsPlain (flat_map (open_of s) numbers ++ flat_map (off_of s) ids) (flat_map (wrong_of s) ids)
    (each_append IsPlain (flat_map (open_of s) numbers) (flat_map (off_of s) ids)
    (each_flat IsPlain (open_of s) numbers (λ n. each_found IsPlain (open_at s) (goal_at s n) (λ g q h. inl (open_is s g q h).1)))
    (each_flat IsPlain (off_of s) ids (λ id. each_found IsPlain (off_at s) (found s id) (λ a q h. inl (off_is s a q h).1))))
    (each_flat IsPlain (wrong_of s) ids (λ id. each_found IsPlain (wrong_at s) (found s id) (λ a q h. inr (wrong_is s a q h).1)))

-- no other part has what is of goals and activities
elsewhere : (q : Conflict) → IsPlain q → (b : Bool) → (b ≡ true → (part_of q.code ≡ of_links) ⊎ (part_of q.code ≡ of_timelines)) → b ≡ false
elsewhere q plain false other = refl
elsewhere q (inl e) true other = both (other refl)
  where
    both : (part_of q.code ≡ of_links) ⊎ (part_of q.code ≡ of_timelines) → true ≡ false
    both (inl f) = absurd (let bad : of_goals ≡ of_links = sym e ∙ f in cc)
    both (inr f) = absurd (let bad : of_goals ≡ of_timelines = sym e ∙ f in cc)
elsewhere q (inr e) true other = both (other refl)
  where
    both : (part_of q.code ≡ of_links) ⊎ (part_of q.code ≡ of_timelines) → true ≡ false
    both (inl f) = absurd (let bad : of_activities ≡ of_links = sym e ∙ f in cc)
    both (inr f) = absurd (let bad : of_activities ≡ of_timelines = sym e ∙ f in cc)

two_left : (g a l t : Bool) → l ≡ false → t ≡ false → (g || (a || (l || t))) ≡ (g || a)
two_left true a l t e f = refl
two_left false true l t e f = refl
two_left false false l t e f = rw (e, f) refl

-- a conflict of goals and activities stands where one of these two parts has it
pub plain_members : (s : PlanState) (q : Conflict) → IsPlain q → has q (conflicts_of s) ≡ (has q (goal_conflicts s) || has q (activity_conflicts s))
plain_members s q plain =
    members s q ∙ two_left (has q (goal_conflicts s)) (has q (activity_conflicts s)) (has q (link_conflicts s)) (has q (timeline_conflicts s))
    (elsewhere q plain (has q (link_conflicts s)) (λ h. inl (of_links_alone s q h)))
    (elsewhere q plain (has q (timeline_conflicts s)) (λ h. inr (of_timelines_alone s q h)))

pub mended : (s t : PlanState) (numbers ids : List ℕ) → IsWhole s → IsWhole t → Follows s t numbers ids → (q : Conflict) → IsPlain q
    → has q (conflicts_of t) ≡ ((has q (conflicts_of s) && not (has q (near s numbers ids))) || has q (near t numbers ids))
mended s t numbers ids before after change q plain =
    plain_members t q plain ∙ plainly_mended s t numbers ids before after change q
    ∙ ap (λ b. (b && not (has q (near s numbers ids))) || has q (near t numbers ids)) (sym (plain_members s q plain))
