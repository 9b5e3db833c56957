-- Open goals that stand, and those that no activity serves.
use Rattle.std.proofs.Common.{◌≡◌, ℕ, eqb, Bool, true, false, List, [], ◌∷◌, map, filter, Option, Some, None, refl, sym, ap, ◌∙◌, subst}
use Rattle.std.specs.Prelude.{◌||◌, ◌&&◌, not, nat_le, nat_lt, option_and_then}
use Rattle.std.specs.List.{flat_map, filter_map}
use Rattle.std.specs.Option.{option_to_list}
use Rattle.std.proofs.lemmas.List.Folds.{list_any-append}
use Rattle.std.proofs.Math.Bool.{or-false, or-true}
use Rattle.std.proofs.lemmas.Bool.{false_from_ne_true, or_from, or_left, or_right}
use Rattle.pl_conflict.specs.declared.conflict.Conflict.{Conflict}
use Rattle.pl_conflict.specs.declared.conflict.Code.{Code}
use Rattle.pl_conflict.specs.declared.conflict.Code.TheVariants as code
use Rattle.pl_conflict.specs.Codes.{code_number}
use Rattle.pl_conflict.specs.Order.{has}
use Rattle.pl_facts.specs.declared.goal.Goal.{Goal}
use Rattle.pl_update.specs.GoalsAndActivities.Touched.{served_at, touched_goals}
use Rattle.pl_update.proofs.AboutGoalsAndActivities.Standing.{found_number}
use Rattle.pl_update.proofs.AboutGoalsAndActivities.ByIds.{found_any}
use Rattle.pl_plan.specs.declared.activity.Activity.{Activity}
use Rattle.pl_plan.specs.Index.{is_number}
use Rattle.pl_plan.specs.Serving.{served_in, serves, is_served}
use Rattle.pl_semantics.specs.declared.plan_state.PlanState.{PlanState}
use Rattle.pl_semantics.specs.PlanStates.{among, floor_of, found, goal_at, is_committed, of_found, served_by, when}
use Rattle.pl_semantics.specs.Parts.{part_of, of_goals, of_activities, of_links, of_timelines}
use Rattle.pl_semantics.specs.Goals.{open_goal, open_at, open_of, off_goal, off_from, off_at, off_of, goal_conflicts}
use Rattle.pl_semantics.specs.Activities.{activity_conflicts, wrong_of}
use Rattle.pl_semantics.specs.Links.{link_conflicts}
use Rattle.pl_semantics.specs.Timelines.{timeline_conflicts}
use Rattle.pl_semantics.specs.Conflicts.{conflicts_of}
use Rattle.pl_semantics.specs.Moves.{moved}
use Rattle.pl_semantics.specs.Whole.{IsWhole}
use Rattle.pl_semantics.proofs.Owning.{Each, each_when, each_planned, each_found}
use Rattle.pl_semantics.proofs.Standing.{members, goals_by_subject, activities_by_subject, of_goals_alone, of_activities_alone, of_links_alone, of_timelines_alone}

-- ---- tests

other : (a b : Bool) → (a || b) ≡ true → a ≡ false → b ≡ true
other true b e f = absurd (cc)
other false b e f = e

-- ---- conflicts of open goals

-- it tells of an open goal
abbrev pub is_open_goal : Conflict → Bool
is_open_goal q = eqb (code_number q.code) 0

code_open : (c : Code) → eqb (code_number c) 0 ≡ true → c ≡ code.OpenGoal
code_open code.OpenGoal e = refl
code_open _ e = absurd (cc)

abbrev pub IsOff : Conflict → Type 0
IsOff q = q.code ≡ code.OffGoal

pub off_code : (s : PlanState) (a : Activity) → Each IsOff (off_at s a)
unfolding off_at
off_code s a = each_planned IsOff (is_committed s a) (of_found (off_from a) (served_by s a)) (each_found IsOff (off_from a) (served_by s a) (λ g. each_when IsOff (nat_lt a.start g.earliest || nat_lt g.latest a.start) (off_goal a g) refl))

-- one that stands is the one of its number
pub open_stands : (s : PlanState) → IsWhole s → (q : Conflict) → is_open_goal q ≡ true → has q (conflicts_of s) ≡ true → has q (open_of s q.subject) ≡ true
open_stands s whole q opened there = by (has q (open_of s q.subject)) refl
  where
    is : q.code ≡ code.OpenGoal
    is = code_open q.code opened

    no_off : has q (off_of s q.subject) ≡ false
    no_off = false_from_ne_true (has q (off_of s q.subject)) (λ h. absurd (let off : q.code ≡ code.OffGoal = each_found IsOff (off_at s) (found s q.subject) (off_code s) q h in let bad : code.OpenGoal ≡ code.OffGoal = sym is ∙ off in cc))

    no_activity : has q (activity_conflicts s) ≡ false
    no_activity = false_from_ne_true (has q (activity_conflicts s)) (λ h. absurd (let part : part_of q.code ≡ of_activities = of_activities_alone s q h in let bad : of_goals ≡ of_activities = sym (ap part_of is) ∙ part in cc))

    no_link : has q (link_conflicts s) ≡ false
    no_link = false_from_ne_true (has q (link_conflicts s)) (λ h. absurd (let part : part_of q.code ≡ of_links = of_links_alone s q h in let bad : of_goals ≡ of_links = sym (ap part_of is) ∙ part in cc))

    no_line : has q (timeline_conflicts s) ≡ false
    no_line = false_from_ne_true (has q (timeline_conflicts s)) (λ h. absurd (let part : part_of q.code ≡ of_timelines = of_timelines_alone s q h in let bad : of_goals ≡ of_timelines = sym (ap part_of is) ∙ part in cc))

    by : (b : Bool) → has q (open_of s q.subject) ≡ b → has q (open_of s q.subject) ≡ true
    by true e = e
    by false e = absurd (
        let goals : has q (goal_conflicts s) ≡ false = goals_by_subject s whole.distinct whole.rising q ∙ or_from (has q (open_of s q.subject)) (has q (off_of s q.subject)) e no_off in
        let none : has q (conflicts_of s) ≡ false = members s q ∙ or_from (has q (goal_conflicts s)) (has q (activity_conflicts s) || (has q (link_conflicts s) || has q (timeline_conflicts s))) goals
        (or_from (has q (activity_conflicts s)) (has q (link_conflicts s) || has q (timeline_conflicts s)) no_activity (or_from (has q (link_conflicts s)) (has q (timeline_conflicts s)) no_link no_line)) in
        let bad : true ≡ false = sym there ∙ none in
        cc)

-- one of an activity that stands is one of its own
pub wrong_stands : (s : PlanState) → IsWhole s → (q : Conflict) → part_of q.code ≡ of_activities → has q (conflicts_of s) ≡ true → has q (wrong_of s q.subject) ≡ true
wrong_stands s whole q is there = by (has q (wrong_of s q.subject)) refl
  where
    no_goal : has q (goal_conflicts s) ≡ false
    no_goal = false_from_ne_true (has q (goal_conflicts s)) (λ h. absurd (let part : part_of q.code ≡ of_goals = of_goals_alone s q h in let bad : of_activities ≡ of_goals = sym is ∙ part in cc))

    no_link : has q (link_conflicts s) ≡ false
    no_link = false_from_ne_true (has q (link_conflicts s)) (λ h. absurd (let part : part_of q.code ≡ of_links = of_links_alone s q h in let bad : of_activities ≡ of_links = sym is ∙ part in cc))

    no_line : has q (timeline_conflicts s) ≡ false
    no_line = false_from_ne_true (has q (timeline_conflicts s)) (λ h. absurd (let part : part_of q.code ≡ of_timelines = of_timelines_alone s q h in let bad : of_activities ≡ of_timelines = sym is ∙ part in cc))

    by : (b : Bool) → has q (wrong_of s q.subject) ≡ b → has q (wrong_of s q.subject) ≡ true
    by true e = e
    by false e = absurd (
        let activities : has q (activity_conflicts s) ≡ false = activities_by_subject s whole.rising q ∙ e in
        let none : has q (conflicts_of s) ≡ false = members s q ∙ or_from (has q (goal_conflicts s)) (has q (activity_conflicts s) || (has q (link_conflicts s) || has q (timeline_conflicts s))) no_goal
        (or_from (has q (activity_conflicts s)) (has q (link_conflicts s) || has q (timeline_conflicts s)) activities (or_from (has q (link_conflicts s)) (has q (timeline_conflicts s)) no_link no_line)) in
        let bad : true ≡ false = sym there ∙ none in
        cc)

-- and the one of its number stands
pub open_is_left : (t : PlanState) → IsWhole t → (q : Conflict) → has q (open_of t q.subject) ≡ true → has q (conflicts_of t) ≡ true
open_is_left t whole q here =
    members t q ∙ or_left (has q (goal_conflicts t)) (has q (activity_conflicts t) || (has q (link_conflicts t) || has q (timeline_conflicts t)))
    (goals_by_subject t whole.distinct whole.rising q ∙ or_left (has q (open_of t q.subject)) (has q (off_of t q.subject)) here)

-- and that of a root off its goal
pub off_is_left : (t : PlanState) → IsWhole t → (q : Conflict) → has q (off_of t q.subject) ≡ true → has q (conflicts_of t) ≡ true
off_is_left t whole q here =
    members t q ∙ or_left (has q (goal_conflicts t)) (has q (activity_conflicts t) || (has q (link_conflicts t) || has q (timeline_conflicts t)))
    (goals_by_subject t whole.distinct whole.rising q ∙ or_right (has q (open_of t q.subject)) (has q (off_of t q.subject)) here)

-- and so does one of an activity
pub wrong_is_left : (t : PlanState) → IsWhole t → (q : Conflict) → has q (wrong_of t q.subject) ≡ true → has q (conflicts_of t) ≡ true
wrong_is_left t whole q here =
    members t q ∙ ap (λ b. has q (goal_conflicts t) || b) (or_left (has q (activity_conflicts t)) (has q (link_conflicts t) || has q (timeline_conflicts t)) (activities_by_subject t whole.rising q ∙ here))
    ∙ or-true (has q (goal_conflicts t))

-- ---- goals that are served

closed : (d o : Bool) (k : Conflict) → when ((d && false) && o) k ≡ []
closed true o k = refl
closed false o k = refl

served_not_open : (s : PlanState) (n : ℕ) → is_served n s.plan.activities ≡ true → open_of s n ≡ []
unfolding open_at
served_not_open s n served = by (goal_at s n) refl
  where
    by : (o : Option Goal) → goal_at s n ≡ o → of_found (open_at s) o ≡ []
    by None e = refl
    by (Some g) e =
        let here : is_served g.number s.plan.activities ≡ true = subst (λ m. is_served m s.plan.activities ≡ true) (sym (found_number n s.goals g e)) served in
        rw here (closed (not g.dropped) (nat_le (floor_of s) g.latest) (open_goal g))

-- an open goal is not served
pub open_not_served : (s : PlanState) (q : Conflict) → has q (open_of s q.subject) ≡ true → is_served q.subject s.plan.activities ≡ false
open_not_served s q here =
    false_from_ne_true (is_served q.subject s.plan.activities) (λ h. absurd (let none : has q (open_of s q.subject) ≡ has q [] = ap (λ (ks : List Conflict). has q ks) (served_not_open s q.subject h) in let bad : true ≡ false = sym here ∙ none in cc))

pub is_it : (n : ℕ) (o : Option ℕ) → among n (option_to_list o) ≡ true → is_number n o ≡ true
is_it n None h = absurd (cc)
is_it n (Some m) h = sym (or-false (eqb m n)) ∙ h

one_served : (s : PlanState) (n id : ℕ) → among n (served_at s id) ≡ true → is_served n s.plan.activities ≡ true
one_served s n id h = by (found s id) refl h
  where
    by : (o : Option Activity) → found s id ≡ o → among n (option_to_list (option_and_then served_in o)) ≡ true → is_served n s.plan.activities ≡ true
    by None e there = absurd (cc)
    by (Some a) e there = found_any (serves n) s.plan.activities id a e (is_it n (served_in a) there)

-- what those serve that go is served
gone_served : (s : PlanState) (n : ℕ) (ids : List ℕ) → among n (flat_map (served_at s) ids) ≡ true → is_served n s.plan.activities ≡ true
gone_served s n [] h = absurd (cc)
gone_served s n (i ∷ ids) h = by (among n (served_at s i)) refl (gone_served s n ids)
  where
    either : (among n (served_at s i) || among n (flat_map (served_at s) ids)) ≡ true
    either = sym (list_any-append (λ k. eqb k n) (served_at s i) (flat_map (served_at s) ids)) ∙ h

    by : (b : Bool) → among n (served_at s i) ≡ b → (among n (flat_map (served_at s) ids) ≡ true → is_served n s.plan.activities ≡ true) → is_served n s.plan.activities ≡ true
    by true e more = one_served s n i e
    by false e more = more (other (among n (served_at s i)) (among n (flat_map (served_at s) ids)) either e)

-- what those serve that are moved is served
pub moved_served : (n from to : ℕ) (p : Activity → Bool) (xs : List Activity) → among n (filter_map served_in (map (moved from to) (filter p xs))) ≡ true → is_served n xs ≡ true
moved_served n from to p [] h = absurd (cc)
moved_served n from to p (x ∷ xs) h = by (p x) refl (served_in x) refl (moved_served n from to p xs)
  where
    behind : is_served n xs ≡ true → is_served n (x ∷ xs) ≡ true
    behind e = rw e (or-true (serves n x))

    here : (m : ℕ) → served_in x ≡ Some m → (b : Bool) → eqb m n ≡ b → (b || among n (filter_map served_in (map (moved from to) (filter p xs)))) ≡ true → (among n (filter_map served_in (map (moved from to) (filter p xs))) ≡ true → is_served n xs ≡ true) → is_served n (x ∷ xs) ≡ true
    here m f true e there more = or_left (serves n x) (is_served n xs) (rw f e)
    here m f false e there more = behind (more there)

    by : (b : Bool) → p x ≡ b → (o : Option ℕ) → served_in x ≡ o → (among n (filter_map served_in (map (moved from to) (filter p xs))) ≡ true → is_served n xs ≡ true) → is_served n (x ∷ xs) ≡ true
    by false e o f more = behind (more (rw e at h))
    by true e None f more = let there : among n (filter_map served_in (map (moved from to) (filter p xs))) ≡ true = rw (e, f) at h in behind (more there)
    by true e (Some m) f more = let there : among n (m ∷ filter_map served_in (map (moved from to) (filter p xs))) ≡ true = rw (e, f) at h in here m f (eqb m n) refl there more

-- where all that is served by those that come was served, an open goal is not touched
pub untouched : (s : PlanState) (n : ℕ) (gone : List ℕ) (more : List Activity) → (among n (filter_map served_in more) ≡ true → is_served n s.plan.activities ≡ true) → is_served n s.plan.activities ≡ false → among n (touched_goals s gone more) ≡ false
unfolding touched_goals
untouched s n gone more comes free =
    list_any-append (λ k. eqb k n) (flat_map (served_at s) gone) (filter_map served_in more)
    ∙ or_from (among n (flat_map (served_at s) gone)) (among n (filter_map served_in more))
    (false_from_ne_true (among n (flat_map (served_at s) gone)) (λ h. absurd (let bad : true ≡ false = sym (gone_served s n gone h) ∙ free in cc)))
    (false_from_ne_true (among n (filter_map served_in more)) (λ h. absurd (let bad : true ≡ false = sym (comes h) ∙ free in cc)))
