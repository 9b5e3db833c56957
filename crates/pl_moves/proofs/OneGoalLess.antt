-- A goal that is dropped takes its own conflict away, if it stands, and leaves all others.
use Rattle.std.proofs.Common.{◌≡◌, ℕ, ◌+◌, ◌-◌, eqb, Bool, true, false, List, [], ◌∷◌, length, refl, sym, ap, ◌∙◌, subst, arith}
use Rattle.std.specs.Prelude.{◌||◌, ◌&&◌, not, nat_lt, nat_le, Option, Some, None, if◌then◌else◌}
use Rattle.std.specs.Option.{option_map}
use Rattle.std.specs.Set.{remove_key}
use Rattle.std.proofs.lemmas.Bool.{eqb-true, eq-eqb, false_from_ne_true}
use Rattle.std.proofs.lemmas.Map.Made.{length-remove_key}
use Rattle.std.proofs.Math.Bool.{or-false, and-true, and-false}
use Rattle.pl_conflict.specs.declared.conflict.Conflict.{Conflict}
use Rattle.pl_conflict.specs.declared.conflict.Code.TheVariants.{OpenGoal, OffGoal}
use Rattle.pl_conflict.specs.Order.{has}
use Rattle.pl_conflict.proofs.OrderLaws.{conflict_exact, conflict_unique}
use Rattle.pl_conflict.proofs.Sorting.{same, same_is, ordered-remove, has-remove, same_itself}
use Rattle.pl_facts.specs.declared.goal.Goal.{Goal}
use Rattle.pl_facts.specs.Goals.{goal_of, is_numbered, with_dropped}
use Rattle.pl_plan.specs.declared.activity.Activity.{Activity}
use Rattle.pl_plan.specs.Serving.{served_in}
use Rattle.pl_plan.specs.declared.repair.RepairMove.TheVariants.{Drop}
use Rattle.pl_semantics.specs.declared.plan_state.PlanState.{PlanState}
use Rattle.pl_semantics.specs.PlanStates.{found, floor_of, goal_at, is_committed, is_open, of_found, served_by, when}
use Rattle.pl_semantics.specs.Parts.{of_goals, of_activities, of_links, of_timelines}
use Rattle.pl_semantics.specs.Goals.{goal_conflicts, off_at, off_from, off_goal, off_of, open_at, open_goal, open_of}
use Rattle.pl_semantics.specs.Activities.{activity_conflicts, wrong_at}
use Rattle.pl_semantics.specs.Links.{link_conflicts, links_at}
use Rattle.pl_semantics.specs.Timelines.{timeline_conflicts, line_conflicts}
use Rattle.pl_semantics.specs.Demands.{demands_at, use_at, level_at, state_at}
use Rattle.pl_semantics.specs.Conflicts.{conflicts_of}
use Rattle.pl_semantics.specs.Whole.{IsWhole}
use Rattle.pl_semantics.specs.Moves.{applied}
use Rattle.pl_update.proofs.AboutChanges.Goals.{distinct_dropped}
use Rattle.pl_semantics.proofs.Owning.{Each, each_found, each_planned, each_when}
use Rattle.pl_semantics.proofs.Standing.{members, ordered, goals_by_subject, of_activities_alone, of_links_alone, of_timelines_alone}

-- ---- goals

abbrev dropped_one : ℕ → Goal → Goal
dropped_one n g = if is_numbered n g then record g { dropped = true } else g

goal_then : (n m : ℕ) (goals : List Goal) → goal_of m (with_dropped n goals) ≡ option_map (dropped_one n) (goal_of m goals)
goal_then n m [] = refl
goal_then n m (x ∷ goals) = cases (is_numbered m x) refl (goal_then n m goals)
  where
    number : (b : Bool) → (if b then record x { dropped = true } else x).number ≡ x.number
    number true = refl
    number false = refl

    cases : (b : Bool) → is_numbered m x ≡ b → goal_of m (with_dropped n goals) ≡ option_map (dropped_one n) (goal_of m goals) → goal_of m (with_dropped n (x ∷ goals)) ≡ option_map (dropped_one n) (goal_of m (x ∷ goals))
    cases true e more = let e2 : is_numbered m (dropped_one n x) ≡ true = ap (λ k. eqb k m) (number (is_numbered n x)) ∙ e in rw (e, e2) refl
    cases false e more = let e2 : is_numbered m (dropped_one n x) ≡ false = ap (λ k. eqb k m) (number (is_numbered n x)) ∙ e in rw (e, e2) more

has_number : (n : ℕ) (goals : List Goal) (g : Goal) → goal_of n goals ≡ Some g → is_numbered n g ≡ true
has_number n [] g e = absurd (cc)
has_number n (x ∷ goals) g e = cases (is_numbered n x) refl (has_number n goals g)
  where
    cases : (b : Bool) → is_numbered n x ≡ b → (goal_of n goals ≡ Some g → is_numbered n g ≡ true) → is_numbered n g ≡ true
    cases true f more = let here : Some x ≡ Some g = rw f at e in let is : x ≡ g = cc in ap (is_numbered n) (sym is) ∙ f
    cases false f more = more (rw f at e)

-- ---- one goal less

module _ (s : PlanState) (whole : IsWhole s) (n : ℕ) (g : Goal) (here : goal_at s n ≡ Some g) where
  abbrev then_ : PlanState
  then_ = record s { goals = with_dropped n s.goals }

  abbrev own : Conflict
  own = open_goal g

  numbered_so : is_numbered n g ≡ true
  numbered_so = has_number n s.goals g here

  number_is : g.number ≡ n
  number_is = eqb-true g.number n numbered_so

  -- ---- its own conflict

  open_here : open_of then_ n ≡ []
  unfolding open_at
  open_here = rw (goal_then n n s.goals, here, numbered_so) refl

  open_other : (x : Goal) → open_at then_ x ≡ open_at s x
  unfolding open_at
  open_other x = refl

  open_elsewhere : (m : ℕ) → eqb n m ≡ false → open_of then_ m ≡ open_of s m
  open_elsewhere m apart = by (goal_at s m) refl
    where
      by : (o : Option Goal) → goal_at s m ≡ o → open_of then_ m ≡ open_of s m
      by None e = rw (goal_then n m s.goals, e) refl
      by (Some x) e =
          let number : x.number ≡ m = eqb-true x.number m (has_number m s.goals x e) in
          let other : is_numbered n x ≡ false = ap (λ k. eqb k n) number ∙ turned (eqb m n) refl in
          rw (goal_then n m s.goals, e, other) (open_other x)
        where
          turned : (b : Bool) → eqb m n ≡ b → eqb m n ≡ false
          turned false f = f
          turned true f = absurd (let bad : true ≡ false = sym (eq-eqb n m (sym (eqb-true m n f))) ∙ apart in cc)

  open_at_own : (q : Conflict) → has q (open_of s n) ≡ true → own ≡ q
  unfolding open_at
  open_at_own q h = by (is_open s g && nat_le (floor_of s) g.latest) (rw here at h)
    where
      by : (b : Bool) → has q (when b own) ≡ true → own ≡ q
      by true e = sym (same_is q own (sym (or-false (same q own)) ∙ e))
      by false e = absurd (cc)

  open_less : (q : Conflict) → has q (open_of then_ q.subject) ≡ (has q (open_of s q.subject) && not (same own q))
  open_less q = by (eqb n q.subject) refl (same own q) refl
    where
      by : (b : Bool) → eqb n q.subject ≡ b → (d : Bool) → same own q ≡ d → has q (open_of then_ q.subject) ≡ (has q (open_of s q.subject) && not d)
      by true e true f = let is : n ≡ q.subject = eqb-true n q.subject e in ap (λ (l : List Conflict). has q l) (ap (open_of then_) (sym is) ∙ open_here) ∙ sym (and-false (has q (open_of s q.subject)))
      by true e false f =
          let is : n ≡ q.subject = eqb-true n q.subject e in
          ap (λ (l : List Conflict). has q l) (ap (open_of then_) (sym is) ∙ open_here) ∙ sym (and-true (has q (open_of s q.subject)) ∙ absent (has q (open_of s n)) refl is)
        where
          absent : (c : Bool) → has q (open_of s n) ≡ c → n ≡ q.subject → has q (open_of s q.subject) ≡ false
          absent false h is = ap (λ m. has q (open_of s m)) (sym is) ∙ h
          absent true h is = absurd (let own_is : own ≡ q = open_at_own q h in let bad : true ≡ false = sym (same_itself q) ∙ (ap (λ k. same k q) (sym own_is) ∙ f) in cc)
      by false e true f = absurd (let is : own ≡ q = same_is own q f in let bad : true ≡ false = sym (eq-eqb n q.subject (sym number_is ∙ ap (λ (k : Conflict). k.subject) is)) ∙ e in cc)
      by false e false f = ap (λ (l : List Conflict). has q l) (open_elsewhere q.subject e) ∙ sym (and-true (has q (open_of s q.subject)))

  -- ---- roots off their goals

  off_same : (a : Activity) → off_at then_ a ≡ off_at s a
  unfolding off_at
  off_same a = by (served_in a) refl
    where
      from_same : (x : Goal) (b : Bool) → off_from a (if b then record x { dropped = true } else x) ≡ off_from a x
      from_same x true = refl
      from_same x false = refl

      of_goal : (o : Option Goal) → of_found (off_from a) (option_map (dropped_one n) o) ≡ of_found (off_from a) o
      of_goal None = refl
      of_goal (Some x) = from_same x (is_numbered n x)

      by : (o : Option ℕ) → served_in a ≡ o → off_at then_ a ≡ off_at s a
      by None e = rw e refl
      by (Some m) e = rw (e, goal_then n m s.goals, of_goal (goal_of m s.goals)) refl

  off_stays : (id : ℕ) → off_of then_ id ≡ off_of s id
  off_stays id = by (found s id)
    where
      by : (o : Option Activity) → of_found (off_at then_) o ≡ of_found (off_at s) o
      by None = refl
      by (Some a) = off_same a

  off_code : (id : ℕ) → Each (λ q. q.code ≡ OffGoal) (off_of s id)
  unfolding off_at
  off_code id = each_found (λ q. q.code ≡ OffGoal) (off_at s) (found s id) (λ a. each_planned (λ q. q.code ≡ OffGoal) (is_committed s a) (of_found (off_from a) (served_by s a)) (each_found (λ q. q.code ≡ OffGoal) (off_from a) (served_by s a) (λ x. each_when (λ q. q.code ≡ OffGoal) (nat_lt a.start x.earliest || nat_lt x.latest a.start) (off_goal a x) refl)))

  -- ---- the other parts

  activities_stay : activity_conflicts then_ ≡ activity_conflicts s
  unfolding wrong_at
  activities_stay = refl

  links_stay : link_conflicts then_ ≡ link_conflicts s
  unfolding links_at
  links_stay = refl

  timelines_stay : timeline_conflicts then_ ≡ timeline_conflicts s
  unfolding line_conflicts use_at level_at state_at demands_at
  timelines_stay = refl

  -- ---- all

  not_off : has own (off_of s own.subject) ≡ false
  not_off = false_from_ne_true (has own (off_of s own.subject)) (λ h. let code : OpenGoal ≡ OffGoal = off_code own.subject own h in absurd (cc))

  not_activity : has own (activity_conflicts s) ≡ false
  not_activity = false_from_ne_true (has own (activity_conflicts s)) (λ h. let part : of_goals ≡ of_activities = of_activities_alone s own h in absurd (cc))

  not_link : has own (link_conflicts s) ≡ false
  not_link = false_from_ne_true (has own (link_conflicts s)) (λ h. let part : of_goals ≡ of_links = of_links_alone s own h in absurd (cc))

  not_timeline : has own (timeline_conflicts s) ≡ false
  not_timeline = false_from_ne_true (has own (timeline_conflicts s)) (λ h. let part : of_goals ≡ of_timelines = of_timelines_alone s own h in absurd (cc))

  goals_then : (q : Conflict) → has q (goal_conflicts then_) ≡ ((has q (open_of s q.subject) && not (same own q)) || has q (off_of s q.subject))
  goals_then q =
      goals_by_subject then_ (distinct_dropped n s.goals whole.distinct) whole.rising q
      ∙ (ap (λ b. b || has q (off_of then_ q.subject)) (open_less q)
      ∙ ap (λ (l : List Conflict). (has q (open_of s q.subject) && not (same own q)) || has q l) (off_stays q.subject))

  members_then : (q : Conflict) → has q (conflicts_of then_) ≡ (((has q (open_of s q.subject) && not (same own q)) || has q (off_of s q.subject)) || (has q (activity_conflicts s) || (has q (link_conflicts s) || has q (timeline_conflicts s))))
  members_then q = members then_ q ∙ rw (goals_then q, activities_stay, links_stay, timelines_stay) refl

  one_less : (q : Conflict) → has q (conflicts_of then_) ≡ (has q (conflicts_of s) && not (same own q))
  one_less q = members_then q ∙ by (same own q) refl
    where
      by : (d : Bool) → same own q ≡ d → (((has q (open_of s q.subject) && not d) || has q (off_of s q.subject)) || (has q (activity_conflicts s) || (has q (link_conflicts s) || has q (timeline_conflicts s)))) ≡ (has q (conflicts_of s) && not d)
      by true e =
          let is : own ≡ q = same_is own q e in
          let P : Conflict → Type 0 = λ k. (((has k (open_of s k.subject) && false) || has k (off_of s k.subject)) || (has k (activity_conflicts s) || (has k (link_conflicts s) || has k (timeline_conflicts s)))) ≡ (has k (conflicts_of s) && false) in
          subst P is (rw (not_off, not_activity, not_link, not_timeline, and-false (has own (open_of s own.subject)), and-false (has own (conflicts_of s))) refl)
      by false e = rw (and-true (has q (open_of s q.subject)), and-true (has q (conflicts_of s))) (ap (λ b. b || (has q (activity_conflicts s) || (has q (link_conflicts s) || has q (timeline_conflicts s)))) (sym (goals_by_subject s whole.distinct whole.rising q)) ∙ sym (members s q))

  then_is : conflicts_of then_ ≡ remove_key (same own) (conflicts_of s)
  then_is = conflict_unique conflict_exact (conflicts_of then_) (remove_key (same own) (conflicts_of s)) (ordered then_) (ordered-remove (conflicts_of s) own (ordered s)) (λ q. one_less q ∙ sym (has-remove (conflicts_of s) own q (ordered s)))

  pub length_then : length (conflicts_of then_) ≡ (if has own (conflicts_of s) then length (conflicts_of s) - 1 else length (conflicts_of s))
  length_then = ap (λ (l : List Conflict). length l) then_is ∙ by (has own (conflicts_of s)) refl
    where
      kept_all : (ks : List Conflict) → has own ks ≡ false → remove_key (same own) ks ≡ ks
      kept_all [] e = refl
      kept_all (k ∷ ks) e = cases (same own k) refl (kept_all ks)
        where
          cases : (b : Bool) → same own k ≡ b → (has own ks ≡ false → remove_key (same own) ks ≡ ks) → remove_key (same own) (k ∷ ks) ≡ k ∷ ks
          cases true f more = absurd (let bad : true ≡ false = rw f at e in cc)
          cases false f more = let rest : has own ks ≡ false = rw f at e in rw f (ap (λ l. k ∷ l) (more rest))

      by : (b : Bool) → has own (conflicts_of s) ≡ b → length (remove_key (same own) (conflicts_of s)) ≡ (if b then length (conflicts_of s) - 1 else length (conflicts_of s))
      by true e = let one : length (remove_key (same own) (conflicts_of s)) + 1 ≡ length (conflicts_of s) = length-remove_key (same own) (conflicts_of s) e in omega (arith, one)
      by false e = ap (λ (l : List Conflict). length l) (kept_all (conflicts_of s) e)

pub length_dropped : (s : PlanState) → IsWhole s → (n : ℕ) (g : Goal) → goal_at s n ≡ Some g → length (conflicts_of (applied s (Drop n))) ≡ (if has (open_goal g) (conflicts_of s) then length (conflicts_of s) - 1 else length (conflicts_of s))
unfolding applied
length_dropped s whole n g here = length_then s whole n g here
