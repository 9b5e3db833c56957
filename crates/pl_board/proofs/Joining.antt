-- The set of conflicts after a change: timelines were mended in it already, and the others are exchanged.
use Rattle.std.proofs.Common.{◌≡◌, ℕ, Bool, true, false, List, ◌++◌, refl, sym, ap, ◌∙◌, inl, inr, ⊎_elim}
use Rattle.std.specs.Prelude.{◌&&◌, ◌||◌, not}
use Rattle.std.proofs.lemmas.Bool.{false_from_ne_true}
use Rattle.std.proofs.Math.Bool.{or-false}
use Rattle.pl_conflict.specs.declared.conflict.Conflict.{Conflict}
use Rattle.pl_conflict.specs.Order.{has}
use Rattle.pl_conflict.specs.Sorting.{exchanged}
use Rattle.pl_conflict.proofs.OrderLaws.{conflict_unique, conflict_exact}
use Rattle.pl_conflict.proofs.Sorting.{has-append, has-exchanged, ordered-exchanged}
use Rattle.pl_semantics.specs.declared.plan_state.PlanState.{PlanState}
use Rattle.pl_semantics.specs.Parts.{Part, part_of, of_goals, of_activities, of_links, of_timelines}
use Rattle.pl_semantics.specs.Conflicts.{conflicts_of}
use Rattle.pl_semantics.specs.Goals.{goal_conflicts}
use Rattle.pl_semantics.specs.Activities.{activity_conflicts}
use Rattle.pl_semantics.specs.Links.{link_conflicts}
use Rattle.pl_semantics.specs.Timelines.{timeline_conflicts}
use Rattle.pl_semantics.specs.Whole.{IsWhole}
use Rattle.pl_semantics.proofs.Standing.{ordered, members, of_goals_alone, of_activities_alone, of_links_alone, of_timelines_alone}
use Rattle.pl_update.specs.GoalsAndActivities.Near.{near, IsPlain, Follows}
use Rattle.pl_update.proofs.AboutGoalsAndActivities.Standing.{near_plain, mended}
use Rattle.pl_update.specs.Links.Mended.{MendsLinks}

-- ---- tests

-- the parts that a conflict is not of
module _ (s : PlanState) (q : Conflict) where
  no_goal : (part_of q.code ≡ of_goals → ⊥) → has q (goal_conflicts s) ≡ false
  no_goal other = false_from_ne_true (has q (goal_conflicts s)) (λ h. other (of_goals_alone s q h))

  no_activity : (part_of q.code ≡ of_activities → ⊥) → has q (activity_conflicts s) ≡ false
  no_activity other = false_from_ne_true (has q (activity_conflicts s)) (λ h. other (of_activities_alone s q h))

  no_link : (part_of q.code ≡ of_links → ⊥) → has q (link_conflicts s) ≡ false
  no_link other = false_from_ne_true (has q (link_conflicts s)) (λ h. other (of_links_alone s q h))

  no_timeline : (part_of q.code ≡ of_timelines → ⊥) → has q (timeline_conflicts s) ≡ false
  no_timeline other = false_from_ne_true (has q (timeline_conflicts s)) (λ h. other (of_timelines_alone s q h))

  -- a conflict of links stands where the links say so, one of timelines where the timelines do
  pub links_say : part_of q.code ≡ of_links → has q (conflicts_of s) ≡ has q (link_conflicts s)
  links_say is = members s q ∙ rw (no_goal (λ e. let bad : of_links ≡ of_goals = sym is ∙ e in cc), no_activity (λ e. let bad : of_links ≡ of_activities = sym is ∙ e in cc), no_timeline (λ e. let bad : of_links ≡ of_timelines = sym is ∙ e in cc)) (or-false (has q (link_conflicts s)))

  pub timelines_say : part_of q.code ≡ of_timelines → has q (conflicts_of s) ≡ has q (timeline_conflicts s)
  timelines_say is = members s q ∙ rw (no_goal (λ e. let bad : of_timelines ≡ of_goals = sym is ∙ e in cc), no_activity (λ e. let bad : of_timelines ≡ of_activities = sym is ∙ e in cc), no_link (λ e. let bad : of_timelines ≡ of_links = sym is ∙ e in cc)) refl

-- ---- what a change comes to

pub record IsTurned (s t : PlanState) (numbers ids : List ℕ) (went came set set' : List Conflict) : Type 0 where
  pub follows : Follows s t numbers ids
  pub links : MendsLinks s t went came
  pub timelines : (q : Conflict) → part_of q.code ≡ of_timelines → has q set' ≡ has q (timeline_conflicts t)
  pub others : (q : Conflict) → (part_of q.code ≡ of_timelines → ⊥) → has q set' ≡ has q set

-- ---- how the tests come out

both_plain : (c w v d e : Bool) → v ≡ false → e ≡ false → ((c && not (w || v)) || (d || e)) ≡ ((c && not w) || d)
both_plain c true false true false f g = refl
both_plain c true false false false f g = refl
both_plain c false false true false f g = refl
both_plain c false false false false f g = refl
both_plain c w true d e f g = absurd (cc)
both_plain c w v d true f g = absurd (cc)

both_linked : (c w v d e : Bool) → w ≡ false → d ≡ false → ((c && not (w || v)) || (d || e)) ≡ ((c && not v) || e)
both_linked c false v false e f g = refl
both_linked c true v d e f g = absurd (cc)
both_linked c w v true e f g = absurd (cc)

both_timed : (c w v d e : Bool) → w ≡ false → v ≡ false → d ≡ false → e ≡ false → ((c && not (w || v)) || (d || e)) ≡ c
both_timed true false false false false f g h i = refl
both_timed false false false false false f g h i = refl
both_timed c true v d e f g h i = absurd (cc)
both_timed c w true d e f g h i = absurd (cc)
both_timed c w v true e f g h i = absurd (cc)
both_timed c w v d true f g h i = absurd (cc)

module _ (s t : PlanState) (numbers ids : List ℕ) (went came set set' : List Conflict) (whole_s : IsWhole s) (whole_t : IsWhole t) (is : set ≡ conflicts_of s) (turned : IsTurned s t numbers ids went came set set') where
  abbrev after : List Conflict
  after = exchanged set' (near s numbers ids ++ went) (near t numbers ids ++ came)

  here : (q : Conflict) → has q after ≡ ((has q set' && not (has q (near s numbers ids) || has q went)) || (has q (near t numbers ids) || has q came))
  here q = has-exchanged set' (near s numbers ids ++ went) (near t numbers ids ++ came) q ∙ rw (has-append (near s numbers ids) went q, has-append (near t numbers ids) came q) refl

  was : (q : Conflict) → (part_of q.code ≡ of_timelines → ⊥) → has q set' ≡ has q (conflicts_of s)
  was q other = turned.others q other ∙ ap (has q) is

  no_went : (q : Conflict) → (part_of q.code ≡ of_links → ⊥) → has q went ≡ false
  no_went q other = false_from_ne_true (has q went) (λ h. other (turned.links.went_of_links q h))

  no_came : (q : Conflict) → (part_of q.code ≡ of_links → ⊥) → has q came ≡ false
  no_came q other = false_from_ne_true (has q came) (λ h. other (turned.links.came_of_links q h))

  no_near : (u : PlanState) (q : Conflict) → (IsPlain q → ⊥) → has q (near u numbers ids) ≡ false
  no_near u q other = false_from_ne_true (has q (near u numbers ids)) (λ h. other (near_plain u numbers ids q h))

  of_plain : (q : Conflict) → IsPlain q → (part_of q.code ≡ of_links → ⊥) → (part_of q.code ≡ of_timelines → ⊥) → has q after ≡ has q (conflicts_of t)
  of_plain q plain no_link no_time =
      here q
      ∙ both_plain (has q set') (has q (near s numbers ids)) (has q went) (has q (near t numbers ids)) (has q came) (no_went q no_link) (no_came q no_link)
      ∙ rw (was q no_time) refl
      ∙ sym (mended s t numbers ids whole_s whole_t turned.follows q plain)

  of_link : (q : Conflict) → part_of q.code ≡ of_links → has q after ≡ has q (conflicts_of t)
  of_link q e =
      let no_plain : IsPlain q → ⊥ = (λ p. ⊎_elim (λ (f : part_of q.code ≡ of_goals). let bad : of_links ≡ of_goals = sym e ∙ f in cc) (λ (f : part_of q.code ≡ of_activities). let bad : of_links ≡ of_activities = sym e ∙ f in cc) p) in
      here q
      ∙ both_linked (has q set') (has q (near s numbers ids)) (has q went) (has q (near t numbers ids)) (has q came) (no_near s q no_plain) (no_near t q no_plain)
      ∙ rw (was q (λ f. let bad : of_links ≡ of_timelines = sym e ∙ f in cc), links_say s q e) refl
      ∙ sym (links_say t q e ∙ turned.links.mended q)

  of_timeline : (q : Conflict) → part_of q.code ≡ of_timelines → has q after ≡ has q (conflicts_of t)
  of_timeline q e =
      let no_plain : IsPlain q → ⊥ = (λ p. ⊎_elim (λ (f : part_of q.code ≡ of_goals). let bad : of_timelines ≡ of_goals = sym e ∙ f in cc) (λ (f : part_of q.code ≡ of_activities). let bad : of_timelines ≡ of_activities = sym e ∙ f in cc) p) in
      let no_link : part_of q.code ≡ of_links → ⊥ = (λ f. let bad : of_timelines ≡ of_links = sym e ∙ f in cc) in
      here q
      ∙ both_timed (has q set') (has q (near s numbers ids)) (has q went) (has q (near t numbers ids)) (has q came) (no_near s q no_plain) (no_went q no_link) (no_near t q no_plain) (no_came q no_link)
      ∙ turned.timelines q e
      ∙ sym (timelines_say t q e)

  exact : (q : Conflict) → (p : Part) → part_of q.code ≡ p → has q after ≡ has q (conflicts_of t)
  exact q of_goals e = of_plain q (inl e) (λ f. let bad : of_goals ≡ of_links = sym e ∙ f in cc) (λ f. let bad : of_goals ≡ of_timelines = sym e ∙ f in cc)
  exact q of_activities e = of_plain q (inr e) (λ f. let bad : of_activities ≡ of_links = sym e ∙ f in cc) (λ f. let bad : of_activities ≡ of_timelines = sym e ∙ f in cc)
  exact q of_links e = of_link q e
  exact q of_timelines e = of_timeline q e

  -- the exchanged set is that of the new state
  pub turned_set : exchanged set' (near s numbers ids ++ went) (near t numbers ids ++ came) ≡ conflicts_of t
  turned_set =
      conflict_unique conflict_exact after (conflicts_of t) (ordered-exchanged set' (near s numbers ids ++ went) (near t numbers ids ++ came)) (ordered t)
      (λ q. exact q (part_of q.code) refl)
