-- Which conflicts stand.
use Rattle.std.proofs.Common.{◌≡◌, ◌++◌, ap, ◌∙◌}
use Rattle.std.specs.Prelude.{◌||◌}
use Rattle.std.specs.List.{flat_map}
use Rattle.std.proofs.Math.Bool.{or_assoc}
use Rattle.pl_conflict.specs.declared.conflict.Conflict.{Conflict}
use Rattle.pl_conflict.specs.Order.{has}
use Rattle.pl_conflict.specs.Sorting.{AreInOrder}
use Rattle.pl_conflict.proofs.Sorting.{has-sorted, ordered-sorted, has-append}
use Rattle.pl_facts.specs.Goals.{AreDistinct}
use Rattle.pl_plan.specs.Activities.{AreRising}
use Rattle.pl_semantics.specs.declared.plan_state.PlanState.{PlanState}
use Rattle.pl_semantics.specs.Parts.{part_of, of_goals, of_activities, of_links, of_timelines}
use Rattle.pl_semantics.specs.Goals.{open_at, open_of, off_at, off_of, goal_conflicts}
use Rattle.pl_semantics.specs.Activities.{wrong_at, wrong_of, activity_conflicts}
use Rattle.pl_semantics.specs.Links.{links_at, linked_of, link_conflicts}
use Rattle.pl_semantics.specs.Timelines.{line_conflicts, lines_of, timeline_conflicts}
use Rattle.pl_semantics.specs.Conflicts.{conflicts_of}
use Rattle.pl_semantics.proofs.Owning.{Each, each_append, each_flat}
use Rattle.pl_semantics.proofs.Subjects.{IsOfLine, open_is, off_is, wrong_is, linked_is, line_is}
use Rattle.pl_semantics.proofs.Keys.{by_number, by_id}

pub ordered : (s : PlanState) → AreInOrder (conflicts_of s)
unfolding conflicts_of
ordered s = ordered-sorted (goal_conflicts s ++ activity_conflicts s ++ link_conflicts s ++ timeline_conflicts s)

pub members : (s : PlanState) (q : Conflict) → has q (conflicts_of s) ≡ (has q (goal_conflicts s) || (has q (activity_conflicts s) || (has q (link_conflicts s) || has q (timeline_conflicts s))))
unfolding conflicts_of
members s q =
    has-sorted (goal_conflicts s ++ activity_conflicts s ++ link_conflicts s ++ timeline_conflicts s) q
    ∙ has-append (goal_conflicts s ++ activity_conflicts s ++ link_conflicts s) (timeline_conflicts s) q
    ∙ ap (λ b. b || has q (timeline_conflicts s)) (has-append (goal_conflicts s ++ activity_conflicts s) (link_conflicts s) q
    ∙ ap (λ b. b || has q (link_conflicts s)) (has-append (goal_conflicts s) (activity_conflicts s) q))
    ∙ or_assoc (has q (goal_conflicts s) || has q (activity_conflicts s)) (has q (link_conflicts s)) (has q (timeline_conflicts s))
    ∙ or_assoc (has q (goal_conflicts s)) (has q (activity_conflicts s)) (has q (link_conflicts s) || has q (timeline_conflicts s))

-- ---- parts

pub of_goals_alone : (s : PlanState) → Each (λ q. part_of q.code ≡ of_goals) (goal_conflicts s)
of_goals_alone s = each_append (λ q. part_of q.code ≡ of_goals) (flat_map (open_at s) s.goals) (flat_map (off_at s) s.plan.activities)
    (each_flat (λ q. part_of q.code ≡ of_goals) (open_at s) s.goals (λ g q h. (open_is s g q h).1))
    (each_flat (λ q. part_of q.code ≡ of_goals) (off_at s) s.plan.activities (λ a q h. (off_is s a q h).1))

pub of_activities_alone : (s : PlanState) → Each (λ q. part_of q.code ≡ of_activities) (activity_conflicts s)
of_activities_alone s = each_flat (λ q. part_of q.code ≡ of_activities) (wrong_at s) s.plan.activities (λ a q h. (wrong_is s a q h).1)

pub of_links_alone : (s : PlanState) → Each (λ q. part_of q.code ≡ of_links) (link_conflicts s)
of_links_alone s = each_flat (λ q. part_of q.code ≡ of_links) (links_at s) s.plan.activities (λ a q h. (linked_is s a q h).1)

pub of_timelines_alone : (s : PlanState) → Each (λ q. part_of q.code ≡ of_timelines) (timeline_conflicts s)
of_timelines_alone s = each_flat IsOfLine (line_conflicts s) (lines_of s) (λ l. line_is s l.0 l.1)

-- ---- subjects

pub goals_by_subject : (s : PlanState) → AreDistinct s.goals → AreRising s.plan.activities → (q : Conflict) → has q (goal_conflicts s) ≡ (has q (open_of s q.subject) || has q (off_of s q.subject))
goals_by_subject s distinct rising q =
    has-append (flat_map (open_at s) s.goals) (flat_map (off_at s) s.plan.activities) q
    ∙ ap (λ b. b || has q (flat_map (off_at s) s.plan.activities)) (by_number (open_at s) (λ g k h. (open_is s g k h).0) s.goals distinct q)
    ∙ ap (λ b. has q (open_of s q.subject) || b) (by_id (off_at s) (λ a k h. (off_is s a k h).0) s.plan.activities rising q)

pub activities_by_subject : (s : PlanState) → AreRising s.plan.activities → (q : Conflict) → has q (activity_conflicts s) ≡ has q (wrong_of s q.subject)
activities_by_subject s rising q = by_id (wrong_at s) (λ a k h. (wrong_is s a k h).0) s.plan.activities rising q

pub links_by_subject : (s : PlanState) → AreRising s.plan.activities → (q : Conflict) → has q (link_conflicts s) ≡ has q (linked_of s q.subject)
links_by_subject s rising q = by_id (links_at s) (λ a k h. (linked_is s a k h).0) s.plan.activities rising q
