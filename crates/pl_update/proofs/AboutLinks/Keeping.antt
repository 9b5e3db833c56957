-- What leaves links and orders alone, and what shows their conflicts.
use Rattle.std.proofs.Common.{◌≡◌, ℕ, ◌≤◌, Bool, true, false, List, [], refl, sym, ap, ◌∙◌, arith}
use Rattle.std.specs.Prelude.{◌||◌, ℤ}
use Rattle.pl_conflict.specs.declared.conflict.Conflict.{Conflict}
use Rattle.pl_conflict.specs.Order.{has}
use Rattle.pl_facts.specs.declared.goal.Goal.{Goal}
use Rattle.pl_links.specs.Kept.{Kept, kept_of}
use Rattle.pl_model.specs.declared.whole.Model.{Model}
use Rattle.pl_semantics.specs.declared.plan_state.PlanState.{PlanState}
use Rattle.pl_semantics.specs.Parts.{Part, part_of, of_goals, of_activities, of_links, of_timelines}
use Rattle.pl_semantics.specs.Goals.{goal_conflicts}
use Rattle.pl_semantics.specs.Activities.{activity_conflicts}
use Rattle.pl_semantics.specs.Links.{links_at, link_conflicts, placed_in}
use Rattle.pl_semantics.specs.Timelines.{timeline_conflicts}
use Rattle.pl_semantics.specs.Conflicts.{conflicts_of}
use Rattle.pl_semantics.proofs.Standing.{members, of_goals_alone, of_activities_alone, of_timelines_alone}
use Rattle.pl_update.specs.Changes.Changes.{first_state, with_goal, without_goal, moved_on, told_now, committed_to, with_next}
use Rattle.pl_update.specs.Links.Mended.{KeepsLinks}
use Rattle.pl_update.specs.Links.Passing.{IsBefore, ShowsLinks}

pub keeps_with_goal : (s : PlanState) (goal : Goal) → KeepsLinks s (with_goal goal s)
unfolding links_at
keeps_with_goal s goal = refl

pub keeps_without_goal : (s : PlanState) (number : ℕ) → KeepsLinks s (without_goal number s)
unfolding links_at
keeps_without_goal s number = refl

pub keeps_told : (s : PlanState) (line : ℕ) (value : ℤ) → KeepsLinks s (told_now line value s)
unfolding links_at
keeps_told s line value = refl

pub keeps_with_next : (s : PlanState) (id : ℕ) → KeepsLinks s (with_next id s)
unfolding links_at
keeps_with_next s id = refl

pub before_moved_on : (s : PlanState) (now : ℕ) → s.moment ≤ now → IsBefore s (moved_on now s)
before_moved_on s now le = record { same = refl; present = le; horizon = omega arith }

pub before_committed : (s : PlanState) (h : ℕ) → s.committed ≤ h → IsBefore s (committed_to h s)
before_committed s h le = record { same = refl; present = omega arith; horizon = le }

not_of : (ks : List Conflict) (q : Conflict) (other : Part) → (has q ks ≡ true → part_of q.code ≡ other) → (part_of q.code ≡ other → ⊥) → has q ks ≡ false
not_of ks q other is never = by (has q ks) refl
  where
    by : (b : Bool) → has q ks ≡ b → has q ks ≡ false
    by true e = absurd (never (is e))
    by false e = e

alone : (g a l t : Bool) → g ≡ false → a ≡ false → t ≡ false → (g || (a || (l || t))) ≡ l
alone g a true t e f h = rw (e, f) refl
alone g a false t e f h = rw (e, f) h

pub shows_links : (s : PlanState) (all : List Conflict) → all ≡ conflicts_of s → ShowsLinks s all
shows_links s all is q of =
    ap (λ ks. has q ks) is
    ∙ (members s q
    ∙ alone (has q (goal_conflicts s)) (has q (activity_conflicts s)) (has q (link_conflicts s)) (has q (timeline_conflicts s))
    (not_of (goal_conflicts s) q of_goals (of_goals_alone s q) (λ e. let bad : of_links ≡ of_goals = sym of ∙ e in absurd (cc)))
    (not_of (activity_conflicts s) q of_activities (of_activities_alone s q) (λ e. let bad : of_links ≡ of_activities = sym of ∙ e in absurd (cc)))
    (not_of (timeline_conflicts s) q of_timelines (of_timelines_alone s q) (λ e. let bad : of_links ≡ of_timelines = sym of ∙ e in absurd (cc))))

-- an empty store is the store of a first state
pub kept_first : (model : Model) (live : ℕ) (links : Kept) → links.items ≡ [] → links.broken ≡ [] → links ≡ kept_of model (placed_in (first_state model live))
kept_first model live links items broken =
    let one : links ≡ record { items = []; broken = links.broken } = ap (λ l. record { items = l; broken = links.broken }) items in
    one ∙ ap (λ bs. record { items = []; broken = bs }) broken
