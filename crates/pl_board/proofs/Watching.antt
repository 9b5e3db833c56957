-- What stands after each change of a plan state that is watched.
use Rattle.std.proofs.Common.{◌≡◌, ℕ, ◌+◌, ◌<◌, ◌≤◌, min, List, [], ◌∷◌, ◌++◌, length, Option, None, refl, sym, ap, ◌∙◌, subst, Bool, true, false, arith}
use Rattle.std.proofs.lemmas.List.{length-map}
use Rattle.pl_detect.proofs.Bounded.{length-numbered}
use Rattle.pl_semantics.specs.Timelines.{lines_of}
use Rattle.pl_update.specs.Links.Passing.{ShowsLinks}
use Rattle.pl_update.proofs.AboutLinks.Keeping.{shows_links}
use Rattle.std.specs.Prelude.{◌&&◌, ◌||◌, not}
use Rattle.std.specs.List.Sorted.{IsStrictlyIncreasing}
use Rattle.pl_conflict.specs.declared.conflict.Conflict.{Conflict}
use Rattle.pl_conflict.specs.Order.{has}
use Rattle.pl_conflict.specs.Sorting.{exchanged, AreInOrder}
use Rattle.pl_conflict.proofs.OrderLaws.{conflict_unique, conflict_exact}
use Rattle.pl_conflict.proofs.Sorting.{has-exchanged, ordered-exchanged}
use Rattle.pl_semantics.proofs.Standing.{ordered}
use Rattle.pl_facts.specs.Goals.{goal_of}
use Rattle.pl_plan.specs.declared.activity.Activity.{Activity}
use Rattle.pl_semantics.specs.declared.plan_state.PlanState.{PlanState}
use Rattle.pl_semantics.specs.Conflicts.{conflicts_of}
use Rattle.pl_semantics.specs.Parts.{part_of, of_links, of_timelines}
use Rattle.pl_semantics.specs.Whole.{IsWhole}
use Rattle.pl_update.specs.Changes.Replaced.{CanReplace, with_plan}
use Rattle.pl_update.proofs.AboutChanges.Keeping.{whole_replaced}
use Rattle.pl_update.specs.declared.timelines.line.Line.{Line}
use Rattle.pl_update.specs.Timelines.Framed.{AreLinesOf, bare, idle}
use Rattle.pl_update.specs.Timelines.Held.{asked_at}
use Rattle.pl_update.specs.Timelines.Laws.{gone_from, coming_to}
use Rattle.pl_update.specs.Timelines.Mending.{IsMended, IsMoved, less}
use Rattle.pl_update.specs.Timelines.Told.{IsTold}
use Rattle.pl_update.proofs.AboutTimelines.StandingLines.{told_all, all_told}
use Rattle.pl_update.proofs.AboutTimelines.ReplacingLines.{rest_told, lines_after}
use Rattle.pl_update.proofs.AboutTimelines.StandingLater.{lines_committed, told_committed}
use Rattle.pl_update.specs.GoalsAndActivities.Near.{near, HoldSame, Follows}
use Rattle.pl_update.specs.GoalsAndActivities.Touched.{turned_goals, touched_ids}
use Rattle.pl_update.proofs.AboutGoalsAndActivities.Touching.{follows_same}
use Rattle.pl_update.proofs.AboutGoalsAndActivities.Turning.{follows_turned}
use Rattle.pl_update.specs.Links.Mended.{MendsLinks, KeepsLinks}
use Rattle.pl_links.specs.Kept.{kept_of}
use Rattle.pl_semantics.specs.Links.{placed_in}
use Rattle.pl_update.specs.Changes.Changes.{committed_to, withdrawn}
use Rattle.pl_update.specs.Evaluations.Kept.{AreOf}
use Rattle.pl_board.specs.declared.watched.WatchedState.{WatchedState}
use Rattle.pl_board.specs.Boards.{IsWatched}
use Rattle.pl_board.proofs.Once.{once_rising}
use Rattle.pl_board.proofs.Joining.{turned_set, timelines_say}

-- the set of a plan state tells what is wrong with its timelines
pub told_by : (s : PlanState) (lines : List Line) (set : List Conflict) → IsWhole s → AreLinesOf s lines → set ≡ conflicts_of s → IsTold s lines set
told_by s lines set whole are is = all_told s lines whole.rising are set (λ q e. ap (has q) is ∙ timelines_say s q e)

pub record IsAfter (s t : PlanState) (lines : List Line) (set set' : List Conflict) : Type 0 where
  pub are : AreLinesOf t lines
  pub told : IsTold t lines set'
  pub others : (q : Conflict) → (part_of q.code ≡ of_timelines → ⊥) → has q set' ≡ has q set

pub found_after : (s t : PlanState) (numbers ids : List ℕ) (went came : List Conflict) (lines : List Line) (set set' : List Conflict)
    → IsWhole s → IsWhole t → set ≡ conflicts_of s → Follows s t numbers ids → MendsLinks s t went came → IsAfter s t lines set set'
    → exchanged set' (near s numbers ids ++ went) (near t numbers ids ++ came) ≡ conflicts_of t
found_after s t numbers ids went came lines set set' whole_s whole_t is follows links after =
    turned_set s t numbers ids went came set set' whole_s whole_t is
    (record { follows = follows; links = links; timelines = told_all t lines whole_t.rising after.are set' after.told; others = after.others })

-- where the same conflicts of links stand, none went and none came
pub links_stay : (s t : PlanState) → KeepsLinks s t → MendsLinks s t [] []
links_stay s t same = record { went_of_links = λ q h. absurd (cc); came_of_links = λ q h. absurd (cc); mended = λ q. ap (has q) same ∙ both (has q _) }
  where
    both : (b : Bool) → b ≡ ((b && not false) || false)
    both true = refl
    both false = refl

-- ---- a replacement

pub record Stands (t : PlanState) (lines : List Line) (set : List Conflict) : Type 0 where
  pub whole : IsWhole t
  pub are : AreLinesOf t lines
  pub found : set ≡ conflicts_of t

module _ (s : PlanState) (lines : List Line) (set : List Conflict) (once : List ℕ) (more : List Activity) (whole : IsWhole s) (are : AreLinesOf s lines) (is : set ≡ conflicts_of s)
    (can : CanReplace s once more) (rising : IsStrictlyIncreasing once) where
  pub stands_replaced : (t : PlanState) (rest full : List Line) (set1 set2 set3 : List Conflict) (ids : List ℕ) (went came : List Conflict) → t ≡ with_plan once more s
      → IsMended s lines rest set set1 → IsMoved lines rest (less (gone_from s once)) → IsMended t rest full set1 set2 → IsMoved rest full (asked_at (coming_to t more))
      → HoldSame ids (touched_ids s once more) → MendsLinks s t went came
      → set3 ≡ exchanged set2 (near s (turned_goals s once more) ids ++ went) (near t (turned_goals s once more) ids ++ came) → Stands t full set3
  stands_replaced t rest full set1 set2 set3 ids went came e given left taken held same_ids links exchange =
      subst (λ (u : PlanState). IsMended u rest full set1 set2 → IsMoved rest full (asked_at (coming_to u more)) → MendsLinks s u went came → set3 ≡ exchanged set2 (near s (turned_goals s once more) ids ++ went) (near u (turned_goals s once more) ids ++ came) → Stands u full set3)
      (sym e) core taken held links exchange
    where
      core : IsMended (with_plan once more s) rest full set1 set2 → IsMoved rest full (asked_at (coming_to (with_plan once more s) more)) → MendsLinks s (with_plan once more s) went came
          → set3 ≡ exchanged set2 (near s (turned_goals s once more) ids ++ went) (near (with_plan once more s) (turned_goals s once more) ids ++ came) → Stands (with_plan once more s) full set3
      core taken2 held2 links2 exchange2 =
          let u : PlanState = with_plan once more s in
          let whole_t : IsWhole u = whole_replaced s once more whole can in
          let are_t : AreLinesOf u full = lines_after s once more whole can (once_rising once rising) lines rest are left full held2 in
          let told1 : IsTold s rest set1 = given.told (told_by s lines set whole are is) in
          let told2 : IsTold u full set2 = taken2.told (rest_told s once more whole can (once_rising once rising) lines rest are left set1 told1) in
          record {
            whole = whole_t;
            are = are_t;
            found = exchange2 ∙ found_after s u (turned_goals s once more) ids went came full set set2 whole whole_t is
                (follows_same s u (turned_goals s once more) (touched_ids s once more) (turned_goals s once more) ids (follows_turned s once more whole can) (λ n. refl) same_ids)
                links2 (record { are = are_t; told = told2; others = λ q other. taken2.others q other ∙ given.others q other });
          }

-- ---- another present

pub stands_moved : (s t : PlanState) (lines full : List Line) (set set2 set3 : List Conflict) (numbers ids : List ℕ) (went came : List Conflict)
    → IsWhole s → AreLinesOf s lines → set ≡ conflicts_of s → IsWhole t → AreLinesOf t full → IsMended s lines full set set2 → (IsTold s full set2 → IsTold t full set2)
    → Follows s t numbers ids → MendsLinks s t went came → set3 ≡ exchanged set2 (near s numbers ids ++ went) (near t numbers ids ++ came) → set3 ≡ conflicts_of t
stands_moved s t lines full set set2 set3 numbers ids went came whole are is whole_t are_t mended carried follows links exchange =
    exchange ∙ found_after s t numbers ids went came full set set2 whole whole_t is follows links
    (record { are = are_t; told = carried (mended.told (told_by s lines set whole are is)); others = mended.others })

-- ---- another moment up to which is committed

pub stands_committed : (s : PlanState) (h : ℕ) (lines : List Line) (set set2 : List Conflict) (numbers ids : List ℕ) (went came : List Conflict)
    → IsWhole s → AreLinesOf s lines → set ≡ conflicts_of s → IsWhole (committed_to h s) → Follows s (committed_to h s) numbers ids → MendsLinks s (committed_to h s) went came
    → set2 ≡ exchanged set (near s numbers ids ++ went) (near (committed_to h s) numbers ids ++ came) → set2 ≡ conflicts_of (committed_to h s)
stands_committed s h lines set set2 numbers ids went came whole are is whole_t follows links exchange =
    exchange ∙ found_after s (committed_to h s) numbers ids went came lines set set whole whole_t is follows links
    (record { are = lines_committed s h lines are; told = told_committed s h lines set (told_by s lines set whole are is); others = λ q other. refl })

-- an exchange of nothing changes nothing, and one into nothing is the list itself
pub nothing_exchanged : (ks : List Conflict) → AreInOrder ks → exchanged ks [] [] ≡ ks
nothing_exchanged ks in_order = conflict_unique conflict_exact (exchanged ks [] []) ks (ordered-exchanged ks [] []) in_order (λ q. has-exchanged ks [] [] q ∙ both (has q ks))
  where
    both : (b : Bool) → ((b && not false) || false) ≡ b
    both true = refl
    both false = refl

pub all_exchanged : (ks : List Conflict) → AreInOrder ks → exchanged [] [] ks ≡ ks
all_exchanged ks in_order = conflict_unique conflict_exact (exchanged [] [] ks) ks (ordered-exchanged [] [] ks) in_order (λ q. has-exchanged [] [] ks q)

near_none : (s : PlanState) → near s [] [] ≡ []
unfolding near
near_none s = refl

-- nothing is wrong with a goal that is not there
pub near_fresh : (s : PlanState) (n : ℕ) → goal_of n s.goals ≡ None → near s (n ∷ []) [] ≡ []
unfolding near
near_fresh s n none = rw none refl

-- nothing but timelines changes: what the set has stays but for theirs
pub stands_told : (s t : PlanState) (lines full : List Line) (set set2 : List Conflict)
    → IsWhole s → AreLinesOf s lines → set ≡ conflicts_of s → IsWhole t → AreLinesOf t full → IsMended s lines full set set2 → (IsTold s full set2 → IsTold t full set2)
    → Follows s t [] [] → KeepsLinks s t → set2 ≡ conflicts_of t
stands_told s t lines full set set2 whole are is whole_t are_t mended carried follows links =
    sym (nothing_exchanged set2 (mended.sorted (subst AreInOrder (sym is) (ordered s))))
    ∙ stands_moved s t lines full set set2 (exchanged set2 [] []) [] [] [] [] whole are is whole_t are_t mended carried follows (links_stay s t links)
    (sym (ap (λ l. exchanged set2 (l ++ []) (near t [] [] ++ [])) (near_none s) ∙ ap (λ l. exchanged set2 [] (l ++ [])) (near_none t)))

-- a goal comes or is dropped
pub stands_goal : (s t u : PlanState) (lines : List Line) (set set3 : List Conflict) (n : ℕ) (numbers ids : List ℕ) (went a b : List Conflict)
    → IsWhole s → AreLinesOf s lines → set ≡ conflicts_of s → u ≡ t → IsWhole t → AreLinesOf t lines → (IsTold s lines set → IsTold t lines set)
    → Follows s t (n ∷ []) [] → KeepsLinks s t → numbers ≡ n ∷ [] → ids ≡ [] → went ≡ near s numbers ids → a ≡ [] → b ≡ []
    → set3 ≡ exchanged set (went ++ a) (near u numbers ids ++ b) → set3 ≡ conflicts_of t
stands_goal s t u lines set set3 n numbers ids went a b whole are is same whole_t are_t carried follows links is_numbers is_ids is_went is_a is_b exchange =
    exchange
    ∙ ap (λ l. exchanged set (l ++ a) (near u numbers ids ++ b)) is_went
    ∙ ap (λ l. exchanged set (near s numbers ids ++ l) (near u numbers ids ++ b)) is_a
    ∙ ap (λ l. exchanged set (near s numbers ids ++ []) (near u numbers ids ++ l)) is_b
    ∙ ap (λ v. exchanged set (near s numbers ids ++ []) (near v numbers ids ++ [])) same
    ∙ ap (λ l. exchanged set (near s l ids ++ []) (near t l ids ++ [])) is_numbers
    ∙ ap (λ l. exchanged set (near s (n ∷ []) l ++ []) (near t (n ∷ []) l ++ [])) is_ids
    ∙ found_after s t (n ∷ []) [] [] [] lines set set whole whole_t is follows (links_stay s t links) (record { are = are_t; told = carried (told_by s lines set whole are is); others = λ q other. refl })

-- few timelines
pub few_lines : (s : PlanState) (lines : List Line) → IsWhole s → AreLinesOf s lines → length lines < 4294967296
few_lines s lines whole are =
    let few = whole.checked.few_timelines in
    let same : length lines ≡ length s.model.timelines = sym (length-map lines bare) ∙ ap length are.framed ∙ length-map (lines_of s) (idle s) ∙ length-numbered 0 s.model.timelines in
    omega (arith, few, same)

-- the same conflicts of links in a set that was mended for timelines
pub shown_after : (s : PlanState) (lines lines' : List Line) (set set' : List Conflict) → set ≡ conflicts_of s → IsMended s lines lines' set set' → ShowsLinks s set'
shown_after s lines lines' set set' is mended q e = mended.others q (λ f. let bad : of_links ≡ of_timelines = sym e ∙ f in cc) ∙ shows_links s set is q e

-- ---- all conflicts found anew

pub watched_anew : (w v : WatchedState) → IsWhole w.state → AreOf w.state w.values → AreLinesOf w.state w.lines → w.links ≡ kept_of w.state.model (placed_in w.state) → v ≡ record w { conflicts = v.conflicts } → v.conflicts ≡ conflicts_of w.state → IsWatched v
watched_anew w v whole values timelines store same found =
    let anew : IsWatched (record w { conflicts = v.conflicts }) = record { whole = whole; values = values; timelines = timelines; store = store; found = found } in
    subst IsWatched (sym same) anew

-- where no more is committed than what starts by the present, nothing is withdrawn
pub none_withdrawn : (s : PlanState) → s.committed ≤ s.moment + 1 → s ≡ withdrawn s
none_withdrawn s le = ap (λ (n : ℕ). record s { committed = n }) (let e : s.committed ≡ min s.committed (s.moment + 1) = omega (arith, le) in e)

pub some_withdrawn : (s : PlanState) → s.moment + 1 ≤ s.committed → record s { committed = s.moment + 1 } ≡ withdrawn s
some_withdrawn s le = ap (λ (n : ℕ). record s { committed = n }) (let e : s.moment + 1 ≡ min s.committed (s.moment + 1) = omega (arith, le) in e)
