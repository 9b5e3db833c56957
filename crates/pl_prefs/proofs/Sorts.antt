-- Each move that is tried is a shift or an assignment, and keeps the next id.
use Rattle.std.proofs.Common.{◌≡◌, ℕ, ◌<◌, Bool, true, false, cond, List, [], ◌∷◌, ◌++◌, length, get_or, filter, refl, sym, subst, arith, ℤ, pos, negsuc, length-append}
use Rattle.std.specs.Prelude.{All, nat_le, nat_lt, ◌&&◌}
use Rattle.std.proofs.Math.Seq.{get_or-append_seam}
use Rattle.std.proofs.lemmas.List.Elements.{All-nil, All-cons, All-append, All-map, All-filter, All-same}
use Rattle.pl_lists.proofs.Elements.{all_flat}
use Rattle.pl_plan.specs.declared.activity.Activity.{Activity}
use Rattle.pl_plan.specs.declared.repair.RepairMove.{RepairMove}
use Rattle.pl_plan.specs.declared.repair.RepairMove.TheVariants.{Add, Delete, Shift, Detail, Abstract, Assign, Drop}
use Rattle.pl_semantics.specs.declared.plan_state.PlanState.{PlanState}
use Rattle.pl_semantics.specs.Activities.{bindings_of, params_at}
use Rattle.pl_semantics.specs.Starts.{starting, shift_to, places_of, shifts_of, spread}
use Rattle.pl_semantics.specs.Repairs.{assigns, all_assigns}
use Rattle.pl_semantics.specs.Moves.{is_free, applied}
use Rattle.pl_moves.specs.Changes.{IsOfActivities}
use Rattle.pl_prefs.specs.Betters.{movable, changes_of, changes_in, IsFirstBest}
use Rattle.pl_model.specs.declared.parameters.Param.{Param}

abbrev pub IsChange : RepairMove → Type 0
IsChange (Shift id start) = Unit {0}
IsChange (Assign id param value) = Unit {0}
IsChange _ = ⊥

started : (s : PlanState) (id : ℕ) (z : ℤ) → All IsChange (starting s (shift_to id) z)
started s id (negsuc n) = All-nil IsChange
started s id (pos n) = by (nat_le 1 n && nat_lt n s.model.horizon)
  where
    by : (b : Bool) → All IsChange (cond b (Shift id n ∷ []) [])
    by true = All-cons IsChange (Shift id n) [] tt (All-nil IsChange)
    by false = All-nil IsChange

assigned : (id : ℕ) (p : ℕ × Param) → All IsChange (assigns id p)
assigned id p = All-map IsChange (λ v. Assign id p.0 v) (spread p.1.low p.1.high) (λ i d lt. tt)

abbrev free : PlanState → Activity → List (ℕ × Param)
free s a = filter (is_free (bindings_of s a)) (params_at s a)

each_change : (s : PlanState) (a : Activity) → All IsChange (changes_of s a)
each_change s a =
    All-append IsChange (shifts_of s a) (all_assigns s a)
    (all_flat IsChange (starting s (shift_to a.id)) (places_of s a) (λ i d lt. started s a.id (get_or (places_of s a) i d)))
    (all_flat IsChange (assigns a.id) (free s a) (λ i d lt. assigned a.id (get_or (free s a) i d)))

pub all_changes : (s : PlanState) → All IsChange (changes_in s)
unfolding changes_in
all_changes s = all_flat IsChange (changes_of s) (movable s) (λ i d lt. each_change s (get_or (movable s) i d))

-- what holds of all holds of the best of those that pass a test
pub best_is : (P : RepairMove → Type 0) (worth : RepairMove → ℤ) (test : RepairMove → Bool) (ms : List RepairMove) (m : RepairMove) → All P ms → IsFirstBest worth (filter test ms) m → P m
best_is P worth test ms m all best =
    let passing : All P (best.before ++ m ∷ best.behind) = All-same P (best.before ++ m ∷ best.behind) (filter test ms) (sym best.split) (All-filter test P ms all) in
    let lt : length best.before < length (best.before ++ m ∷ best.behind) = omega (arith, length-append best.before (m ∷ best.behind)) in
    subst P (get_or-append_seam best.before m best.behind m) (passing (length best.before) m lt)

pub best_change : (worth : RepairMove → ℤ) (test : RepairMove → Bool) (ms : List RepairMove) (m : RepairMove) → All IsChange ms → IsFirstBest worth (filter test ms) m → IsChange m
best_change worth test ms m all best = best_is IsChange worth test ms m all best

pub of_activities : (m : RepairMove) → IsChange m → IsOfActivities m
of_activities (Add kind start goal) is = absurd is
of_activities (Delete id) is = absurd is
of_activities (Shift id start) is = tt
of_activities (Detail id alternative) is = absurd is
of_activities (Abstract id) is = absurd is
of_activities (Assign id param value) is = tt
of_activities (Drop number) is = absurd is

pub keeps_next : (s : PlanState) (m : RepairMove) → IsChange m → (applied s m).next_id ≡ s.next_id
unfolding applied
keeps_next s (Add kind start goal) is = absurd is
keeps_next s (Delete id) is = absurd is
keeps_next s (Shift id start) is = refl
keeps_next s (Detail id alternative) is = absurd is
keeps_next s (Abstract id) is = absurd is
keeps_next s (Assign id param value) is = refl
keeps_next s (Drop number) is = absurd is
