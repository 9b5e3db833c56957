-- How many conflicts of goals and activities are left, by some that are.
use Rattle.std.proofs.Common.{◌≡◌, ℕ, ◌+◌, ◌≤◌, Bool, true, false, List, [], ◌∷◌, filter, length, Option, Some, None, refl, sym, ap, ◌∙◌, subst, arith}
use Rattle.std.specs.Prelude.{◌||◌, ◌&&◌, not, nat_le}
use Rattle.std.specs.List.Sorted.{IsStrictlySortedBy}
use Rattle.std.proofs.lemmas.List.Kept.{IsStrictlySortedBy-filter}
use Rattle.pl_conflict.specs.declared.conflict.Conflict.{Conflict}
use Rattle.pl_conflict.specs.Order.{conflict_cmp, has}
use Rattle.pl_conflict.specs.Sorting.{AreInOrder}
use Rattle.pl_conflict.proofs.Sorting.{same, same_is, absent}
use Rattle.pl_facts.specs.declared.goal.Goal.{Goal}
use Rattle.pl_semantics.specs.declared.plan_state.PlanState.{PlanState}
use Rattle.pl_semantics.specs.PlanStates.{floor_of, goal_at, is_open, of_found, when}
use Rattle.pl_semantics.specs.Goals.{open_at, open_goal, open_of}
use Rattle.pl_semantics.specs.Conflicts.{conflicts_of}
use Rattle.pl_semantics.proofs.Standing.{ordered}
use Rattle.pl_bounds.specs.Counts.{AreApart}
use Rattle.pl_bounds.specs.Plain.{is_plain, count_of_plain}
use Rattle.pl_bounds.proofs.Counted.{held_are_few}
use Rattle.pl_bounds.proofs.Differing.{apart_passing}

-- ---- lists in order

ordered_apart : (ks : List Conflict) → AreInOrder ks → AreApart ks
unfolding IsStrictlySortedBy
ordered_apart [] in_order = tt
ordered_apart (k ∷ ks) in_order = (absent k ks in_order.0, ordered_apart ks in_order.1)

-- those that stand and pass a test differ
pub standing_apart : (s : PlanState) (p : Conflict → Bool) → AreApart (filter p (conflicts_of s))
standing_apart s p = apart_passing p (conflicts_of s) (ordered_apart (conflicts_of s) (ordered s))

pub passing : (p : Conflict → Bool) (ks : List Conflict) (q : Conflict) → has q ks ≡ true → p q ≡ true → has q (filter p ks) ≡ true
passing p [] q h e = absurd (cc)
passing p (k ∷ ks) q h e = by (same q k) refl (p k) refl (passing p ks q)
  where
    by : (b : Bool) → same q k ≡ b → (c : Bool) → p k ≡ c → (has q ks ≡ true → p q ≡ true → has q (filter p ks) ≡ true) → has q (filter p (k ∷ ks)) ≡ true
    by true is true f more = rw (f, is) refl
    by true is false f more = absurd (let bad : true ≡ false = sym e ∙ (ap p (same_is q k is) ∙ f) in cc)
    by false is true f more = rw (f, is) (more (rw is at h) e)
    by false is false f more = rw f (more (rw is at h) e)

-- ---- those that are left

-- Some that differ, that stand, and that are of goals and activities are no more than there are of these.
pub left_are_few : (t : PlanState) (ks : List Conflict) → AreApart ks → ((q : Conflict) → has q ks ≡ true → (has q (conflicts_of t) ≡ true) × (is_plain q ≡ true)) → length ks ≤ count_of_plain t
left_are_few t ks apart each =
    held_are_few ks (filter is_plain (conflicts_of t)) apart (IsStrictlySortedBy-filter conflict_cmp is_plain (conflicts_of t) (ordered t))
    (λ q e. let both = each q e in passing is_plain (conflicts_of t) q both.0 both.1)

pub record AreLeft (t : PlanState) (ks : List Conflict) : Type 0 where
  pub apart : AreApart ks
  pub each : (q : Conflict) → has q ks ≡ true → (has q (conflicts_of t) ≡ true) × (is_plain q ≡ true)

pub left_few : (t : PlanState) (ks : List Conflict) → AreLeft t ks → length ks ≤ count_of_plain t
left_few t ks are = left_are_few t ks are.apart are.each

pub with_one : (t : PlanState) (ks : List Conflict) → AreLeft t ks → (k : Conflict) → has k ks ≡ false → has k (conflicts_of t) ≡ true → is_plain k ≡ true → AreLeft t (k ∷ ks)
with_one t ks are k none stands plain = record { apart = (none, are.apart); each = λ q h. by q (same q k) refl h }
  where
    by : (q : Conflict) (b : Bool) → same q k ≡ b → (b || has q ks) ≡ true → (has q (conflicts_of t) ≡ true) × (is_plain q ≡ true)
    by q true e there = subst (λ (z : Conflict). (has z (conflicts_of t) ≡ true) × (is_plain z ≡ true)) (sym (same_is q k e)) (stands, plain)
    by q false e there = are.each q there

-- ---- parts

pub split : (p r : Conflict → Bool) (ks : List Conflict) → length (filter p ks) ≤ length (filter (λ q. p q && not (r q)) ks) + length (filter (λ q. p q && r q) ks)
split p r [] = omega arith
split p r (k ∷ ks) = by (p k) refl (r k) refl (split p r ks)
  where
    by : (b : Bool) → p k ≡ b → (c : Bool) → r k ≡ c → length (filter p ks) ≤ length (filter (λ q. p q && not (r q)) ks) + length (filter (λ q. p q && r q) ks)
        → length (filter p (k ∷ ks)) ≤ length (filter (λ q. p q && not (r q)) (k ∷ ks)) + length (filter (λ q. p q && r q) (k ∷ ks))
    by true e true f more = rw (e, f) (omega (arith, more))
    by true e false f more = rw (e, f) (omega (arith, more))
    by false e c f more = rw e (omega (arith, more))

pub one_at_most : (s : PlanState) (n : ℕ) → AreInOrder (open_of s n) × (length (open_of s n) ≤ 1)
unfolding open_at IsStrictlySortedBy
one_at_most s n = by (goal_at s n)
  where
    by_when : (g : Goal) (b : Bool) → AreInOrder (when b (open_goal g)) × (length (when b (open_goal g)) ≤ 1)
    by_when g true = ((tt, tt), omega arith)
    by_when g false = (tt, omega arith)

    by : (o : Option Goal) → AreInOrder (of_found (open_at s) o) × (length (of_found (open_at s) o) ≤ 1)
    by None = (tt, omega arith)
    by (Some g) = by_when g (is_open s g && nat_le (floor_of s) g.latest)
