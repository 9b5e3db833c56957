-- A change leaves all conflicts of goals and of activities but those that stood near what it concerns.
use Rattle.std.proofs.Common.{◌≡◌, ℕ, suc, ◌+◌, ◌<◌, ◌≤◌, Bool, true, List, [], ◌∷◌, ◌++◌, filter, length, Option, Some, None, refl, ◌∙◌, inl, inr, arith, length-append}
use Rattle.std.specs.Prelude.{◌&&◌, ◌⊎◌, not}
use Rattle.std.specs.List.{flat_map}
use Rattle.std.specs.Option.{option_to_list}
use Rattle.std.specs.BTreeSet.{insert_key}
use Rattle.std.specs.declared.cmp.Ordering.{Ordering}
use Rattle.std.specs.declared.cmp.Ordering.TheVariants.{Less, Equal, Greater}
use Rattle.std.proofs.lemmas.Bool.{and_parts, not-true}
use Rattle.pl_conflict.specs.declared.conflict.Conflict.{Conflict}
use Rattle.pl_conflict.specs.Order.{conflict_cmp, has}
use Rattle.pl_conflict.specs.Sorting.{sorted}
use Rattle.pl_conflict.proofs.Sorting.{has-sorted, ordered-sorted}
use Rattle.pl_update.specs.GoalsAndActivities.Near.{near, IsPlain, Follows}
use Rattle.pl_update.specs.GoalsAndActivities.Touched.{touched_goals, touched_ids}
use Rattle.pl_plan.specs.declared.activity.Activity.{Activity}
use Rattle.pl_plan.proofs.Climbs.{all_at}
use Rattle.pl_semantics.specs.declared.plan_state.PlanState.{PlanState}
use Rattle.pl_semantics.specs.PlanStates.{found}
use Rattle.pl_semantics.specs.Goals.{open_of}
use Rattle.pl_semantics.specs.Activities.{wrong_of}
use Rattle.pl_semantics.specs.Conflicts.{conflicts_of}
use Rattle.pl_semantics.specs.Parts.{Part, part_of, of_goals, of_activities, of_links, of_timelines}
use Rattle.pl_semantics.specs.Moves.{root_for}
use Rattle.pl_semantics.specs.Whole.{IsWhole, IsIdBelow}
use Rattle.pl_bounds.specs.Plain.{is_plain, is_plain_part, count_of_plain}
use Rattle.pl_bounds.proofs.Counted.{held_are_few}
use Rattle.pl_bounds.proofs.Differing.{has_passing}
use Rattle.pl_bounds.proofs.Leaving.{one_at_most, split, standing_apart}
use Rattle.pl_bounds.proofs.Unmoved.{steady}

-- ---- lists

length-insert : (ks : List Conflict) (k : Conflict) → length (insert_key conflict_cmp ks k) ≤ suc (length ks)
length-insert [] k = omega arith
length-insert (x ∷ ks) k = cases (conflict_cmp k x) refl (length-insert ks k)
  where
    cases : (r : Ordering) → conflict_cmp k x ≡ r → length (insert_key conflict_cmp ks k) ≤ suc (length ks) → length (insert_key conflict_cmp (x ∷ ks) k) ≤ suc (suc (length ks))
    cases Less e more = rw e (omega arith)
    cases Equal e more = rw e (omega arith)
    cases Greater e more = rw e (omega (arith, more))

length-sorted : (ks : List Conflict) → length (sorted ks) ≤ length ks
unfolding sorted
length-sorted [] = omega arith
length-sorted (k ∷ ks) = let one = length-insert (sorted ks) k in let more = length-sorted ks in omega (arith, one, more)

-- ---- what is kept

is_of_two : (p : Part) → is_plain_part p ≡ true → (p ≡ of_goals) ⊎ (p ≡ of_activities)
is_of_two of_goals e = inl refl
is_of_two of_activities e = inr refl
is_of_two of_links e = absurd (cc)
is_of_two of_timelines e = absurd (cc)

pub plain_is : (q : Conflict) → is_plain q ≡ true → IsPlain q
plain_is q e = is_of_two (part_of q.code) e

-- of goals or activities, and none of these
abbrev pub is_kept : List Conflict → Conflict → Bool
is_kept wrong q = is_plain q && not (has q wrong)

few_are_lost : (s : PlanState) (wrong : List Conflict) → length (filter (λ q. is_plain q && has q wrong) (conflicts_of s)) ≤ length wrong
few_are_lost s wrong =
    let few : length (filter (λ q. is_plain q && has q wrong) (conflicts_of s)) ≤ length (sorted wrong) =
    held_are_few (filter (λ q. is_plain q && has q wrong) (conflicts_of s)) (sorted wrong) (standing_apart s (λ q. is_plain q && has q wrong)) (ordered-sorted wrong)
    (λ q e. has-sorted wrong q ∙ (and_parts (is_plain q) (has q wrong) (has_passing (λ k. is_plain k && has k wrong) (conflicts_of s) q e).1).1) in
    let less = length-sorted wrong in
    omega (arith, few, less)

pub all_but_wrong : (s : PlanState) (wrong : List Conflict) → count_of_plain s ≤ length (filter (is_kept wrong) (conflicts_of s)) + length wrong
all_but_wrong s wrong =
    let parts = split is_plain (λ q. has q wrong) (conflicts_of s) in
    let few = few_are_lost s wrong in
    omega (arith, parts, few)

module _ (s t : PlanState) (whole : IsWhole s) (whole_too : IsWhole t) (numbers ids : List ℕ) (follows : Follows s t numbers ids) where
  pub kept_stays : (q : Conflict) → has q (filter (is_kept (near s numbers ids)) (conflicts_of s)) ≡ true → (has q (conflicts_of t) ≡ true) × (is_plain q ≡ true)
  kept_stays q e =
      let both = has_passing (is_kept (near s numbers ids)) (conflicts_of s) q e in
      let two = and_parts (is_plain q) (not (has q (near s numbers ids))) both.1 in
      (steady s t numbers ids whole whole_too follows q (plain_is q two.0) both.0 (not-true (has q (near s numbers ids)) two.1), two.0)

-- ---- a new root

none_new : (s : PlanState) → IsWhole s → found s s.next_id ≡ None
none_new s whole = by (found s s.next_id) refl
  where
    by : (o : Option Activity) → found s s.next_id ≡ o → o ≡ None
    by None e = refl
    by (Some a) e = absurd (let both = all_at (IsIdBelow s.next_id) s.plan.activities s.next_id a whole.ids e in let less : a.id < s.next_id = both.0.1 in let is : a.id ≡ s.next_id = both.1 in omega (arith, less, is))

few_opens : (s : PlanState) (goal : Option ℕ) → length (flat_map (open_of s) (option_to_list goal)) ≤ length (option_to_list goal)
few_opens s None = omega arith
few_opens s (Some n) =
    let one = one_at_most s n in
    let both : length (open_of s n ++ []) ≡ length (open_of s n) + 0 = length-append (open_of s n) [] in
    omega (arith, one.1, both)

-- near it stands its goal alone
pub near_new : (s : PlanState) → IsWhole s → (kind start : ℕ) (goal : Option ℕ) → length (near s (touched_goals s [] (root_for s kind start goal ∷ [])) (touched_ids s [] (root_for s kind start goal ∷ []))) ≤ length (option_to_list goal)
unfolding near touched_goals touched_ids
near_new s whole kind start None = rw (none_new s whole) (omega arith)
near_new s whole kind start (Some n) = let few = few_opens s (Some n) in rw (none_new s whole) (let all : length ((flat_map (open_of s) (n ∷ []) ++ []) ++ []) ≤ 1 = omega (arith, few, length-append (flat_map (open_of s) (n ∷ []) ++ []) [], length-append (flat_map (open_of s) (n ∷ [])) []) in all)

pub none_wrong_new : (s : PlanState) → IsWhole s → wrong_of s s.next_id ≡ []
none_wrong_new s whole = rw (none_new s whole) refl
