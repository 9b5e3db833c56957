-- An activity that is not near a replacement has the same conflicts for what it breaks.
use Rattle.std.proofs.Common.{◌≡◌, ℕ, eqb, Bool, true, false, List, [], ◌∷◌, ◌++◌, find, Option, Some, None, refl, sym, ap, ◌∙◌, flat_map}
use Rattle.std.specs.Prelude.{◌||◌, ◌&&◌, All, option_to_list}
use Rattle.std.proofs.lemmas.List.Elements.{All-nil, All-cons, All-weaker}
use Rattle.std.proofs.lemmas.List.Folds.{list_any-append}
use Rattle.pl_lists.proofs.Tests.{or_first_false, or_second_false}
use Rattle.pl_model.specs.declared.alternatives.Order.{Order}
use Rattle.pl_plan.specs.declared.activity.Activity.{Activity}
use Rattle.pl_plan.specs.Activities.{AreRising, activity_of}
use Rattle.pl_plan.specs.Fitting.{fills, is_slot}
use Rattle.pl_plan.specs.Trees.{parent_id, parent_in}
use Rattle.pl_links.specs.declared.broken.Broken.{Broken}
use Rattle.pl_semantics.specs.declared.plan_state.PlanState.{PlanState}
use Rattle.pl_semantics.specs.PlanStates.{found, of_found, among}
use Rattle.pl_semantics.specs.Links.{place_in, order_at, unmet_from, unmet_order, link_conflict}
use Rattle.pl_semantics.proofs.Keys.{activity_of_find}
use Rattle.pl_detect.specs.Broken.{conflict_by, broken_conflict}
use Rattle.pl_detect.proofs.Found.{found_id}
use Rattle.pl_update.specs.Changes.Replaced.{replaced, with_plan}
use Rattle.pl_update.specs.Links.Near.{own_and_parent, ids_at, near}
use Rattle.pl_update.proofs.AboutLinks.Lookups.{Fails, find-replaced}

pub among-append : (p : ℕ) (xs ys : List ℕ) → among p (xs ++ ys) ≡ (among p xs || among p ys)
among-append p xs ys = list_any-append (λ i. eqb i p) xs ys

-- neither it nor its parent
abbrev Misses : ℕ → Activity → Type 0
Misses p a = among p (own_and_parent a) ≡ false

not_itself : (p : ℕ) (a : Activity) → Misses p a → eqb a.id p ≡ false
not_itself p a misses = or_first_false (eqb a.id p) (among p (option_to_list (parent_in a))) misses

not_child : (p slot : ℕ) (a : Activity) → Misses p a → fills p slot a ≡ false
not_child p slot a misses = by a.parent (or_second_false (eqb a.id p) (among p (option_to_list (parent_id a.parent))) misses)
  where
    none : (b c : Bool) → (b || false) ≡ false → (b && c) ≡ false
    none true c e = absurd (cc)
    none false c e = refl

    by : (o : Option (ℕ × ℕ)) → among p (option_to_list (parent_id o)) ≡ false → is_slot p slot o ≡ false
    by None e = refl
    by (Some (q, n)) e = none (eqb q p) (eqb n slot) e

module _ (s : PlanState) (p : ℕ) where
  gone_miss : (gone : List ℕ) → among p (flat_map (ids_at s) gone) ≡ false → All (λ id. (a : Activity) → found s id ≡ Some a → Misses p a) gone
  gone_miss [] e = All-nil (λ id. (a : Activity) → found s id ≡ Some a → Misses p a)
  gone_miss (g ∷ gone) e =
      let both : (among p (ids_at s g) || among p (flat_map (ids_at s) gone)) ≡ false = sym (among-append p (ids_at s g) (flat_map (ids_at s) gone)) ∙ e in
      let here : among p (ids_at s g) ≡ false = or_first_false (among p (ids_at s g)) (among p (flat_map (ids_at s) gone)) both in
      All-cons (λ id. (a : Activity) → found s id ≡ Some a → Misses p a) g gone
      (λ a is. rw is at here)
      (gone_miss gone (or_second_false (among p (ids_at s g)) (among p (flat_map (ids_at s) gone)) both))

more_miss : (p : ℕ) (more : List Activity) → among p (flat_map own_and_parent more) ≡ false → All (Misses p) more
more_miss p [] e = All-nil (Misses p)
more_miss p (a ∷ more) e =
    let both : (among p (own_and_parent a) || among p (flat_map own_and_parent more)) ≡ false = sym (among-append p (own_and_parent a) (flat_map own_and_parent more)) ∙ e in
    All-cons (Misses p) a more (or_first_false (among p (own_and_parent a)) (among p (flat_map own_and_parent more)) both) (more_miss p more (or_second_false (among p (own_and_parent a)) (among p (flat_map own_and_parent more)) both))

module _ (s : PlanState) (gone : List ℕ) (more : List Activity) (rising : AreRising s.plan.activities) (p : ℕ) (far : among p (near s gone more) ≡ false) where
  parts : (among p (flat_map (ids_at s) gone) || among p (flat_map own_and_parent more)) ≡ false
  unfolding near
  parts = sym (among-append p (flat_map (ids_at s) gone) (flat_map own_and_parent more)) ∙ far

  same_search : (f : Activity → Bool) → ((a : Activity) → Misses p a → f a ≡ false) → find f (replaced s.plan.activities gone more) ≡ find f s.plan.activities
  same_search f fails = find-replaced f s.plan.activities gone more rising
      (All-weaker (λ id. (a : Activity) → found s id ≡ Some a → Misses p a) (Fails f s.plan.activities) (λ id misses a is. fails a (misses a is)) gone
      (gone_miss s p gone (or_first_false (among p (flat_map (ids_at s) gone)) (among p (flat_map own_and_parent more)) parts)))
      (All-weaker (Misses p) (λ a. f a ≡ false) fails more (more_miss p more (or_second_false (among p (flat_map (ids_at s) gone)) (among p (flat_map own_and_parent more)) parts)))

  same_found : found (with_plan gone more s) p ≡ found s p
  same_found = sym (activity_of_find p (replaced s.plan.activities gone more)) ∙ (same_search (λ a. eqb a.id p) (not_itself p) ∙ activity_of_find p s.plan.activities)

  same_place : (a : Activity) → a.id ≡ p → (o : Option ℕ) → place_in (with_plan gone more s) a o ≡ place_in s a o
  same_place a is None = refl
  same_place a is (Some slot) = ap (λ n. find (fills n slot) (replaced s.plan.activities gone more)) is ∙ (same_search (fills p slot) (not_child p slot) ∙ ap (λ n. find (fills n slot) s.plan.activities) (sym is))

  same_orders : (a : Activity) → a.id ≡ p → (index : ℕ) (o : Option Order) → of_found (unmet_order (with_plan gone more s) a index) o ≡ of_found (unmet_order s a index) o
  same_orders a is index None = refl
  same_orders a is index (Some o) =
      ap (λ first. unmet_from (with_plan gone more s) a index first (place_in (with_plan gone more s) a o.second)) (same_place a is o.first)
      ∙ ap (λ second. unmet_from s a index (place_in s a o.first) second) (same_place a is o.second)

  same_conflict : (a : Activity) → a.id ≡ p → (slots : Bool) (index : ℕ) → link_conflict (with_plan gone more s) a slots index ≡ link_conflict s a slots index
  same_conflict a is false index = refl
  same_conflict a is true index = same_orders a is index (order_at s a index)

  by_found : (b : Broken) (o : Option Activity) → activity_of p s.plan.activities ≡ o → of_found (conflict_by (with_plan gone more s) b) o ≡ of_found (conflict_by s b) o
  by_found b None is = refl
  by_found b (Some a) is = same_conflict a (found_id p s.plan.activities a is) b.slots b.index

  pub same_by : (b : Broken) → b.id ≡ p → broken_conflict (with_plan gone more s) b ≡ broken_conflict s b
  same_by b is =
      ap (λ n. of_found (conflict_by (with_plan gone more s) b) (found (with_plan gone more s) n)) is
      ∙ (ap (of_found (conflict_by (with_plan gone more s) b)) same_found
      ∙ (by_found b (found s p) refl
      ∙ ap (λ n. of_found (conflict_by s b) (found s n)) (sym is)))

-- nothing but what is near has other conflicts
pub same_far : (s : PlanState) (gone : List ℕ) (more : List Activity) → AreRising s.plan.activities → (b : Broken) → among b.id (near s gone more) ≡ false → broken_conflict (with_plan gone more s) b ≡ broken_conflict s b
same_far s gone more rising b far = same_by s gone more rising b.id far b refl
