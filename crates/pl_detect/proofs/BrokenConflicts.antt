-- The conflicts of all that is broken are those of each activity in turn.
use Rattle.std.proofs.Common.{◌≡◌, ℕ, zero, suc, max, true, false, List, [], ◌∷◌, ◌++◌, length, map, Some, refl, ap, ◌∙◌, flat_map}
use Rattle.std.specs.Prelude.{All, slice_get}
use Rattle.std.proofs.lemmas.List.Concat.{flat_map-append}
use Rattle.std.proofs.lemmas.List.Elements.{All-nil, All-head, All-tail, All-append}
use Rattle.pl_model.specs.declared.links.Link.{Link}
use Rattle.pl_model.specs.declared.alternatives.Order.{Order}
use Rattle.pl_model.specs.declared.whole.Model.{Model}
use Rattle.pl_plan.specs.declared.activity.Activity.{Activity}
use Rattle.pl_plan.specs.Activities.{AreRising, activity_of}
use Rattle.pl_plan.proofs.Kept.{each_found}
use Rattle.pl_links.specs.declared.placed.Placed.{Placed}
use Rattle.pl_links.specs.declared.broken.Broken.{Broken}
use Rattle.pl_links.specs.Broken.{when, is_link_broken, is_order_broken, broken_at, broken_below, broken_by, broken_of, links_of, orders_of}
use Rattle.pl_links.specs.Kept.{Kept, kept_of}
use Rattle.pl_links.proofs.BrokenLaws.{all_when}
use Rattle.pl_semantics.specs.declared.plan_state.PlanState.{PlanState}
use Rattle.pl_semantics.specs.PlanStates.{of_found}
use Rattle.pl_semantics.specs.Links.{placed_of, placed_in, conflict_of, links_at, link_conflicts}
use Rattle.pl_detect.specs.Broken.{conflict_by, broken_conflict}

abbrev IsOf : ℕ → Broken → Type 0
IsOf id b = b.id ≡ id

module _ (items : List Placed) (own : Placed) (ls : List Link) (os : List Order) where
  below_is_own : (n : ℕ) → All (IsOf own.id) (broken_below items own ls os n)
  below_is_own zero = All-nil (IsOf own.id)
  below_is_own (suc n) =
      let link = is_link_broken items own (slice_get ls n) in
      let order = is_order_broken items own (slice_get os n) in
      let one : Broken = record { id = own.id; index = n; slots = false } in
      let two : Broken = record { id = own.id; index = n; slots = true } in
      All-append (IsOf own.id) (broken_below items own ls os n) (broken_at items own ls os n) (below_is_own n)
      (All-append (IsOf own.id) (when link one) (when order two) (all_when (IsOf own.id) link one (λ e. refl)) (all_when (IsOf own.id) order two (λ e. refl)))

by_is_own : (model : Model) (items : List Placed) (own : Placed) → All (IsOf own.id) (broken_by model items own)
by_is_own model items own = below_is_own items own (links_of model own) (orders_of model own) (max (length (links_of model own)) (length (orders_of model own)))

module _ (s : PlanState) where
  -- by the look-up or by the activity itself
  own_conflicts : (a : Activity) → activity_of a.id s.plan.activities ≡ Some a → (bs : List Broken) → All (IsOf a.id) bs → flat_map (broken_conflict s) bs ≡ flat_map (conflict_of s a) bs
  own_conflicts a live [] all = refl
  own_conflicts a live (b ∷ bs) all =
      let same : b.id ≡ a.id = All-head (IsOf a.id) b bs all in
      let found : activity_of b.id s.plan.activities ≡ Some a = ap (λ n. activity_of n s.plan.activities) same ∙ live in
      let one : broken_conflict s b ≡ conflict_of s a b = ap (of_found (conflict_by s b)) found in
      let more = own_conflicts a live bs (All-tail (IsOf a.id) b bs all) in
      ap (λ l. l ++ flat_map (broken_conflict s) bs) one ∙ ap (λ l. conflict_of s a b ++ l) more

  each : (xs : List Activity) → All (λ a. activity_of a.id s.plan.activities ≡ Some a) xs → flat_map (broken_conflict s) (flat_map (broken_by s.model (placed_in s)) (map (placed_of s) xs)) ≡ flat_map (links_at s) xs
  unfolding links_at
  each [] all = refl
  each (a ∷ xs) all =
      let live : activity_of a.id s.plan.activities ≡ Some a = All-head (λ a. activity_of a.id s.plan.activities ≡ Some a) a xs all in
      let bs = broken_by s.model (placed_in s) (placed_of s a) in
      let rest = flat_map (broken_by s.model (placed_in s)) (map (placed_of s) xs) in
      let more = each xs (All-tail (λ a. activity_of a.id s.plan.activities ≡ Some a) a xs all) in
      flat_map-append (broken_conflict s) bs rest
      ∙ ap (λ l. l ++ flat_map (broken_conflict s) rest) (own_conflicts a live bs (by_is_own s.model (placed_in s) (placed_of s a)))
      ∙ ap (λ l. flat_map (conflict_of s a) bs ++ l) more

pub broken_conflicts : (s : PlanState) → AreRising s.plan.activities → flat_map (broken_conflict s) (broken_of s.model (placed_in s)) ≡ link_conflicts s
broken_conflicts s rising = each s s.plan.activities (each_found s.plan.activities rising)

-- the same by what a caller knows of the model, the store and the list
pub link_conflicts_are : (s : PlanState) → AreRising s.plan.activities → (model : Model) → model ≡ s.model → (kept : Kept) → kept ≡ kept_of s.model (placed_in s) → (bs : List Broken) → bs ≡ broken_of model kept.items → flat_map (broken_conflict s) bs ≡ link_conflicts s
link_conflicts_are s rising model same kept so_far bs is =
    ap (flat_map (broken_conflict s)) is
    ∙ (ap (λ m. flat_map (broken_conflict s) (broken_of m kept.items)) same
    ∙ (ap (λ (l : Kept). flat_map (broken_conflict s) (broken_of s.model l.items)) so_far
    ∙ broken_conflicts s rising))
