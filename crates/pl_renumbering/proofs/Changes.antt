-- What a move changes, places and shifts, under new ids.
use Rattle.std.proofs.Common.{◌≡◌, ℕ, suc, ◌+◌, List, [], ◌∷◌, length, Option, Some, None, refl, sym, ap, ◌∙◌, arith}
use Rattle.std.specs.Prelude.{◌&&◌, map, filter, slice_get}
use Rattle.std.specs.Option.{option_map}
use Rattle.pl_model.specs.declared.alternatives.Slot.{Slot}
use Rattle.pl_model.specs.declared.alternatives.Alternative.{Alternative}
use Rattle.pl_plan.specs.declared.activity.Activity.{Activity}
use Rattle.pl_plan.specs.declared.repair.RepairMove.{RepairMove}
use Rattle.pl_plan.specs.declared.repair.RepairMove.TheVariants.{Add, Delete, Shift, Detail, Abstract, Assign, Drop}
use Rattle.pl_plan.specs.Trees.{IsRooted}
use Rattle.pl_semantics.specs.declared.plan_state.PlanState.{PlanState}
use Rattle.pl_semantics.specs.PlanStates.{found, is_committed}
use Rattle.pl_semantics.specs.Moves.{is_under, is_changed, is_locked, alternatives_at, root_for, child_for, children_from, children_in, children_for, moved, moved_with, started_by, count_of_new}
use Rattle.pl_renumbering.specs.Renumbered.{KeepsOrder, AgreesAhead, renumbered, renumbered_all, renumbered_state, renumbered_move}
use Rattle.pl_renumbering.proofs.Lists.{filter_mapped, map_mapped, length-mapped}
use Rattle.pl_renumbering.proofs.Numbers.{same_ids}
use Rattle.pl_renumbering.proofs.Activities.{descends_same}
use Rattle.pl_renumbering.proofs.Comings.{found_same}

module _ (f : ℕ → ℕ) (next : ℕ) (s : PlanState) (keeps : KeepsOrder f) (rooted : IsRooted s.plan.activities) where
  abbrev t : PlanState
  t = renumbered_state f next s

  -- ---- what is changed

  pub under_same : (top : ℕ) (a : Activity) → is_under t (f top) (renumbered f a) ≡ is_under s top a
  under_same top a = descends_same f keeps s.plan.activities rooted top a.id

  changed_same : (m : RepairMove) (a : Activity) → is_changed t (renumbered_move f m) (renumbered f a) ≡ is_changed s m a
  changed_same (Add kind start goal) a = refl
  changed_same (Delete id) a = under_same id a
  changed_same (Shift id start) a = under_same id a
  changed_same (Detail id alternative) a = same_ids f keeps a.id id
  changed_same (Abstract id) a = under_same id a
  changed_same (Assign id param value) a = under_same id a
  changed_same (Drop number) a = refl

  pub locked_same : (m : RepairMove) (a : Activity) → is_locked t (renumbered_move f m) (renumbered f a) ≡ is_locked s m a
  locked_same m a = ap (λ b. b && is_committed s a) (changed_same m a)

  -- ---- what is shifted

  moved_along : (to : ℕ) (o : Option Activity) → moved_with t to (option_map (renumbered f) o) ≡ renumbered_all f (moved_with s to o)
  moved_along to None = refl
  moved_along to (Some a) =
      ap (map (moved a.start to)) (filter_mapped (renumbered f) (is_under t (f a.id)) (is_under s a.id) (under_same a.id) s.plan.activities)
      ∙ map_mapped (renumbered f) (renumbered f) (moved a.start to) (moved a.start to) (λ x. refl) (filter (is_under s a.id) s.plan.activities)

  -- ---- what is placed

  module _ (ahead : AgreesAhead f s t) where
    pub next_same : f s.next_id ≡ next
    next_same =
        let here : s.next_id ≡ s.next_id + 0 = omega arith in
        let there : next + 0 ≡ next = omega arith in
        ap f here ∙ (ahead 0 ∙ there)

    pub root_along : (kind start : ℕ) (goal : Option ℕ) → root_for t kind start goal ≡ renumbered f (root_for s kind start goal)
    root_along kind start goal = ap (λ id. record (root_for s kind start goal) { id = id }) (sym next_same)

    child_along : (parent slot : ℕ) (at : Slot) (start : ℕ) → child_for t (f parent) slot (next + slot) at start ≡ renumbered f (child_for s parent slot (s.next_id + slot) at start)
    child_along parent slot at start = ap (λ id. record (renumbered f (child_for s parent slot (s.next_id + slot) at start)) { id = id }) (sym (ahead slot))

    children_from_along : (a : Activity) (n : ℕ) (slots : List Slot) (offsets : List ℕ) → children_from t (renumbered f a) n slots offsets ≡ renumbered_all f (children_from s a n slots offsets)
    children_from_along a n [] offsets = refl
    children_from_along a n (at ∷ more) [] = refl
    children_from_along a n (at ∷ more) (offset ∷ offsets) =
        rw (child_along a.id n at (a.start + offset)) (ap (λ l. renumbered f (child_for s a.id n (s.next_id + n) at (a.start + offset)) ∷ l) (children_from_along a (suc n) more offsets))

    children_in_along : (a : Activity) (o : Option Alternative) → children_in t (renumbered f a) o ≡ renumbered_all f (children_in s a o)
    children_in_along a None = refl
    children_in_along a (Some alternative) = children_from_along a 0 alternative.slots alternative.offsets

    children_of_found : (alternative : ℕ) (o : Option Activity) → children_for t alternative (option_map (renumbered f) o) ≡ renumbered_all f (children_for s alternative o)
    children_of_found alternative None = refl
    children_of_found alternative (Some a) = children_in_along a (slice_get (alternatives_at s a) alternative)

    pub children_along : (id alternative : ℕ) → children_for t alternative (found t (f id)) ≡ renumbered_all f (children_for s alternative (found s id))
    children_along id alternative = ap (children_for t alternative) (found_same f next s keeps id) ∙ children_of_found alternative (found s id)

    pub started_along : (m : RepairMove) → started_by t (renumbered_move f m) ≡ renumbered_all f (started_by s m)
    started_along (Add kind start goal) = ap (λ a. a ∷ []) (root_along kind start goal)
    started_along (Shift id start) = ap (moved_with t start) (found_same f next s keeps id) ∙ moved_along start (found s id)
    started_along (Detail id alternative) = children_along id alternative
    started_along (Delete id) = refl
    started_along (Abstract id) = refl
    started_along (Assign id param value) = refl
    started_along (Drop number) = refl

    pub count_same : (m : RepairMove) → count_of_new t (renumbered_move f m) ≡ count_of_new s m
    count_same (Detail id alternative) = ap length (children_along id alternative) ∙ length-mapped (renumbered f) (children_for s alternative (found s id))
    count_same (Add kind start goal) = refl
    count_same (Shift id start) = refl
    count_same (Delete id) = refl
    count_same (Abstract id) = refl
    count_same (Assign id param value) = refl
    count_same (Drop number) = refl
