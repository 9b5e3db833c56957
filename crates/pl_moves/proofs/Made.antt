-- A proper move that is not refused is a replacement, and leaves what the move makes of the state.
use Rattle.std.proofs.Common.{◌≡◌, ℕ, suc, ◌+◌, ◌<◌, ◌≤◌, eqb, ltb, Bool, true, false, List, [], ◌∷◌, ◌++◌, map, filter, length, get_or, refl, sym, ap, ◌∙◌, subst, arith}
use Rattle.std.specs.Prelude.{◌&&◌, max, All, ℤ, Option, Some, None, IfSome, IsSome, is_some, is_none, slice_get, option_and_then}
use Rattle.std.proofs.lemmas.Bool.{ltb-true, eqb-true}
use Rattle.std.proofs.lemmas.List.{length-replicate}
use Rattle.std.proofs.lemmas.List.Elements.{All-nil, All-cons, All-head, All-tail}
use Rattle.pl_facts.specs.declared.goal.Goal.{Goal}
use Rattle.pl_facts.specs.Goals.{goal_of, is_numbered}
use Rattle.std.proofs.lemmas.Option.{slice_get-get_or}
use Rattle.pl_lists.proofs.Tests.{and_first, and_second}
use Rattle.pl_model.specs.declared.alternatives.Slot.{Slot}
use Rattle.pl_model.specs.declared.alternatives.Alternative.{Alternative}
use Rattle.pl_model.specs.Checked.{params_of}
use Rattle.pl_plan.specs.declared.activity.Activity.{Activity}
use Rattle.pl_plan.specs.declared.repair.RepairMove.{RepairMove}
use Rattle.pl_plan.specs.declared.repair.RepairMove.TheVariants.{Add, Delete, Shift, Detail, Abstract, Assign, Drop}
use Rattle.pl_plan.specs.Activities.{IsLive, activity_of}
use Rattle.pl_plan.specs.Trees.{parent_of, parent_id, subtree_of}
use Rattle.pl_plan.specs.Fitting.{FitsAlone}
use Rattle.pl_plan.specs.Moves.{without_subtree, without_below, abstracted}
use Rattle.pl_plan.proofs.Climbs.{all_at}
use Rattle.pl_semantics.specs.declared.plan_state.PlanState.{PlanState}
use Rattle.pl_semantics.specs.PlanStates.{found, goal_at, is_open, floor_of}
use Rattle.pl_semantics.specs.Whole.{IsWhole, IsGoalOf, IsIdBelow}
use Rattle.pl_semantics.specs.Moves.{holds, is_proper, is_wanted, refusal_of, applied, root_for, unset_row, presets_of, moved, is_under, alternatives_at, changed_where, children_from, detailed, has_id}
use Rattle.pl_semantics.specs.Legal.{MayBeMade}
use Rattle.pl_semantics.proofs.Refusing.{may}
use Rattle.pl_update.specs.Changes.Replaced.{CanReplace, next_after, with_plan}
use Rattle.pl_moves.specs.Changes.{IsNamedLive, IsNear, IsOfActivities, assigned, gone_by, placed_by, undetailed}
use Rattle.pl_moves.proofs.Swaps.{IsSwap, can_swap, swap_is, next_same}
use Rattle.pl_moves.proofs.Cuts.{delete_swap, abstract_swap}
use Rattle.pl_moves.proofs.Remade.{moved_within, shifted_one, shift_swap, assign_swap, moved_keeps, assigned_keeps, below_all}
use Rattle.pl_moves.proofs.Grown.{add_swap}
use Rattle.pl_moves.proofs.Offsets.{paired, slot_kinds}
use Rattle.pl_moves.proofs.Branched.{detail_swap}
use Rattle.pl_moves.proofs.Unmeasured.{unmeasured}

pub record IsMadeBy (s : PlanState) (m : RepairMove) : Type 0 where
  pub swap : IsSwap s (gone_by s m) (placed_by s m) (applied s m).plan.activities
  pub is : with_plan (gone_by s m) (placed_by s m) s ≡ applied s m

-- ---- what a proper move says

option_live : {X : Type 0} (test : X → Bool) (o : Option X) → holds test o ≡ true → is_some o ≡ true
option_live test None is = absurd (cc)
option_live test (Some x) is = refl

pub named_live : (s : PlanState) (m : RepairMove) → is_proper s m ≡ true → IsNamedLive s m
unfolding is_proper
named_live s (Add kind start goal) is = tt
named_live s (Delete id) is = option_live _ (found s id) is
named_live s (Shift id start) is = is
named_live s (Detail id alternative) is = option_live _ (found s id) is
named_live s (Abstract id) is = option_live _ (found s id) is
named_live s (Assign id param value) is = option_live _ (found s id) is
named_live s (Drop goal) is = tt

root_named : (s : PlanState) (id : ℕ) → is_proper s (Delete id) ≡ true → parent_of id s.plan.activities ≡ None
unfolding is_proper
root_named s id is = by (found s id) refl is
  where
    none : (o : Option (ℕ × ℕ)) → is_none o ≡ true → parent_id o ≡ None
    none None e = refl
    none (Some p) e = absurd (cc)

    by : (o : Option Activity) → found s id ≡ o → holds (λ a. is_none a.parent) o ≡ true → parent_of id s.plan.activities ≡ None
    by None e h = absurd (cc)
    by (Some a) e h = rw e (none a.parent h)

add_test : (s : PlanState) (kind start : ℕ) (goal : Option ℕ) → is_proper s (Add kind start goal) ≡ true → (ltb kind (length s.model.kinds) && is_wanted s kind goal) ≡ true
unfolding is_proper
add_test s kind start goal is = is

detail_test : (s : PlanState) (id alternative : ℕ) → is_proper s (Detail id alternative) ≡ true → holds (λ a. is_none a.detail && ltb alternative (length (alternatives_at s a))) (found s id) ≡ true
unfolding is_proper
detail_test s id alternative is = is

none_of : (o : Option ℕ) → is_none o ≡ true → o ≡ None
none_of None e = refl
none_of (Some n) e = absurd (cc)

none_past : (xs : List Alternative) (i : ℕ) → slice_get xs i ≡ None → i < length xs → ⊥
none_past [] i e lt = omega (arith, lt)
none_past (x ∷ xs) i e lt = let bad : Some (get_or (x ∷ xs) i x) ≡ None = sym (slice_get-get_or (x ∷ xs) i x lt) ∙ e in absurd (cc)

goal_all : (P : Goal → Type 0) (goals : List Goal) (n : ℕ) (g : Goal) → All P goals → goal_of n goals ≡ Some g → P g
goal_all P [] n g all is = absurd (cc)
goal_all P (x ∷ goals) n g all is = cases (is_numbered n x) refl (goal_all P goals n g)
  where
    cases : (b : Bool) → is_numbered n x ≡ b → (All P goals → goal_of n goals ≡ Some g → P g) → P g
    cases true e more = let found_it : Some x ≡ Some g = rw e at is in let same : x ≡ g = cc in subst P same (All-head P x goals all)
    cases false e more = let rest : goal_of n goals ≡ Some g = rw e at is in more (All-tail P x goals all) rest

-- the row of a new root has a place for each parameter
set_fits : (s : PlanState) → IsWhole s → (kind : ℕ) (goal : Option ℕ) → is_wanted s kind goal ≡ true → length (presets_of (unset_row s kind) (option_and_then (goal_at s) goal)) ≡ length (params_of (slice_get s.model.kinds kind))
set_fits s whole kind None wanted = length-replicate (length (params_of (slice_get s.model.kinds kind))) None
set_fits s whole kind (Some n) wanted = by (goal_at s n) refl wanted
  where
    by : (o : Option Goal) → goal_at s n ≡ o → holds (λ g. is_open s g && (eqb g.kind kind)) o ≡ true → length (presets_of (unset_row s kind) (goal_at s n)) ≡ length (params_of (slice_get s.model.kinds kind))
    by None e h = absurd (cc)
    by (Some g) e h =
        let is : g.kind ≡ kind = eqb-true g.kind kind (and_second (is_open s g) (eqb g.kind kind) h) in
        let of = goal_all (IsGoalOf s.model) s.goals n g whole.goals e in
        rw e (subst (λ k. length g.presets ≡ length (params_of (slice_get s.model.kinds k))) is of.presets)

wanted_carried : (s : PlanState) (kind : ℕ) (goal : Option ℕ) → is_wanted s kind goal ≡ true → IfSome goal (λ n. IsSome (goal_of n s.goals))
wanted_carried s kind None wanted = tt
wanted_carried s kind (Some n) wanted = option_live (λ g. is_open s g && (eqb g.kind kind)) (goal_at s n) wanted

-- ---- moves

module _ (s : PlanState) (whole : IsWhole s) where
  abbrev xs : List Activity
  xs = s.plan.activities

  planned : (gone : List ℕ) (more ys : List Activity) → IsSwap s gone more ys → (n : ℕ) → next_after s.next_id more ≡ n → with_plan gone more s ≡ record s { plan = record { activities = ys }; next_id = n }
  planned gone more ys swap n is =
      ap (λ (l : List Activity). record s { plan = record { activities = l }; next_id = next_after s.next_id more }) (swap_is s gone more ys whole swap)
      ∙ ap (λ (k : ℕ). record s { plan = record { activities = ys }; next_id = k }) is

  -- ids that are there already leave the next one
  kept_next : (gone : List ℕ) (more ys : List Activity) → IsSwap s gone more ys → All (λ a. a.id < s.next_id) more → with_plan gone more s ≡ record s { plan = record { activities = ys } }
  kept_next gone more ys swap below = planned gone more ys swap s.next_id (next_same s.next_id more below)

  delete_made : (id : ℕ) → is_proper s (Delete id) ≡ true → IsMadeBy s (Delete id)
  unfolding applied
  delete_made id proper =
      let swap = delete_swap s whole id (root_named s id proper) in
      record {
        swap = swap;
        is = kept_next (subtree_of id xs) [] (without_subtree id xs) swap (All-nil (λ (a : Activity). a.id < s.next_id));
      }

  abstract_made : (id : ℕ) → is_proper s (Abstract id) ≡ true → IsMadeBy s (Abstract id)
  unfolding applied
  abstract_made id proper = by (found s id) refl
    where
      live : IsLive id xs
      live = named_live s (Abstract id) proper

      below_it : (a : Activity) → activity_of id xs ≡ Some a → All (λ b. b.id < s.next_id) (undetailed a)
      below_it a e = All-cons (λ (b : Activity). b.id < s.next_id) (record a { detail = None }) [] (all_at (λ (b : Activity). b.id < s.next_id) xs id a (λ i d lt. (whole.ids i d lt).1) e).0 (All-nil (λ (b : Activity). b.id < s.next_id))

      by : (o : Option Activity) → found s id ≡ o → IsMadeBy s (Abstract id)
      by None e = absurd (let bad : false ≡ true = rw e at live in cc)
      by (Some a) e =
          let swap = abstract_swap s whole id a e in
          record {
            swap = rw e swap;
            is = rw e (kept_next (subtree_of id xs) (undetailed a) (map (abstracted id) (without_below id xs)) swap (below_it a e));
          }

  assign_made : (id param : ℕ) (value : ℤ) → IsMadeBy s (Assign id param value)
  unfolding applied
  assign_made id param value =
      let swap = assign_swap s whole id param value in
      record {
        swap = swap;
        is = kept_next (subtree_of id xs) (placed_by s (Assign id param value)) (map (assigned id param value) xs) swap (below_all s whole id (assigned id param value) (assigned_keeps s whole id param value));
      }

  shift_made : (id to : ℕ) → is_proper s (Shift id to) ≡ true → refusal_of s (Shift id to) ≡ None → IsMadeBy s (Shift id to)
  unfolding applied
  shift_made id to proper allowed = by (found s id) refl
    where
      live : IsLive id xs
      live = named_live s (Shift id to) proper

      by : (o : Option Activity) → found s id ≡ o → IsMadeBy s (Shift id to)
      by None e = absurd (let bad : false ≡ true = rw e at live in cc)
      by (Some a) e =
          let is_id : a.id ≡ id = (all_at (FitsAlone s.model) xs id a whole.fits.each e).1 in
          let keeps = may s (Shift id to) allowed in
          let above : All (λ b. floor_of s ≤ b.start) (map (moved a.start to) (filter (is_under s a.id) xs)) = rw e at keeps.above in
          let within : All (λ b. b.start < s.model.horizon) (map (moved a.start to) (filter (is_under s a.id) xs)) = rw e at keeps.within in
          let ends : All (λ b. is_under s a.id b ≡ true → b.measured ≡ None) xs = subst (λ n. All (λ b. is_under s n b ≡ true → b.measured ≡ None) xs) (sym is_id) (unmeasured s whole (Shift id to) allowed) in
          let swap : IsSwap s (subtree_of id xs) (map (moved a.start to) (filter (is_under s a.id) xs)) (map (shifted_one s whole a.id a.start to) xs) = subst (λ n. IsSwap s (subtree_of n xs) (map (moved a.start to) (filter (is_under s a.id) xs)) (map (shifted_one s whole a.id a.start to) xs)) is_id (shift_swap s whole a.id a.start to ends above within) in
          record {
            swap = rw e swap;
            is = rw e (kept_next (subtree_of id xs) (map (moved a.start to) (filter (is_under s a.id) xs)) (map (shifted_one s whole a.id a.start to) xs) swap (below_all s whole a.id (moved a.start to) (moved_keeps s whole a.id a.start to)));
          }

  add_made : (kind start : ℕ) (goal : Option ℕ) → is_proper s (Add kind start goal) ≡ true → refusal_of s (Add kind start goal) ≡ None → IsMadeBy s (Add kind start goal)
  unfolding applied
  add_made kind start goal proper allowed = record {
    swap = swap;
    is = planned [] ((root_for s kind start goal) ∷ []) (xs ++ (root_for s kind start goal) ∷ []) swap (suc s.next_id) (omega arith);
  }
    where
      test : (ltb kind (length s.model.kinds) && is_wanted s kind goal) ≡ true
      test = add_test s kind start goal proper

      in_model : kind < length s.model.kinds
      in_model = ltb-true kind (length s.model.kinds) (and_first (ltb kind (length s.model.kinds)) (is_wanted s kind goal) test)

      wanted : is_wanted s kind goal ≡ true
      wanted = and_second (ltb kind (length s.model.kinds)) (is_wanted s kind goal) test

      keeps : MayBeMade s (Add kind start goal)
      keeps = may s (Add kind start goal) allowed

      alone : FitsAlone s.model (root_for s kind start goal)
      alone =
          let up : floor_of s ≤ start = All-head (λ (b : Activity). floor_of s ≤ b.start) (root_for s kind start goal) [] keeps.above in
          let down : start < s.model.horizon = All-head (λ (b : Activity). b.start < s.model.horizon) (root_for s kind start goal) [] keeps.within in
          record { kind = in_model; start = (omega (arith, up), down); set = set_fits s whole kind goal wanted; choice = tt; measured = tt }

      swap : IsSwap s [] ((root_for s kind start goal) ∷ []) (xs ++ (root_for s kind start goal) ∷ [])
      swap = add_swap s whole (root_for s kind start goal) refl alone refl refl (wanted_carried s kind goal wanted) tt keeps.room

  next_children : (a : Activity) (n : ℕ) (slots : List Slot) (offsets : List ℕ) → next_after (s.next_id + n) (children_from s a n slots offsets) ≡ s.next_id + (n + length (children_from s a n slots offsets))
  next_children a n [] offsets = omega arith
  next_children a n (at ∷ slots) [] = omega arith
  next_children a n (at ∷ slots) (offset ∷ offsets) =
      let first : max (s.next_id + n) ((s.next_id + n) + 1) ≡ s.next_id + suc n = omega arith in
      ap (λ k. next_after k (children_from s a (suc n) slots offsets)) first ∙ (next_children a (suc n) slots offsets ∙ omega arith)

  next_detailed : (a : Activity) (slots : List Slot) (offsets : List ℕ) → a.id < s.next_id → next_after (max s.next_id (a.id + 1)) (children_from s a 0 slots offsets) ≡ s.next_id + length (children_from s a 0 slots offsets)
  next_detailed a slots offsets lt =
      let first : max s.next_id (a.id + 1) ≡ s.next_id + 0 = omega (arith, lt) in
      ap (λ k. next_after k (children_from s a 0 slots offsets)) first ∙ (next_children a 0 slots offsets ∙ omega arith)

  detail_made : (id alternative : ℕ) → is_proper s (Detail id alternative) ≡ true → refusal_of s (Detail id alternative) ≡ None → IsMadeBy s (Detail id alternative)
  unfolding applied
  detail_made id alternative proper allowed = by (found s id) refl (detail_test s id alternative proper)
    where
      by_chosen : (a : Activity) → activity_of id xs ≡ Some a → is_none a.detail ≡ true → alternative < length (alternatives_at s a) → (o : Option Alternative) → slice_get (alternatives_at s a) alternative ≡ o → IsMadeBy s (Detail id alternative)
      by_chosen a e undone lt None f = absurd (none_past (alternatives_at s a) alternative f lt)
      by_chosen a e undone lt (Some of) f =
          let is_id : a.id ≡ id = (all_at (FitsAlone s.model) xs id a whole.fits.each e).1 in
          let here : activity_of a.id xs ≡ Some a = ap (λ n. activity_of n xs) is_id ∙ e in
          let keeps = may s (Detail id alternative) allowed in
          let above : All (λ b. floor_of s ≤ b.start) (children_from s a 0 of.slots of.offsets) = rw (e, f) at keeps.above in
          let within : All (λ b. b.start < s.model.horizon) (children_from s a 0 of.slots of.offsets) = rw (e, f) at keeps.within in
          let room : length xs + length (children_from s a 0 of.slots of.offsets) ≤ s.live_limit = rw (e, f) at keeps.room in
          let pairs = paired s.model whole.checked a alternative of f in
          let swap : IsSwap s (a.id ∷ []) (detailed alternative a ∷ children_from s a 0 of.slots of.offsets) (changed_where (has_id a.id) (detailed alternative) xs ++ children_from s a 0 of.slots of.offsets) = detail_swap s whole a here (none_of a.detail undone) alternative of f pairs.few pairs.each (slot_kinds s.model whole.checked a alternative of f) (λ i d lt2. let up = above i d lt2 in omega (arith, up)) within lt room in
          let swap_id : IsSwap s (id ∷ []) (detailed alternative a ∷ children_from s a 0 of.slots of.offsets) (changed_where (has_id id) (detailed alternative) xs ++ children_from s a 0 of.slots of.offsets) = subst (λ n. IsSwap s (n ∷ []) (detailed alternative a ∷ children_from s a 0 of.slots of.offsets) (changed_where (has_id n) (detailed alternative) xs ++ children_from s a 0 of.slots of.offsets)) is_id swap in
          record {
            swap = rw (e, f) swap_id;
            is = rw (e, f) (planned (id ∷ []) (detailed alternative a ∷ children_from s a 0 of.slots of.offsets) (changed_where (has_id id) (detailed alternative) xs ++ children_from s a 0 of.slots of.offsets) swap_id (s.next_id + length (children_from s a 0 of.slots of.offsets)) (next_detailed a of.slots of.offsets (all_at (IsIdBelow s.next_id) xs id a whole.ids e).0.1));
          }

      by : (o : Option Activity) → found s id ≡ o → holds (λ a. is_none a.detail && ltb alternative (length (alternatives_at s a))) o ≡ true → IsMadeBy s (Detail id alternative)
      by None e h = absurd (cc)
      by (Some a) e h = by_chosen a e (and_first (is_none a.detail) (ltb alternative (length (alternatives_at s a))) h) (ltb-true alternative (length (alternatives_at s a)) (and_second (is_none a.detail) (ltb alternative (length (alternatives_at s a))) h)) (slice_get (alternatives_at s a) alternative) refl

  pub made : (m : RepairMove) → IsOfActivities m → is_proper s m ≡ true → refusal_of s m ≡ None → IsMadeBy s m
  made (Add kind start goal) of proper allowed = add_made kind start goal proper allowed
  made (Delete id) of proper allowed = delete_made id proper
  made (Shift id to) of proper allowed = shift_made id to proper allowed
  made (Detail id alternative) of proper allowed = detail_made id alternative proper allowed
  made (Abstract id) of proper allowed = abstract_made id proper
  made (Assign id param value) of proper allowed = assign_made id param value
  made (Drop goal) of proper allowed = absurd of

pub can_replace : (s : PlanState) → IsWhole s → s.next_id ≤ 3999999000 → (m : RepairMove) → IsMadeBy s m → CanReplace s (gone_by s m) (placed_by s m)
can_replace s whole next m by = can_swap s (gone_by s m) (placed_by s m) (applied s m).plan.activities whole next by.swap

-- ---- what a change asks for

-- a shift that is not refused goes no further than horizons do: the activity itself is shifted
pub near_if : (s : PlanState) → IsWhole s → (m : RepairMove) → is_proper s m ≡ true → refusal_of s m ≡ None → IsNear m
near_if s whole (Add kind start goal) proper allowed = tt
near_if s whole (Delete id) proper allowed = tt
near_if s whole (Detail id alternative) proper allowed = tt
near_if s whole (Abstract id) proper allowed = tt
near_if s whole (Assign id param value) proper allowed = tt
near_if s whole (Drop goal) proper allowed = tt
near_if s whole (Shift id to) proper allowed = by (found s id) refl
  where
    live : IsLive id s.plan.activities
    live = named_live s (Shift id to) proper

    by : (o : Option Activity) → found s id ≡ o → to ≤ 10000000
    by None e = absurd (let bad : false ≡ true = rw e at live in cc)
    by (Some a) e =
        let is_id : a.id ≡ id = (all_at (FitsAlone s.model) s.plan.activities id a whole.fits.each e).1 in
        let here : activity_of a.id s.plan.activities ≡ Some a = ap (λ n. activity_of n s.plan.activities) is_id ∙ e in
        let keeps = may s (Shift id to) allowed in
        let within : All (λ b. b.start < s.model.horizon) (map (moved a.start to) (filter (is_under s a.id) s.plan.activities)) = rw e at keeps.within in
        let at_it : (moved a.start to a).start < s.model.horizon = moved_within s whole a here to within in
        omega (arith, at_it, whole.checked.horizon.1)
