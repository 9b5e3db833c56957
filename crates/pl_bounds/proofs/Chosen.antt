-- What the choice of an alternative of a root asks of timelines, as it does where the root is alone in a plan.
use Rattle.std.proofs.Common.{◌≡◌, ℕ, suc, ◌+◌, ◌≤◌, cond, List, [], ◌∷◌, ◌++◌, Option, Some, None, refl, sym, ap, ◌∙◌, subst, arith}
use Rattle.std.specs.Prelude.{All, get_or, slice_get}
use Rattle.std.specs.List.{flat_map}
use Rattle.std.specs.Option.{option_or}
use Rattle.std.proofs.lemmas.List.Elements.{All-nil, All-cons, All-head, All-tail}
use Rattle.pl_model.specs.Checked.{params_of}
use Rattle.pl_model.specs.declared.alternatives.Slot.{Slot}
use Rattle.pl_model.specs.declared.alternatives.Alternative.{Alternative}
use Rattle.pl_plan.specs.declared.activity.Activity.{Activity}
use Rattle.pl_plan.specs.declared.repair.RepairMove.TheVariants.{Detail}
use Rattle.pl_plan.specs.Activities.{activity_of, AreRising}
use Rattle.pl_plan.specs.Fitting.{chosen_slots, kind_of}
use Rattle.pl_plan.specs.Trees.{IsRooted}
use Rattle.pl_plan.specs.Values.{Row, settled, bindings_at, bindings_in, values_of}
use Rattle.pl_plan.proofs.Kept.{each_found}
use Rattle.pl_plan.proofs.ValueSteps.{values_at_root, values_at_child, settled_same}
use Rattle.pl_semantics.specs.declared.demand.Demand.{Demand}
use Rattle.pl_semantics.specs.declared.plan_state.PlanState.{PlanState}
use Rattle.pl_semantics.specs.Demands.{demands_at, demands_of}
use Rattle.pl_semantics.specs.Moves.{alternatives_at, applied, child_for, children_from, children_in, children_for, detailed}
use Rattle.pl_semantics.specs.PlanStates.{among, found}
use Rattle.pl_semantics.specs.Whole.{IsWhole}
use Rattle.pl_update.specs.Timelines.Laws.{gone_from, coming_to}
use Rattle.pl_moves.specs.Changes.{placed_by}
use Rattle.pl_moves.specs.Runs.{CanBeMade}
use Rattle.pl_moves.proofs.Made.{IsMadeBy, made}
use Rattle.pl_bounds.specs.Askings.{without_goal}
use Rattle.pl_bounds.specs.Choosing.{bare, chosen_alone}
use Rattle.pl_bounds.specs.Exchanges.{IsExchange}
use Rattle.pl_bounds.proofs.Asks.{asks, asks_found}
use Rattle.pl_bounds.proofs.Bare.{activities_alone, can_bare, children_for_same, found_bare, whole_bare}
use Rattle.pl_bounds.proofs.Made.{whole_then}
use Rattle.pl_bounds.proofs.Summing.{can_place, once_gone, placed_is}

-- ---- lists

flat_same : {X Y : Type 0} (f g : X → List Y) (xs : List X) → All (λ x. f x ≡ g x) xs → flat_map f xs ≡ flat_map g xs
flat_same f g [] all = refl
flat_same f g (x ∷ xs) all = ap (λ l. l ++ flat_map f xs) (All-head (λ y. f y ≡ g y) x xs all) ∙ ap (λ l. g x ++ l) (flat_same f g xs (All-tail (λ y. f y ≡ g y) x xs all))

-- ---- the children

-- in a slot of this one
pub record IsChildOf (id : ℕ) (x : Activity) : Type 0 where
  pub slot : ℕ
  pub up : x.parent ≡ Some (id, slot)
  pub bare : x.detail ≡ None

children_new : (s : PlanState) (a : Activity) (n : ℕ) (slots : List Slot) (offsets : List ℕ) → All (λ (x : Activity). s.next_id ≤ x.id) (children_from s a n slots offsets)
children_new s a n [] offsets = All-nil (λ (x : Activity). s.next_id ≤ x.id)
children_new s a n (at ∷ slots) [] = All-nil (λ (x : Activity). s.next_id ≤ x.id)
children_new s a n (at ∷ slots) (offset ∷ offsets) = All-cons (λ (x : Activity). s.next_id ≤ x.id) (child_for s a.id n (s.next_id + n) at (a.start + offset)) (children_from s a (suc n) slots offsets) (omega arith) (children_new s a (suc n) slots offsets)

children_in_new : (s : PlanState) (a : Activity) (o : Option Alternative) → All (λ (x : Activity). s.next_id ≤ x.id) (children_in s a o)
children_in_new s a None = All-nil (λ (x : Activity). s.next_id ≤ x.id)
children_in_new s a (Some of) = children_new s a 0 of.slots of.offsets

children_up : (s : PlanState) (a : Activity) (n : ℕ) (slots : List Slot) (offsets : List ℕ) → All (IsChildOf a.id) (children_from s a n slots offsets)
children_up s a n [] offsets = All-nil (IsChildOf a.id)
children_up s a n (at ∷ slots) [] = All-nil (IsChildOf a.id)
children_up s a n (at ∷ slots) (offset ∷ offsets) = All-cons (IsChildOf a.id) (child_for s a.id n (s.next_id + n) at (a.start + offset)) (children_from s a (suc n) slots offsets) (record { slot = n; up = refl; bare = refl }) (children_up s a (suc n) slots offsets)

children_in_up : (s : PlanState) (a : Activity) (o : Option Alternative) → All (IsChildOf a.id) (children_in s a o)
children_in_up s a None = All-nil (IsChildOf a.id)
children_in_up s a (Some of) = children_up s a 0 of.slots of.offsets

-- ---- in a plan where the choice is made

module _ (u : PlanState) (whole : IsWhole u) (next : u.next_id ≤ 3999999000) (top : Activity) (here : found u top.id ≡ Some top) (root : top.parent ≡ None) (alternative : ℕ) (can : CanBeMade u (Detail top.id alternative)) where
  abbrev then_ : PlanState
  then_ = applied u (Detail top.id alternative)

  abbrev chosen : Activity
  chosen = detailed alternative top

  abbrev children : List Activity
  children = children_for u alternative (Some top)

  by : IsMadeBy u (Detail top.id alternative)
  by = made u whole (Detail top.id alternative) tt can.proper can.allowed

  pub placed : placed_by u (Detail top.id alternative) ≡ chosen ∷ children
  placed = rw here refl

  whole_chosen : IsWhole then_
  whole_chosen = whole_then u whole next (Detail top.id alternative) tt can

  rooted_then : IsRooted then_.plan.activities
  rooted_then = whole_chosen.fits.rooted

  found_placed : (x : Activity) → activity_of x.id (chosen ∷ children) ≡ Some x → found then_ x.id ≡ Some x
  found_placed x is =
      by.swap.found x.id
      ∙ (ap (λ (l : List Activity). option_or (activity_of x.id l) (cond (among x.id (top.id ∷ [])) None (activity_of x.id u.plan.activities))) placed
      ∙ ap (λ (o : Option Activity). option_or o (cond (among x.id (top.id ∷ [])) None (activity_of x.id u.plan.activities))) is)

  pub each_there : All (λ (x : Activity). found then_ x.id ≡ Some x) (chosen ∷ children)
  each_there k d lt = found_placed (get_or (chosen ∷ children) k d) (each_found (chosen ∷ children) (subst (λ (l : List Activity). AreRising l) placed by.swap.rises) k d lt)

  chosen_there : found then_ top.id ≡ Some chosen
  chosen_there = All-head (λ (x : Activity). found then_ x.id ≡ Some x) chosen children each_there

  abbrev row : Row
  row = settled (params_of (kind_of u.model top)) top.set [] []

  row_then : values_of u.model then_.plan.activities top.id ≡ row
  row_then = values_at_root u.model then_.plan.activities rooted_then top.id chosen chosen_there root

  -- what the chosen one asks for
  chosen_asks : demands_at then_ chosen ≡ asks u.model chosen row
  unfolding applied
  chosen_asks = asks_found then_ chosen chosen_there ∙ ap (asks u.model chosen) row_then

  abbrev child_row : Activity → ℕ → Row
  child_row x slot = settled (params_of (kind_of u.model x)) x.set (bindings_in (slice_get (chosen_slots u.model chosen) slot)) row

  child_asks : (x : Activity) → found then_ x.id ≡ Some x → (of : IsChildOf top.id x) → demands_at then_ x ≡ asks u.model x (child_row x of.slot)
  unfolding applied
  child_asks x there of = asks_found then_ x there ∙ ap (asks u.model x) (values_at_child u.model then_.plan.activities rooted_then x.id x there (top.id, of.slot) of.up ∙ settled_same _ _ _ _ _ _ _ _ refl refl bindings row_then)
    where
      bindings : bindings_at u.model then_.plan.activities (Some (top.id, of.slot)) ≡ bindings_in (slice_get (chosen_slots u.model chosen) of.slot)
      bindings = rw chosen_there refl

-- ---- the same alone

module _ (s : PlanState) (whole : IsWhole s) (next : s.next_id ≤ 3999999000) (a : Activity) (here : found s a.id ≡ Some a) (root : a.parent ≡ None) (alternative : ℕ) (can : CanBeMade s (Detail a.id alternative)) where
  abbrev pub then_there : PlanState
  then_there = applied s (Detail a.id alternative)

  abbrev then_alone : PlanState
  then_alone = chosen_alone s a alternative

  abbrev lone : Activity
  lone = without_goal a

  whole_lone : IsWhole (bare s a)
  whole_lone = whole_bare s whole a here root alternative can

  here_lone : found (bare s a) lone.id ≡ Some lone
  here_lone = found_bare s whole a here root alternative can

  can_lone : CanBeMade (bare s a) (Detail lone.id alternative)
  can_lone = can_bare s whole a here root alternative can

  abbrev pub mine : List Activity
  mine = children_for s alternative (Some a)

  mine_same : children_for (bare s a) alternative (Some lone) ≡ mine
  mine_same = ap (λ (o : Option Activity). children_for (bare s a) alternative o) (sym here_lone) ∙ (children_for_same s whole a here root alternative can ∙ ap (λ (o : Option Activity). children_for s alternative o) here)

  pub alone_is : then_alone.plan.activities ≡ detailed alternative lone ∷ mine
  alone_is = activities_alone s whole a here root alternative can ∙ ap (λ (o : Option Activity). detailed alternative lone ∷ children_for s alternative o) here

  each_alone : All (λ (x : Activity). found then_alone x.id ≡ Some x) (detailed alternative lone ∷ mine)
  each_alone = subst (λ (l : List Activity). All (λ (x : Activity). found then_alone x.id ≡ Some x) (detailed alternative lone ∷ l)) mine_same (each_there (bare s a) whole_lone next lone here_lone root alternative can_lone)

  pub each_here : All (λ (x : Activity). found then_there x.id ≡ Some x) (detailed alternative a ∷ mine)
  each_here = each_there s whole next a here root alternative can

  pub up : All (IsChildOf a.id) mine
  up = children_in_up s a (slice_get (alternatives_at s a) alternative)

  -- each has an id that was not given before
  pub are_new : All (λ (x : Activity). s.next_id ≤ x.id) mine
  are_new = children_in_new s a (slice_get (alternatives_at s a) alternative)

  child_same : All (λ (x : Activity). demands_at then_alone x ≡ demands_at then_there x) mine
  child_same k d lt =
      let x = get_or mine k d in
      let of = up k d lt in
      child_asks (bare s a) whole_lone next lone here_lone root alternative can_lone x (All-tail (λ (y : Activity). found then_alone y.id ≡ Some y) (detailed alternative lone) mine each_alone k d lt) of
      ∙ sym (child_asks s whole next a here root alternative can x (All-tail (λ (y : Activity). found then_there y.id ≡ Some y) (detailed alternative a) mine each_here k d lt) of)

  root_same : demands_at then_alone (detailed alternative lone) ≡ demands_at then_there (detailed alternative a)
  root_same = chosen_asks (bare s a) whole_lone next lone here_lone root alternative can_lone ∙ sym (chosen_asks s whole next a here root alternative can)

  comes_same : demands_of then_alone ≡ coming_to then_there (placed_by s (Detail a.id alternative))
  comes_same =
      ap (λ (l : List Activity). flat_map (demands_at then_alone) l) alone_is
      ∙ (ap (λ (l : List Demand). l ++ flat_map (demands_at then_alone) mine) root_same
      ∙ (ap (λ (l : List Demand). demands_at then_there (detailed alternative a) ++ l) (flat_same (demands_at then_alone) (demands_at then_there) mine child_same)
      ∙ sym (ap (λ (l : List Activity). flat_map (demands_at then_there) l) (placed s whole next a here root alternative can))))

  -- so much is asked for less and more
  pub exchanged : (going coming : List Demand) → going ≡ gone_from s (a.id ∷ []) → coming ≡ demands_of then_alone → IsExchange s (a.id ∷ []) (placed_by s (Detail a.id alternative)) going coming
  exchanged going coming goes comes = record {
    can = can_place s (Detail a.id alternative) whole next can tt;
    once = once_gone s whole (Detail a.id alternative);
    goes = goes;
    comes = comes ∙ (comes_same ∙ ap (λ (t : PlanState). coming_to t (placed_by s (Detail a.id alternative))) (sym (placed_is s (Detail a.id alternative) whole next can tt)));
  }

  pub whole_alone : IsWhole then_alone
  whole_alone = whole_then (bare s a) whole_lone next (Detail lone.id alternative) tt can_lone
