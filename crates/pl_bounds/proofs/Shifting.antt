-- What a deletion and a shift ask for.
use Rattle.std.proofs.Common.{◌≡◌, ℕ, ◌+◌, ◌-◌, ◌≤◌, Bool, true, false, cond, List, [], ◌∷◌, ◌++◌, map, filter, get_or, Option, Some, None, refl, sym, ap, ◌∙◌, subst, arith}
use Rattle.std.specs.Prelude.{All, IfSome, IsSome}
use Rattle.std.specs.List.{flat_map}
use Rattle.std.specs.Option.{option_map}
use Rattle.std.proofs.lemmas.List.{map-append}
use Rattle.std.proofs.lemmas.List.Elements.{All-nil, All-cons, All-head, All-tail}
use Rattle.pl_plan.specs.declared.activity.Activity.{Activity}
use Rattle.pl_plan.specs.declared.repair.RepairMove.{RepairMove}
use Rattle.pl_plan.specs.declared.repair.RepairMove.TheVariants.{Delete, Shift}
use Rattle.pl_plan.specs.Activities.{activity_of, IsLive}
use Rattle.pl_plan.specs.Fitting.{FitsAlone}
use Rattle.pl_plan.specs.Moves.{KeepsTree}
use Rattle.pl_plan.specs.Trees.{descends, id_of, subtree_of}
use Rattle.pl_plan.specs.Values.{values_of}
use Rattle.pl_plan.proofs.Climbs.{all_at}
use Rattle.pl_plan.proofs.Kept.{each_found, found-changed}
use Rattle.pl_semantics.specs.declared.demand.Demand.{Demand}
use Rattle.pl_semantics.specs.declared.plan_state.PlanState.{PlanState}
use Rattle.pl_semantics.specs.Demands.{demands_at}
use Rattle.pl_semantics.specs.Legal.{MayBeMade}
use Rattle.pl_semantics.specs.Moves.{applied, moved, moved_with, shifted}
use Rattle.pl_semantics.specs.PlanStates.{floor_of, found, of_found}
use Rattle.pl_semantics.specs.Whole.{IsWhole}
use Rattle.pl_semantics.proofs.Refusing.{may}
use Rattle.pl_update.specs.Changes.Replaced.{CanReplace, with_plan}
use Rattle.pl_update.specs.Timelines.Laws.{gone_from, coming_to}
use Rattle.pl_moves.specs.Changes.{gone_by, placed_by}
use Rattle.pl_moves.specs.Runs.{CanBeMade, start_of}
use Rattle.pl_moves.proofs.Made.{IsMadeBy, made, can_replace}
use Rattle.pl_moves.proofs.Unmeasured.{unmeasured}
use Rattle.pl_bounds.specs.Asked.{IsAskedBy}
use Rattle.pl_bounds.specs.Askings.{IsAskingOf}
use Rattle.pl_update.specs.Evaluations.Shifted.{AreStill, still}
use Rattle.pl_update.proofs.AboutEvaluations.Still.{values_still}
use Rattle.pl_bounds.specs.Moved.{demand_moved}
use Rattle.pl_bounds.specs.declared.asking.Asking.{Asking}
use Rattle.pl_bounds.proofs.Alike.{alike_delete, alike_shift}
use Rattle.pl_bounds.proofs.Moving.{demands_moved}

-- ---- a deletion

pub deletion_asks : (s : PlanState) (id : ℕ) (a : Asking) → a.going.items ≡ gone_from s (subtree_of id s.plan.activities) → a.coming.items ≡ [] → IsAskingOf s (Delete id) a
deletion_asks s id a going coming m can alike = subst (λ (w : RepairMove). IsAskedBy s (gone_by s w) (placed_by s w) a (start_of w)) (sym (alike_delete id m alike)) asked
  where
    asked : IsAskedBy s (subtree_of id s.plan.activities) [] a 0
    asked = record {
      going = going;
      coming = ap (map (demand_moved a.start 0)) coming;
    }

-- ---- lists

-- what those that pass ask for once each has changed
along : (p : ℕ → Bool) (f : ℕ → List Demand) (g : Activity → List Demand) (d : Demand → Demand) (change : Activity → Activity) (ys : List Activity) → All (λ y. p y.id ≡ true → g (change y) ≡ map d (f y.id)) ys → map d (flat_map f (filter p (map id_of ys))) ≡ flat_map g (map change (filter (λ y. p y.id) ys))
along p f g d change [] all = refl
along p f g d change (y ∷ ys) all = cases (p y.id) refl (along p f g d change ys (All-tail (λ x. p x.id ≡ true → g (change x) ≡ map d (f x.id)) y ys all))
  where
    cases : (b : Bool) → p y.id ≡ b → map d (flat_map f (filter p (map id_of ys))) ≡ flat_map g (map change (filter (λ x. p x.id) ys)) → map d (flat_map f (filter p (map id_of (y ∷ ys)))) ≡ flat_map g (map change (filter (λ x. p x.id) (y ∷ ys)))
    cases true e more =
        let here : g (change y) ≡ map d (f y.id) = All-head (λ x. p x.id ≡ true → g (change x) ≡ map d (f x.id)) y ys all e in
        rw e (map-append d (f y.id) (flat_map f (filter p (map id_of ys))) ∙ (ap (λ l. map d (f y.id) ++ l) more ∙ ap (λ l. l ++ flat_map g (map change (filter (λ x. p x.id) ys))) (sym here)))
    cases false e more = rw e more

-- those that are moved to a late start did not start too early
lows : (p : Activity → Bool) (from to n : ℕ) → 1 ≤ n → (ys : List Activity) → All (λ b. n ≤ b.start) (map (moved from to) (filter p ys)) → All (λ y. p y ≡ true → from ≤ y.start + to) ys
lows p from to n one [] all = All-nil (λ y. p y ≡ true → from ≤ y.start + to)
lows p from to n one (y ∷ ys) all = cases (p y) refl (lows p from to n one ys)
  where
    cases : (b : Bool) → p y ≡ b → (All (λ b. n ≤ b.start) (map (moved from to) (filter p ys)) → All (λ x. p x ≡ true → from ≤ x.start + to) ys) → All (λ x. p x ≡ true → from ≤ x.start + to) (y ∷ ys)
    cases true e more =
        let first : All (λ b. n ≤ b.start) (moved from to y ∷ map (moved from to) (filter p ys)) = rw e at all in
        let low : n ≤ (y.start + to) - from = All-head (λ b. n ≤ b.start) (moved from to y) (map (moved from to) (filter p ys)) first in
        All-cons (λ x. p x ≡ true → from ≤ x.start + to) y ys (λ h. omega (arith, low, one)) (more (All-tail (λ b. n ≤ b.start) (moved from to y) (map (moved from to) (filter p ys)) first))
    cases false e more =
        let rest : All (λ b. n ≤ b.start) (map (moved from to) (filter p ys)) = rw e at all in
        All-cons (λ x. p x ≡ true → from ≤ x.start + to) y ys (λ h. absurd (let bad : false ≡ true = sym e ∙ h in cc)) (more rest)

-- ---- a shift

module _ (s : PlanState) (whole : IsWhole s) (next : s.next_id ≤ 3999999000) (id to : ℕ) (top : Activity) (here : found s id ≡ Some top) (can : CanBeMade s (Shift id to)) where
  abbrev pub xs : List Activity
  xs = s.plan.activities

  abbrev pub gone : List ℕ
  gone = subtree_of id s.plan.activities

  abbrev pub more : List Activity
  more = moved_with s to (found s id)

  abbrev pub then_ : PlanState
  then_ = with_plan gone more s

  pub by_replacing : IsMadeBy s (Shift id to)
  by_replacing = made s whole (Shift id to) tt can.proper can.allowed

  pub may_replace : CanReplace s gone more
  may_replace = can_replace s whole next (Shift id to) by_replacing

  pub is_id : top.id ≡ id
  is_id = (all_at (FitsAlone s.model) xs id top whole.fits.each here).1

  abbrev pub under : Activity → Bool
  under a = descends xs top.id a.id

  abbrev pub one : Activity → Activity
  one a = cond (under a) (moved top.start to a) a

  one_keeps : KeepsTree one
  one_keeps = record { id = λ a. of_id (under a) a; kind = λ a. of_kind (under a) a; parent = λ a. of_parent (under a) a }
    where
      of_id : (b : Bool) (a : Activity) → (cond b (moved top.start to a) a).id ≡ a.id
      of_id true a = refl
      of_id false a = refl

      of_kind : (b : Bool) (a : Activity) → (cond b (moved top.start to a) a).kind ≡ a.kind
      of_kind true a = refl
      of_kind false a = refl

      of_parent : (b : Bool) (a : Activity) → (cond b (moved top.start to a) a).parent ≡ a.parent
      of_parent true a = refl
      of_parent false a = refl

  pub activities_then : then_.plan.activities ≡ map one xs
  unfolding applied
  activities_then = ap (λ (w : PlanState). w.plan.activities) by_replacing.is ∙ ap (λ (o : Option Activity). shifted s to o) here

  pub found_then : (q : ℕ) → found then_ q ≡ option_map one (found s q)
  found_then q = ap (λ (l : List Activity). activity_of q l) activities_then ∙ found-changed one one_keeps xs q

  still_same : AreStill xs then_.plan.activities
  still_same q = by (found s q) ∙ ap (option_map still) (sym (found_then q))
    where
      of_one : (b : Bool) (a : Activity) → still a ≡ still (cond b (moved top.start to a) a)
      of_one true a = refl
      of_one false a = refl

      by : (o : Option Activity) → option_map still o ≡ option_map still (option_map one o)
      by None = refl
      by (Some a) = ap (λ (b : Activity). Some b) (of_one (under a) a)

  pub rows_same : (i : ℕ) → values_of s.model xs i ≡ values_of s.model then_.plan.activities i
  rows_same i = values_still s.model xs then_.plan.activities whole.fits.rooted may_replace.fits.rooted still_same i

  all_low : All (λ a. under a ≡ true → top.start ≤ a.start + to) xs
  all_low =
      let keeps : MayBeMade s (Shift id to) = may s (Shift id to) can.allowed in
      let above : All (λ b. floor_of s ≤ b.start) (map (moved top.start to) (filter under xs)) = rw here at keeps.above in
      lows under top.start to (floor_of s) (omega arith) xs above

  -- what is moved along has no measured end
  pub unmeasured_under : All (λ (a : Activity). under a ≡ true → a.measured ≡ None) xs
  unmeasured_under = subst (λ (n : ℕ). All (λ (a : Activity). descends xs n a.id ≡ true → a.measured ≡ None) xs) (sym is_id) (unmeasured s whole (Shift id to) can.allowed)

  asks_then : (a : Activity) → found s a.id ≡ Some a → under a ≡ true → a.measured ≡ None → top.start ≤ a.start + to → demands_at then_ (moved top.start to a) ≡ map (demand_moved top.start to) (demands_at s a)
  asks_then a is goes none low =
      let there : found then_ a.id ≡ Some (moved top.start to a) = found_then a.id ∙ (ap (option_map one) is ∙ ap (λ (b : Bool). Some (cond b (moved top.start to a) a)) goes) in
      demands_moved top.start to s gone more a is there (sym (rows_same a.id)) none low

  each_asks : All (λ a. under a ≡ true → demands_at then_ (moved top.start to a) ≡ map (demand_moved top.start to) (of_found (demands_at s) (found s a.id))) xs
  each_asks k d lt goes =
      let a = get_or xs k d in
      let is : found s a.id ≡ Some a = each_found xs whole.rising k d lt in
      asks_then a is goes (unmeasured_under k d lt goes) (all_low k d lt goes) ∙ ap (λ (o : Option Activity). map (demand_moved top.start to) (of_found (demands_at s) o)) (sym is)

  coming_moved : map (demand_moved top.start to) (gone_from s gone) ≡ coming_to then_ more
  unfolding subtree_of
  coming_moved =
      ap (λ (n : ℕ). map (demand_moved top.start to) (gone_from s (subtree_of n xs))) (sym is_id)
      ∙ (along (descends xs top.id) (λ i. of_found (demands_at s) (found s i)) (demands_at then_) (demand_moved top.start to) (moved top.start to) xs each_asks
      ∙ ap (λ (o : Option Activity). coming_to then_ (moved_with s to o)) (sym here))

  pub shift_to_asks : (a : Asking) → a.going.items ≡ gone_from s gone → a.coming.items ≡ gone_from s gone → a.start ≡ top.start → IsAskedBy s gone more a to
  shift_to_asks a going coming start = record {
    going = going;
    coming = ap (map (demand_moved a.start to)) coming ∙ (ap (λ (n : ℕ). map (demand_moved n to) (gone_from s gone)) start ∙ coming_moved);
  }

pub shift_asks : (s : PlanState) → IsWhole s → s.next_id ≤ 3999999000 → (id start : ℕ) → IsLive id s.plan.activities → (a : Asking) → a.going.items ≡ gone_from s (subtree_of id s.plan.activities) → a.coming.items ≡ gone_from s (subtree_of id s.plan.activities) → IfSome (found s id) (λ (top : Activity). a.start ≡ top.start) → IsAskingOf s (Shift id start) a
shift_asks s whole next id start live a going coming from m can alike = by (found s id) refl live from
  where
    by : (o : Option Activity) → found s id ≡ o → IsSome o → IfSome o (λ (top : Activity). a.start ≡ top.start) → IsAskedBy s (gone_by s m) (placed_by s m) a (start_of m)
    by None here is at = absurd (cc)
    by (Some top) here is at =
        let it = alike_shift id start m alike in
        let there : CanBeMade s (Shift id it.0) = subst (λ (w : RepairMove). CanBeMade s w) it.1 can in
        subst (λ (w : RepairMove). IsAskedBy s (gone_by s w) (placed_by s w) a (start_of w)) (sym it.1) (shift_to_asks s whole next id it.0 top here there a going coming at)
