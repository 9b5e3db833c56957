-- What a new root asks for, as it does in a plan of its own.
use Rattle.std.proofs.Common.{◌≡◌, ℕ, ◌+◌, ◌-◌, ◌<◌, ◌≤◌, eqb, false, List, [], ◌∷◌, ◌++◌, map, Option, Some, refl, sym, ap, ◌∙◌, subst, arith}
use Rattle.std.specs.Prelude.{All}
use Rattle.std.proofs.lemmas.Bool.{eq-eqb, ne_eqb}
use Rattle.std.proofs.lemmas.List.{append-nil}
use Rattle.std.proofs.lemmas.List.Elements.{All-nil, All-cons, All-head, All-tail}
use Rattle.pl_model.specs.Checked.{params_of}
use Rattle.pl_plan.specs.declared.activity.Activity.{Activity}
use Rattle.pl_plan.specs.declared.repair.RepairMove.{RepairMove}
use Rattle.pl_plan.specs.declared.repair.RepairMove.TheVariants.{Add}
use Rattle.pl_plan.specs.Activities.{activity_of}
use Rattle.pl_plan.specs.Fitting.{Fits, FitsAlone, AreFilled, IsInSlot, kind_of}
use Rattle.pl_plan.specs.Trees.{IsParented, IsRooted}
use Rattle.pl_plan.specs.Values.{Row, settled}
use Rattle.pl_plan.proofs.Climbs.{all_at}
use Rattle.pl_plan.proofs.ValueSteps.{values_at_root}
use Rattle.pl_semantics.specs.declared.plan_state.PlanState.{PlanState}
use Rattle.pl_semantics.specs.Demands.{demands_at, demands_of}
use Rattle.pl_semantics.specs.Legal.{MayBeMade}
use Rattle.pl_semantics.specs.Moves.{applied, root_for}
use Rattle.pl_semantics.specs.PlanStates.{found, row_of}
use Rattle.pl_semantics.specs.Whole.{IsWhole, IsCarried, IsGoalOf, IsIdBelow, HasBegun}
use Rattle.pl_semantics.proofs.Refusing.{may}
use Rattle.pl_update.specs.Changes.Replaced.{CanReplace, with_plan}
use Rattle.pl_update.specs.Timelines.Laws.{coming_to}
use Rattle.pl_moves.specs.Changes.{gone_by, placed_by}
use Rattle.pl_moves.specs.Runs.{CanBeMade, start_of}
use Rattle.pl_moves.proofs.Made.{IsMadeBy, made, can_replace}
use Rattle.pl_bounds.specs.Asked.{IsAskedBy}
use Rattle.pl_bounds.specs.Askings.{IsAskingOf, only, without_goal}
use Rattle.pl_bounds.specs.Moved.{demand_moved}
use Rattle.pl_bounds.specs.declared.asking.Asking.{Asking}
use Rattle.pl_bounds.proofs.Alike.{alike_add}
use Rattle.pl_bounds.proofs.Asks.{asks, asks_found, asks_moved}

-- the last one is found, where all others have smaller ids
found_last : (n : ℕ) (r : Activity) → r.id ≡ n → (xs : List Activity) → All (IsIdBelow n) xs → activity_of n (xs ++ r ∷ []) ≡ Some r
found_last n r is [] below = rw (eq-eqb r.id n is) refl
found_last n r is (x ∷ xs) below =
    let lt : x.id < n = (All-head (IsIdBelow n) x xs below).1 in
    let other : eqb x.id n ≡ false = ne_eqb x.id n (λ e. omega (arith, lt, e)) in
    rw other (found_last n r is xs (All-tail (IsIdBelow n) x xs below))

pub itself : (r : Activity) → activity_of r.id (r ∷ []) ≡ Some r
itself r = rw (eq-eqb r.id r.id refl) refl

module _ (s : PlanState) (whole : IsWhole s) (next : s.next_id ≤ 3999999000) (kind start : ℕ) (goal : Option ℕ) (can : CanBeMade s (Add kind start goal)) where
  abbrev xs : List Activity
  xs = s.plan.activities

  abbrev pub root : Activity
  root = root_for s kind start goal

  abbrev pub then_ : PlanState
  then_ = with_plan [] (root ∷ []) s

  pub by_replacing : IsMadeBy s (Add kind start goal)
  by_replacing = made s whole (Add kind start goal) tt can.proper can.allowed

  pub may_replace : CanReplace s [] (root ∷ [])
  may_replace = can_replace s whole next (Add kind start goal) by_replacing

  pub activities_then : then_.plan.activities ≡ xs ++ root ∷ []
  unfolding applied
  activities_then = ap (λ (w : PlanState). w.plan.activities) by_replacing.is

  pub found_then : found then_ s.next_id ≡ Some root
  found_then = ap (λ (l : List Activity). activity_of s.next_id l) activities_then ∙ found_last s.next_id root refl xs whole.ids

  -- its values are those that it has alone
  abbrev pub row : Row
  row = settled (params_of (kind_of s.model root)) root.set [] []

  pub row_then : row_of then_ root ≡ row
  row_then = values_at_root s.model then_.plan.activities may_replace.fits.rooted s.next_id root found_then refl

  pub asks_then : coming_to then_ (root ∷ []) ≡ asks s.model root row
  asks_then = append-nil (demands_at then_ root) ∙ (asks_found then_ root found_then ∙ ap (asks s.model root) row_then)

  fits_itself : FitsAlone s.model root
  fits_itself = (all_at (FitsAlone s.model) then_.plan.activities s.next_id root may_replace.fits.each found_then).0

  -- ---- alone

  abbrev pub lone : Activity
  lone = without_goal root

  rooted_alone : IsRooted (lone ∷ [])
  rooted_alone = record { parents = All-cons (IsParented (lone ∷ [])) lone [] tt (All-nil (IsParented (lone ∷ []))) }

  fits_alone : Fits s.model (lone ∷ [])
  fits_alone = record {
    rooted = rooted_alone;
    each = All-cons (FitsAlone s.model) lone [] (record { kind = fits_itself.kind; start = fits_itself.start; set = fits_itself.set; choice = tt; measured = tt }) (All-nil (FitsAlone s.model));
    filled = All-cons (AreFilled s.model (lone ∷ [])) lone [] (λ slot d lt. absurd (omega (arith, lt))) (All-nil (AreFilled s.model (lone ∷ [])));
    no_other = All-cons (IsInSlot s.model (lone ∷ [])) lone [] tt (All-nil (IsInSlot s.model (lone ∷ [])));
  }

  pub whole_alone : IsWhole (only s lone)
  whole_alone = record {
    checked = whole.checked;
    rising = (omega arith, tt);
    fits = fits_alone;
    goals = All-nil (IsGoalOf s.model);
    distinct = λ i j d lt within. absurd (omega (arith, within));
    carried = All-cons (IsCarried []) lone [] tt (All-nil (IsCarried []));
    bases = whole.bases;
    present = whole.present;
    horizon = whole.horizon;
    ids = All-cons (IsIdBelow (s.next_id + 1)) lone [] (whole.next.0, omega arith) (All-nil (IsIdBelow (s.next_id + 1)));
    next = (omega arith, omega (arith, next));
    limit = whole.limit;
    begun = All-cons (HasBegun s.moment s.committed) lone [] tt (All-nil (HasBegun s.moment s.committed));
    live = (let keeps : MayBeMade s (Add kind start goal) = may s (Add kind start goal) can.allowed in omega (arith, keeps.room));
  }

  pub row_alone : row_of (only s lone) lone ≡ row
  row_alone = values_at_root s.model (lone ∷ []) rooted_alone s.next_id lone (itself lone) refl

  pub asks_alone : demands_of (only s lone) ≡ asks s.model root row
  asks_alone = append-nil (demands_at (only s lone) lone) ∙ (asks_found (only s lone) lone (itself lone) ∙ ap (asks s.model lone) row_alone)

module _ (s : PlanState) (whole : IsWhole s) (next : s.next_id ≤ 3999999000) (kind start : ℕ) (goal : Option ℕ) (can : CanBeMade s (Add kind start goal)) where
  abbrev first : Activity
  first = root_for s kind start goal

  abbrev row_of_first : Row
  row_of_first = settled (params_of (kind_of s.model first)) first.set [] []

  pub addition_asks : (a : Asking) → a.going.items ≡ [] → a.coming.items ≡ demands_of (only s (without_goal first)) → a.start ≡ start → IsAskingOf s (Add kind start goal) a
  addition_asks a going coming from m can_too alike =
      let it = alike_add kind start goal m alike in
      let there : CanBeMade s (Add kind it.0 goal) = subst (λ (w : RepairMove). CanBeMade s w) it.1 can_too in
      subst (λ (w : RepairMove). IsAskedBy s (gone_by s w) (placed_by s w) a (start_of w)) (sym it.1) (at_start it.0 there)
    where
      moves : (to : ℕ) → CanBeMade s (Add kind to goal) → map (demand_moved start to) (demands_of (only s (without_goal first))) ≡ coming_to (with_plan [] (root_for s kind to goal ∷ []) s) (root_for s kind to goal ∷ [])
      moves to there =
          let low : start ≤ start + to = omega arith in
          let back : (start + to) - start ≡ to = omega arith in
          ap (map (demand_moved start to)) (asks_alone s whole next kind start goal can)
          ∙ (sym (asks_moved start to s.model first row_of_first refl low)
          ∙ (ap (λ (n : ℕ). asks s.model (record first { start = n }) row_of_first) back
          ∙ sym (asks_then s whole next kind to goal there)))

      at_start : (to : ℕ) → CanBeMade s (Add kind to goal) → IsAskedBy s [] (root_for s kind to goal ∷ []) a to
      at_start to there = record {
        going = going;
        coming = ap (map (demand_moved a.start to)) coming ∙ (ap (λ (n : ℕ). map (demand_moved n to) (demands_of (only s (without_goal first)))) from ∙ moves to there);
      }
