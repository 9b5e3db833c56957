-- What firm activities ask of timelines, under new ids.
use Rattle.std.proofs.Common.{◌≡◌, ℕ, eqb, Bool, true, false, cond, List, [], Option, refl, ap, ◌∙◌}
use Rattle.std.specs.Prelude.{ℤ, ◌+ℤ◌, map}
use Rattle.std.specs.List.{flat_map}
use Rattle.pl_model.specs.declared.reservations.Reservation.{Reservation}
use Rattle.pl_model.specs.declared.reservations.Reservation.TheVariants as reservation
use Rattle.pl_plan.specs.declared.activity.Activity.{Activity}
use Rattle.pl_plan.specs.Trees.{IsRooted}
use Rattle.pl_plan.specs.Firm.{amount_with}
use Rattle.pl_points.specs.Sums.{total}
use Rattle.pl_capacity.specs.Uses.{used}
use Rattle.pl_level.specs.Effects.{counted}
use Rattle.pl_semantics.specs.declared.plan_state.PlanState.{PlanState}
use Rattle.pl_semantics.specs.declared.demand.Demand.{Demand}
use Rattle.pl_semantics.specs.declared.demand.Asked.{Asked}
use Rattle.pl_semantics.specs.declared.demand.Asked.TheVariants as asked
use Rattle.pl_semantics.specs.PlanStates.{row_of, end_at, reservations_of, of_found}
use Rattle.pl_semantics.specs.Demands.{asked_with, asked_for, demands_until, demands_at, demands_of, asked_of, use_in, effect_in, set_in, must_in, uses_of, effects_of, since, told, use_at, level_at}
use Rattle.pl_renumbering.specs.Renumbered.{KeepsOrder, renumbered, renumbered_state}
use Rattle.pl_renumbering.specs.Carried.{renumbered_setting, renumbered_must, renumbered_asked, renumbered_demand}
use Rattle.pl_renumbering.proofs.Lists.{map_along, flat_mapped, flat_unchanged}
use Rattle.pl_renumbering.proofs.Pieces.{of_found_along}
use Rattle.pl_renumbering.proofs.Comings.{row_same, end_alike}

-- ---- what one activity asks for

asked_along : (f : ℕ → ℕ) (id start end : ℕ) (amount : Option ℤ) (x : ℕ × Reservation) → asked_with (f id) start end amount x ≡ renumbered_demand f (asked_with id start end amount x)
asked_along f id start end amount (n, reservation.Take line e) = refl
asked_along f id start end amount (n, reservation.Raise line e point) = refl
asked_along f id start end amount (n, reservation.Lower line e point) = refl
asked_along f id start end amount (n, reservation.Put line state point) = refl
asked_along f id start end amount (n, reservation.Must line state) = refl

module _ (f : ℕ → ℕ) (next : ℕ) (s : PlanState) (keeps : KeepsOrder f) (rooted : IsRooted s.plan.activities) where
  abbrev t : PlanState
  t = renumbered_state f next s

  until_along : (a : Activity) (end : ℕ) → demands_until t (renumbered f a) end ≡ map (renumbered_demand f) (demands_until s a end)
  until_along a end =
      ap (λ row. map (asked_for (f a.id) a.start end row) (reservations_of s a)) (row_same f next s keeps rooted a)
      ∙ map_along (renumbered_demand f) (asked_for (f a.id) a.start end (row_of s a)) (asked_for a.id a.start end (row_of s a)) (λ x. asked_along f a.id a.start end (amount_with (row_of s a) x.1) x) (reservations_of s a)

  pub at_along : (a : Activity) → demands_at t (renumbered f a) ≡ map (renumbered_demand f) (demands_at s a)
  unfolding demands_at
  at_along a =
      ap (of_found (demands_until t (renumbered f a))) (end_alike f next s keeps rooted a)
      ∙ of_found_along (renumbered_demand f) (demands_until t (renumbered f a)) (demands_until s a) (until_along a) (end_at s a)

  pub demands_along : demands_of (renumbered_state f next s) ≡ map (renumbered_demand f) (demands_of s)
  demands_along = flat_mapped (renumbered f) (renumbered_demand f) (demands_at t) (demands_at s) at_along s.plan.activities

-- ---- what is asked of one timeline

module _ (f : ℕ → ℕ) where
  none_or : {X : Type 0} (b : Bool) (xs ys : List X) (g : X → X) → ys ≡ map g xs → cond b ys [] ≡ map g (cond b xs [])
  none_or true xs ys g e = e
  none_or false xs ys g e = refl

  use_unchanged : (x : Asked) → use_in (renumbered_asked f x) ≡ use_in x
  use_unchanged (asked.Use u) = refl
  use_unchanged (asked.Effect e) = refl
  use_unchanged (asked.Set x) = refl
  use_unchanged (asked.Must m) = refl

  effect_unchanged : (x : Asked) → effect_in (renumbered_asked f x) ≡ effect_in x
  effect_unchanged (asked.Use u) = refl
  effect_unchanged (asked.Effect e) = refl
  effect_unchanged (asked.Set x) = refl
  effect_unchanged (asked.Must m) = refl

  set_along : (x : Asked) → set_in (renumbered_asked f x) ≡ map (renumbered_setting f) (set_in x)
  set_along (asked.Use u) = refl
  set_along (asked.Effect e) = refl
  set_along (asked.Set x) = refl
  set_along (asked.Must m) = refl

  must_along : (x : Asked) → must_in (renumbered_asked f x) ≡ map (renumbered_must f) (must_in x)
  must_along (asked.Use u) = refl
  must_along (asked.Effect e) = refl
  must_along (asked.Set x) = refl
  must_along (asked.Must m) = refl

  pub uses_unchanged : (line : ℕ) (ds : List Demand) → uses_of line (map (renumbered_demand f) ds) ≡ uses_of line ds
  uses_unchanged line ds = flat_unchanged (renumbered_demand f) (asked_of use_in line) (asked_of use_in line) (λ d. ap (λ xs. cond (eqb d.line line) xs []) (use_unchanged d.asked)) ds

  pub effects_unchanged : (line : ℕ) (ds : List Demand) → effects_of line (map (renumbered_demand f) ds) ≡ effects_of line ds
  effects_unchanged line ds = flat_unchanged (renumbered_demand f) (asked_of effect_in line) (asked_of effect_in line) (λ d. ap (λ xs. cond (eqb d.line line) xs []) (effect_unchanged d.asked)) ds

  pub settings_along : (line : ℕ) (ds : List Demand) → flat_map (asked_of set_in line) (map (renumbered_demand f) ds) ≡ map (renumbered_setting f) (flat_map (asked_of set_in line) ds)
  settings_along line ds = flat_mapped (renumbered_demand f) (renumbered_setting f) (asked_of set_in line) (asked_of set_in line)
      (λ d. none_or (eqb d.line line) (set_in d.asked) (set_in (renumbered_asked f d.asked)) (renumbered_setting f) (set_along d.asked)) ds

  pub needs_along : (line : ℕ) (ds : List Demand) → flat_map (asked_of must_in line) (map (renumbered_demand f) ds) ≡ map (renumbered_must f) (flat_map (asked_of must_in line) ds)
  needs_along line ds = flat_mapped (renumbered_demand f) (renumbered_must f) (asked_of must_in line) (asked_of must_in line)
      (λ d. none_or (eqb d.line line) (must_in d.asked) (must_in (renumbered_asked f d.asked)) (renumbered_must f) (must_along d.asked)) ds

-- ---- capacities and levels

module _ (f : ℕ → ℕ) (next : ℕ) (s : PlanState) (keeps : KeepsOrder f) (rooted : IsRooted s.plan.activities) where
  pub use_same : (line moment : ℕ) → use_at (renumbered_state f next s) line moment ≡ use_at s line moment
  unfolding use_at
  use_same line moment = ap (λ us. used us moment) (ap (uses_of line) (demands_along f next s keeps rooted) ∙ uses_unchanged f line (demands_of s))

  pub level_same : (line moment : ℕ) → level_at (renumbered_state f next s) line moment ≡ level_at s line moment
  unfolding level_at
  level_same line moment = ap (λ es. told s line +ℤ total (counted (since s line) moment) es) (ap (effects_of line) (demands_along f next s keeps rooted) ∙ effects_unchanged f line (demands_of s))
