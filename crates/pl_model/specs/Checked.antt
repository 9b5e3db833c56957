-- What holds of a checked model, said of the model alone. The checks make it consistent: its numbers name what they should, its
-- counts and numbers keep their limits, names that share a space differ, by their ranks no parameter depends on itself and no
-- kind contains itself, and durations and offsets are the least. The grammar gives the rest.
use Rattle.std.specs.Prelude.{◌≡◌, ℕ, ◌<◌, ◌≤◌, ℤ, pos, neg_ℤ, ◌≤ℤ◌, nat_lt, ◌&&◌, Bool, true, IsTrue, List, [], Option, Some, None, All, length, slice_get, slice_index_or}
use Rattle.pl_model.specs.declared.expressions.Expr.{Expr, fold-Expr}
use Rattle.pl_model.specs.declared.expressions.Expr.TheOpen.{Expr-F}
use Rattle.pl_model.specs.declared.parameters.Param.{Param}
use Rattle.pl_model.specs.declared.parameters.Origin.{Origin}
use Rattle.pl_model.specs.declared.parameters.Origin.TheVariants.{Free, Dependent}
use Rattle.pl_model.specs.declared.reservations.Reservation.{Reservation}
use Rattle.pl_model.specs.declared.reservations.Reservation.TheVariants.{Take, Raise, Lower, Put, Must}
use Rattle.pl_model.specs.declared.links.Link.{Link}
use Rattle.pl_model.specs.declared.alternatives.Slot.{Slot}
use Rattle.pl_model.specs.declared.alternatives.Order.{Order}
use Rattle.pl_model.specs.declared.alternatives.Alternative.{Alternative}
use Rattle.pl_model.specs.declared.kinds.Kind.{Kind}
use Rattle.pl_model.specs.declared.timelines.Timeline.{Timeline}
use Rattle.pl_model.specs.declared.timelines.Timeline.TheVariants.{Capacity, Level, States}
use Rattle.pl_model.specs.declared.whole.Model.{Model}
use Rattle.pl_model.specs.Values.{NamesBelow}
use Rattle.pl_model.specs.Names.{HasDistinctNames}
use Rattle.pl_model.specs.Expressions.{HasSmallExpressions}
use Rattle.pl_model.specs.Schedules.{IsPlace, HasLeastTimes}
use Rattle.pl_model.specs.Written.{IsWritten}

-- ---- numbers

-- of parameters and capacities
abbrev pub IsAmount : ℤ → Type 0
IsAmount n = (pos 0 ≤ℤ n) × (n ≤ℤ pos 1000000000)

-- of the limits and the start of a level
abbrev pub IsLevel : ℤ → Type 0
IsLevel n = (pos 0 ≤ℤ n) × (n ≤ℤ pos 1000000000000)

-- how far two points are apart, at least and at most
abbrev pub IsDistance : ℕ → ℤ → ℤ → Type 0
IsDistance horizon low high = (neg_ℤ (pos horizon) ≤ℤ low) × (low ≤ℤ high) × (high ≤ℤ pos horizon)

-- ---- timelines

abbrev pub IsStep : ℕ → ℕ × ℕ → Type 0
IsStep states s = (s.0 < states) × (s.1 < states)

abbrev pub IsCheckedLine : Timeline → Type 0
IsCheckedLine (Capacity name most) = IsAmount most
IsCheckedLine (Level name least most start) = IsLevel least × IsLevel most × IsLevel start × (least ≤ℤ most)
IsCheckedLine (States name states start any steps) = (length states ≤ 32) × (start < length states) × All (IsStep (length states)) steps

abbrev pub IsCapacityLine : Option Timeline → Type 0
IsCapacityLine (Some (Capacity name most)) = Unit {0}
IsCapacityLine _ = ⊥

abbrev pub IsLevelLine : Option Timeline → Type 0
IsLevelLine (Some (Level name least most start)) = Unit {0}
IsLevelLine _ = ⊥

-- a state timeline that has a state of this number
abbrev pub HasState : ℕ → Option Timeline → Type 0
HasState state (Some (States name states start any steps)) = state < length states
HasState state _ = ⊥

-- ---- parameters

abbrev pub IsDefault : ℤ → ℤ → Option ℤ → Type 0
IsDefault low high None = Unit {0}
IsDefault low high (Some n) = (low ≤ℤ n) × (n ≤ℤ high)

-- of one parameter among so many
abbrev pub IsOrigin : ℕ → ℤ → ℤ → Origin → Type 0
IsOrigin params low high (Free default) = IsDefault low high default
IsOrigin params low high (Dependent e) = NamesBelow params e

pub record IsCheckedParam (params : ℕ) (p : Param) : Type 0 where
  pub least : IsAmount p.low
  pub greatest : IsAmount p.high
  pub ordered : p.low ≤ℤ p.high
  pub origin : IsOrigin params p.low p.high p.origin

abbrev pub ranked_at : (ℕ → ℕ) → ℕ → Expr-F Bool → Bool
ranked_at rank r (Expr-F.Num n) = true
ranked_at rank r (Expr-F.Param p) = nat_lt (rank p) r
ranked_at rank r (Expr-F.Apply op a b) = a && b

-- each parameter that the expression names has a rank below r
abbrev pub NamesRanked : (ℕ → ℕ) → ℕ → Expr → Type 0
NamesRanked rank r e = IsTrue (fold-Expr Bool (ranked_at rank r) e)

abbrev pub IsOriginRanked : (ℕ → ℕ) → ℕ → Origin → Type 0
IsOriginRanked rank r (Free default) = Unit {0}
IsOriginRanked rank r (Dependent e) = NamesRanked rank r e

abbrev pub IsParamRanked : (ℕ → ℕ) → ℕ → Param → Type 0
IsParamRanked rank r p = IsOriginRanked rank r p.origin

-- Each parameter has a rank below their number, and a dependent one names parameters of smaller ranks alone.
pub record AreParamsRanked (params : List Param) : Type 0 where
  pub rank : ℕ → ℕ
  pub below : (p : ℕ) → p < length params → rank p < length params
  pub falls : (p : ℕ) (d : Param) → p < length params → IsParamRanked rank (rank p) (slice_index_or params p d)

-- ---- what a kind asks for

-- each amount is an expression over so many parameters
abbrev pub IsReservation : List Timeline → ℕ → Reservation → Type 0
IsReservation lines params (Take line e) = IsCapacityLine (slice_get lines line) × NamesBelow params e
IsReservation lines params (Raise line e point) = IsLevelLine (slice_get lines line) × NamesBelow params e
IsReservation lines params (Lower line e point) = IsLevelLine (slice_get lines line) × NamesBelow params e
IsReservation lines params (Put line state point) = HasState state (slice_get lines line)
IsReservation lines params (Must line state) = HasState state (slice_get lines line)

pub record IsCheckedLink (model : Model) (l : Link) : Type 0 where
  pub kind : l.kind < length model.kinds
  pub distance : IsDistance model.horizon l.low l.high

-- ---- alternatives

abbrev pub IsSetOrigin : Origin → Type 0
IsSetOrigin (Free default) = Unit {0}
IsSetOrigin (Dependent e) = ⊥

-- a parameter that does not depend on others
abbrev pub IsSetParam : Option Param → Type 0
IsSetParam (Some p) = IsSetOrigin p.origin
IsSetParam None = ⊥

-- A binding gives a parameter of the slot's kind an expression over so many parameters, those of the parent.
pub record IsBinding (params : ℕ) (of_slot : List Param) (b : ℕ × Expr) : Type 0 where
  pub number : b.0 < length of_slot
  pub set : IsSetParam (slice_get of_slot b.0)
  pub names : NamesBelow params b.1

abbrev pub params_of : Option Kind → List Param
params_of (Some k) = k.params
params_of None = []

pub record IsCheckedSlot (model : Model) (params : ℕ) (s : Slot) : Type 0 where
  pub kind : s.kind < length model.kinds
  pub bindings : All (IsBinding params (params_of (slice_get model.kinds s.kind))) s.bindings

pub record IsCheckedOrder (horizon slots : ℕ) (o : Order) : Type 0 where
  pub first : IsPlace slots o.first
  pub second : IsPlace slots o.second
  pub distance : IsDistance horizon o.low o.high

pub record IsCheckedAlternative (model : Model) (params : ℕ) (a : Alternative) : Type 0 where
  pub few_slots : length a.slots ≤ 16
  pub few_orders : length a.orders ≤ 64
  pub each_slot : length a.offsets ≡ length a.slots
  pub slots : All (IsCheckedSlot model params) a.slots
  pub orders : All (IsCheckedOrder model.horizon (length a.slots)) a.orders

-- ---- kinds

pub record IsCheckedKind (model : Model) (k : Kind) : Type 0 where
  pub few_params : length k.params ≤ 16
  pub few_reservations : length k.reservations ≤ 32
  pub few_links : length k.links ≤ 16
  pub few_alternatives : length k.alternatives ≤ 8
  pub params : All (IsCheckedParam (length k.params)) k.params
  pub ranks : AreParamsRanked k.params
  pub duration : NamesBelow (length k.params) k.duration
  pub least_duration : (1 ≤ k.least_duration) × (k.least_duration ≤ model.horizon)
  pub reservations : All (IsReservation model.timelines (length k.params)) k.reservations
  pub links : All (IsCheckedLink model) k.links
  pub alternatives : All (IsCheckedAlternative model (length k.params)) k.alternatives

abbrev pub IsSlotRanked : (ℕ → ℕ) → ℕ → Slot → Type 0
IsSlotRanked rank r s = rank s.kind < r

abbrev pub IsAlternativeRanked : (ℕ → ℕ) → ℕ → Alternative → Type 0
IsAlternativeRanked rank r a = All (IsSlotRanked rank r) a.slots

abbrev pub IsKindRanked : (ℕ → ℕ) → ℕ → Kind → Type 0
IsKindRanked rank r k = All (IsAlternativeRanked rank r) k.alternatives

-- Each kind has a rank below their number, and its slots have kinds of smaller ranks alone.
pub record AreKindsRanked (kinds : List Kind) : Type 0 where
  pub rank : ℕ → ℕ
  pub below : (k : ℕ) → k < length kinds → rank k < length kinds
  pub falls : (k : ℕ) (d : Kind) → k < length kinds → IsKindRanked rank (rank k) (slice_index_or kinds k d)

-- ---- the model

-- what the checks give, whatever tree they are given
pub record IsConsistent (model : Model) : Type 0 where
  pub horizon : (2 ≤ model.horizon) × (model.horizon ≤ 10000000)
  pub lead : (1 ≤ model.lead) × (model.lead ≤ model.horizon)
  pub few_timelines : length model.timelines ≤ 256
  pub few_kinds : length model.kinds ≤ 256
  pub timelines : All IsCheckedLine model.timelines
  pub kinds : All (IsCheckedKind model) model.kinds
  pub ranks : AreKindsRanked model.kinds
  pub names : HasDistinctNames model
  pub expressions : HasSmallExpressions model
  pub times : HasLeastTimes model

-- the model of a text that passes the checks: consistent, and of the grammar's shape
pub record IsChecked (model : Model) : Type 0 where
  pub horizon : (2 ≤ model.horizon) × (model.horizon ≤ 10000000)
  pub lead : (1 ≤ model.lead) × (model.lead ≤ model.horizon)
  pub few_timelines : length model.timelines ≤ 256
  pub few_kinds : length model.kinds ≤ 256
  pub timelines : All IsCheckedLine model.timelines
  pub kinds : All (IsCheckedKind model) model.kinds
  pub ranks : AreKindsRanked model.kinds
  pub names : HasDistinctNames model
  pub expressions : HasSmallExpressions model
  pub times : HasLeastTimes model
  pub written : IsWritten model
