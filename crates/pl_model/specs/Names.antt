-- Names, and that they differ.
use Rattle.std.specs.Prelude.{◌≢◌, ℕ, List, ◌++◌, All, AllPairs, IsTrue, map}
use Rattle.pl_text.specs.Words.{is_name}
use Rattle.pl_model.specs.declared.expressions.Expr.{Expr}
use Rattle.pl_model.specs.declared.parameters.Param.{Param}
use Rattle.pl_model.specs.declared.alternatives.Slot.{Slot}
use Rattle.pl_model.specs.declared.alternatives.Alternative.{Alternative}
use Rattle.pl_model.specs.declared.kinds.Kind.{Kind}
use Rattle.pl_model.specs.declared.timelines.Timeline.{Timeline}
use Rattle.pl_model.specs.declared.timelines.Timeline.TheVariants.{Capacity, Level, States}
use Rattle.pl_model.specs.declared.whole.Model.{Model}

-- a letter and then letters, digits and `_`, at most 32 bytes, and no reserved word
abbrev pub IsName : List ℕ → Type 0
IsName name = IsTrue (is_name name)

-- no two of them are the same
abbrev pub Differ : {X : Type 0} → List X → Type 0
Differ xs = AllPairs (λ x y. x ≢ y) xs

-- ---- whose names they are

abbrev pub line_name : Timeline → List ℕ
line_name (Capacity name most) = name
line_name (Level name least most start) = name
line_name (States name states start any steps) = name

abbrev pub kind_name : Kind → List ℕ
kind_name k = k.name

abbrev pub param_name : Param → List ℕ
param_name p = p.name

abbrev pub slot_name : Slot → List ℕ
slot_name s = s.name

-- the number of the parameter that is bound
abbrev pub bound_number : ℕ × Expr → ℕ
bound_number b = b.0

-- ---- which of them differ

abbrev pub HasDistinctStates : Timeline → Type 0
HasDistinctStates (Capacity name most) = Unit {0}
HasDistinctStates (Level name least most start) = Unit {0}
HasDistinctStates (States name states start any steps) = Differ states

-- no parameter is bound twice
pub record BindsOnce (s : Slot) : Type 0 where
  pub differ : Differ (map bound_number s.bindings)

pub record HasDistinctSlots (a : Alternative) : Type 0 where
  pub slots : Differ (map slot_name a.slots)
  pub bindings : All BindsOnce a.slots

pub record HasDistinctParts (k : Kind) : Type 0 where
  pub params : Differ (map param_name k.params)
  pub alternatives : All HasDistinctSlots k.alternatives

-- timelines and kinds share one space of names
pub record DistinctNames (model : Model) : Type 0 where
  pub items : Differ (map line_name model.timelines ++ map kind_name model.kinds)
  pub states : All HasDistinctStates model.timelines
  pub kinds : All HasDistinctParts model.kinds

-- closed, so that a search does not look into it; proofs/Parts opens it
unfoldable pub HasDistinctNames : Model → Type 0
HasDistinctNames model = DistinctNames model
