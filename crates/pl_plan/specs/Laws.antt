-- What trees and values mean, apart from how they are worked out.
use Rattle.std.specs.Prelude.{◌≡◌, ℕ, ◌<◌, ℤ, List, [], length, slice_index_or, Option, Some, None}
use Rattle.pl_model.specs.declared.expressions.Expr.{Expr}
use Rattle.pl_model.specs.declared.parameters.Param.{Param}
use Rattle.pl_model.specs.declared.parameters.Origin.{Origin}
use Rattle.pl_model.specs.declared.parameters.Origin.TheVariants.{Free, Dependent}
use Rattle.pl_model.specs.declared.whole.Model.{Model}
use Rattle.pl_model.specs.Values.{value_of}
use Rattle.pl_model.specs.Checked.{params_of}
use Rattle.pl_plan.specs.declared.activity.Activity.{Activity}
use Rattle.pl_plan.specs.Activities.{activity_of, IsLive}
use Rattle.pl_plan.specs.Trees.{parent_of, Descends}
use Rattle.pl_plan.specs.Fitting.{kind_of}
use Rattle.pl_plan.specs.Values.{Row, binding_of, bindings_at, free_value}

-- ---- trees

-- the live activity without a parent from which this one descends
pub record IsRootOf (activities : List Activity) (id root : ℕ) : Type 0 where
  pub live : IsLive root activities
  pub top : parent_of root activities ≡ None
  pub above : Descends activities root id

-- ---- values

-- the value of one parameter, by what binds it, by what it is, by what was set, and by the values above and beside it
pub record MeansValue (binding : Option Expr) (origin : Origin) (set : Option ℤ) (above own : Row) (value : Option ℤ) : Type 0 where
  -- a bound one has the slot's expression over the parent's values
  pub bound : (e : Expr) → binding ≡ Some e → value ≡ value_of e above
  -- a dependent one has its expression over the values of its own activity
  pub dependent : (e : Expr) → binding ≡ None → origin ≡ Dependent e → value ≡ value_of e own
  -- a free one has what was set, else its default, else none
  pub free : (default : Option ℤ) → binding ≡ None → origin ≡ Free default → value ≡ free_value set default

abbrev pub above_of : (ℕ → Row) → Option (ℕ × ℕ) → Row
above_of values None = []
above_of values (Some p) = values p.0

-- rows of values, by id, that have these meanings at each activity and each parameter
pub record AreValues (model : Model) (activities : List Activity) (values : ℕ → Row) : Type 0 where
  pub places : (id : ℕ) (a : Activity) → activity_of id activities ≡ Some a → length (values id) ≡ length (params_of (kind_of model a))
  pub means : (id : ℕ) (a : Activity) (n : ℕ) (d : Param) → activity_of id activities ≡ Some a → n < length (params_of (kind_of model a))
      → MeansValue (binding_of n (bindings_at model activities a.parent)) (slice_index_or (params_of (kind_of model a)) n d).origin (slice_index_or a.set n None) (above_of values a.parent) (values id) (slice_index_or (values id) n None)

-- each ancestor of the activity, itself among them, is the same in both lists
abbrev pub AreSameAbove : List Activity → List Activity → ℕ → Type 0
AreSameAbove xs ys id = (q : ℕ) → Descends xs q id → activity_of q xs ≡ activity_of q ys
