-- What the parameters of an activity come to.
use Rattle.std.specs.Prelude.{ℕ, zero, suc, ◌==◌, ℤ, List, [], ◌∷◌, length, replicate, slice_get, slice_index_or, Option, Some, None, unwrap_or, if◌then◌else◌}
use Rattle.std.specs.Option.{option_map}
use Rattle.pl_model.specs.declared.expressions.Expr.{Expr}
use Rattle.pl_model.specs.declared.parameters.Param.{Param}
use Rattle.pl_model.specs.declared.parameters.Origin.{Origin}
use Rattle.pl_model.specs.declared.parameters.Origin.TheVariants.{Free, Dependent}
use Rattle.pl_model.specs.declared.alternatives.Slot.{Slot}
use Rattle.pl_model.specs.declared.whole.Model.{Model}
use Rattle.pl_model.specs.Values.{value_of, NamesBelow}
use Rattle.pl_model.specs.Checked.{params_of}
use Rattle.pl_plan.specs.declared.activity.Activity.{Activity}
use Rattle.pl_plan.specs.Activities.{activity_of}
use Rattle.pl_plan.specs.Trees.{climb}
use Rattle.pl_plan.specs.Fitting.{kind_of, chosen_slots_of}

-- one place a parameter
abbrev pub Row : Type 0
Row = List (Option ℤ)

-- ---- bindings

-- the expression that is bound to the parameter of this number
abbrev pub binding_of : ℕ → List (ℕ × Expr) → Option Expr
binding_of n [] = None
binding_of n (b ∷ more) = if b.0 == n then Some b.1 else binding_of n more

abbrev pub bindings_in : Option Slot → List (ℕ × Expr)
bindings_in None = []
bindings_in (Some slot) = slot.bindings

-- what the slot of an activity binds, of which this is the parent and the slot
abbrev pub bindings_at : Model → List Activity → Option (ℕ × ℕ) → List (ℕ × Expr)
bindings_at model activities None = []
bindings_at model activities (Some p) = bindings_in (slice_get (chosen_slots_of model (activity_of p.0 activities)) p.1)

abbrev pub BindsBelow : ℕ → ℕ × Expr → Type 0
BindsBelow n b = NamesBelow n b.1

-- ---- the value of one parameter

-- what was set, else the default, else none
abbrev pub free_value : Option ℤ → Option ℤ → Option ℤ
free_value (Some v) default = Some v
free_value None default = default

-- of a parameter that nothing binds, over the values of its own activity
abbrev pub own_value : Origin → Option ℤ → Row → Option ℤ
own_value (Free default) set own = free_value set default
own_value (Dependent e) set own = value_of e own

-- a bound parameter has the slot's expression over the parent's values
abbrev pub value_by : Option Expr → Origin → Option ℤ → Row → Row → Option ℤ
value_by binding origin set above own = unwrap_or (option_map (λ e. value_of e above) binding) (own_value origin set own)

-- ---- the values of one activity

-- the value of each parameter, from this number on, by what is known of the others
abbrev pub round_from : ℕ → List Param → Row → List (ℕ × Expr) → Row → Row → Row
round_from n [] set bindings above own = []
round_from n (p ∷ more) set bindings above own = value_by (binding_of n bindings) p.origin (slice_index_or set n None) above own ∷ round_from (suc n) more set bindings above own

abbrev pub rounds : ℕ → (Row → Row) → Row → Row
rounds zero round own = own
rounds (suc n) round own = round (rounds n round own)

-- as many rounds as there are parameters, from no value known
abbrev pub settled : List Param → Row → List (ℕ × Expr) → Row → Row
settled params set bindings above = rounds (length params) (λ own. round_from 0 params set bindings above own) (replicate (length params) None)

-- ---- the values of all activities

abbrev pub values_in : Model → List Activity → Option Activity → Row → Row
values_in model activities None above = []
values_in model activities (Some a) above = settled (params_of (kind_of model a)) a.set (bindings_at model activities a.parent) above

abbrev pub values_rule : Model → List Activity → ℕ → Option Row → Row
values_rule model activities id above = values_in model activities (activity_of id activities) (unwrap_or above [])

-- the values of the parameters of the activity of this id
unfoldable pub values_of : Model → List Activity → ℕ → Row
values_of model activities id = climb (values_rule model activities) activities id

-- the value of a parameter
abbrev pub param_value : Model → List Activity → ℕ → ℕ → Option ℤ
param_value model activities id param = slice_index_or (values_of model activities id) param None
