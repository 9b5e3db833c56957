-- The fault of the first parameter that depends on itself, and of the first kind that contains itself.
use Rattle.std.specs.Prelude.{◌≡◌, ℕ, List, [], ◌∷◌, ◌++◌, Some, map, take, slice_get, All}
use Rattle.std.specs.List.{flat_map}
use Rattle.pl_model.specs.declared.expressions.Expr.{Expr, fold-Expr}
use Rattle.pl_model.specs.declared.expressions.Expr.TheOpen.{Expr-F}
use Rattle.pl_model.specs.declared.parameters.Param.{Param}
use Rattle.pl_model.specs.declared.parameters.Origin.{Origin}
use Rattle.pl_model.specs.declared.parameters.Origin.TheVariants.{Free, Dependent}
use Rattle.pl_model.specs.declared.alternatives.Slot.{Slot}
use Rattle.pl_check.specs.declared.fault.ModelFault.{ModelFault}
use Rattle.pl_check.specs.declared.fault.ModelFault.TheVariants as fault
use Rattle.pl_check.specs.declared.drafts.DraftAlternative.{DraftAlternative}
use Rattle.pl_check.specs.declared.drafts.DraftKind.{DraftKind}
use Rattle.pl_check.specs.Names.{Name}
use Rattle.pl_check.specs.Cycles.{Graph, IsAcyclic, IsFirstCyclic}

abbrev pub params_at : Expr-F (List ℕ) → List ℕ
params_at (Expr-F.Num n) = []
params_at (Expr-F.Param p) = p ∷ []
params_at (Expr-F.Apply op a b) = a ++ b

-- the parameters that an expression names
abbrev pub params_of : Expr → List ℕ
params_of e = fold-Expr (List ℕ) params_at e

abbrev pub needs_of : Origin → List ℕ
needs_of (Free default) = []
needs_of (Dependent e) = params_of e

abbrev pub param_needs : Param → List ℕ
param_needs p = needs_of p.origin

-- which parameters each parameter of a kind depends on
abbrev pub param_graph : DraftKind → Graph
param_graph k = map param_needs k.params

abbrev pub slot_kind : Slot → ℕ
slot_kind s = s.kind

abbrev pub alternative_kinds : DraftAlternative → List ℕ
alternative_kinds a = map slot_kind a.slots

abbrev pub contained_kinds : DraftKind → List ℕ
contained_kinds k = flat_map alternative_kinds k.alternatives

-- which kinds each kind has as slots
abbrev pub kind_graph : List DraftKind → Graph
kind_graph kinds = map contained_kinds kinds

-- no parameter of the kind depends on itself
pub record IsWellFounded (k : DraftKind) : Type 0 where
  pub acyclic : IsAcyclic (param_graph k)

-- of a kind the first parameter that depends on itself
pub record IsFirstCircularIn (kind : DraftKind) (name param : Name) : Type 0 where
  pub number : ℕ
  pub first : IsFirstCyclic (param_graph kind) number
  pub stands : Param
  pub found : slice_get kind.params number ≡ Some stands
  pub named : name ≡ kind.name
  pub param_named : param ≡ stands.name

-- the first kind with such a parameter
pub record IsFirstCircular (kinds : List DraftKind) (name param : Name) : Type 0 where
  pub place : ℕ
  pub kind : DraftKind
  pub found : slice_get kinds place ≡ Some kind
  pub earlier : All IsWellFounded (take place kinds)
  pub first : IsFirstCircularIn kind name param

-- the first kind that contains itself
pub record IsFirstRecursive (kinds : List DraftKind) (name : Name) : Type 0 where
  pub place : ℕ
  pub kind : DraftKind
  pub found : slice_get kinds place ≡ Some kind
  pub first : IsFirstCyclic (kind_graph kinds) place
  pub named : name ≡ kind.name

-- no parameter depends on itself
abbrev pub AreWellFounded : List DraftKind → Type 0
AreWellFounded kinds = All IsWellFounded kinds

-- no kind contains itself
abbrev pub AreUncontained : List DraftKind → Type 0
AreUncontained kinds = IsAcyclic (kind_graph kinds)

-- ---- what each check refuses, beside want of memory

abbrev pub IsCircularIn : DraftKind → ModelFault → Type 0
IsCircularIn kind (fault.Circular name param) = IsFirstCircularIn kind name param
IsCircularIn kind fault.Memory = Unit {0}
IsCircularIn kind _ = ⊥

abbrev pub IsCircularFault : List DraftKind → ModelFault → Type 0
IsCircularFault kinds (fault.Circular name param) = IsFirstCircular kinds name param
IsCircularFault kinds fault.Memory = Unit {0}
IsCircularFault kinds _ = ⊥

abbrev pub IsRecursiveFault : List DraftKind → ModelFault → Type 0
IsRecursiveFault kinds (fault.Recursive name) = IsFirstRecursive kinds name
IsRecursiveFault kinds fault.Memory = Unit {0}
IsRecursiveFault kinds _ = ⊥
