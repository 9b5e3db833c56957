-- The size of an expression, its literals, and the expressions of a kind.
use Rattle.std.specs.Prelude.{ℕ, suc, ◌+◌, ◌≤◌, max, pos, int_le, ◌&&◌, Bool, true, IsTrue, List, [], ◌∷◌, ◌++◌, All, map}
use Rattle.std.specs.List.{flat_map}
use Rattle.pl_model.specs.declared.expressions.Expr.{Expr, fold-Expr}
use Rattle.pl_model.specs.declared.expressions.Expr.TheOpen.{Expr-F}
use Rattle.pl_model.specs.declared.parameters.Param.{Param}
use Rattle.pl_model.specs.declared.parameters.Origin.{Origin}
use Rattle.pl_model.specs.declared.parameters.Origin.TheVariants.{Free, Dependent}
use Rattle.pl_model.specs.declared.reservations.Reservation.{Reservation}
use Rattle.pl_model.specs.declared.reservations.Reservation.TheVariants.{Take, Raise, Lower, Put, Must}
use Rattle.pl_model.specs.declared.alternatives.Slot.{Slot}
use Rattle.pl_model.specs.declared.alternatives.Alternative.{Alternative}
use Rattle.pl_model.specs.declared.kinds.Kind.{Kind}
use Rattle.pl_model.specs.declared.whole.Model.{Model}

-- ---- size

abbrev pub nodes_at : Expr-F ℕ → ℕ
nodes_at (Expr-F.Num n) = 1
nodes_at (Expr-F.Param p) = 1
nodes_at (Expr-F.Apply op a b) = 1 + (a + b)

-- how many numbers, parameters and operations it has
abbrev pub nodes_of : Expr → ℕ
nodes_of e = fold-Expr ℕ nodes_at e

abbrev pub levels_at : Expr-F ℕ → ℕ
levels_at (Expr-F.Num n) = 1
levels_at (Expr-F.Param p) = 1
levels_at (Expr-F.Apply op a b) = suc (max a b)

-- how deep its operations nest, a number or a parameter being one level
abbrev pub levels_of : Expr → ℕ
levels_of e = fold-Expr ℕ levels_at e

-- ---- literals

abbrev pub literals_at : Expr-F Bool → Bool
literals_at (Expr-F.Num n) = int_le (pos 0) n && int_le n (pos 1000000000)
literals_at (Expr-F.Param p) = true
literals_at (Expr-F.Apply op a b) = a && b

-- each number that it holds lies from 0 to 10^9
abbrev pub HasSmallLiterals : Expr → Type 0
HasSmallLiterals e = IsTrue (fold-Expr Bool literals_at e)

-- at most 64 nodes, and small literals
pub record IsSmallExpr (e : Expr) : Type 0 where
  pub few_nodes : nodes_of e ≤ 64
  pub literals : HasSmallLiterals e

-- ---- the expressions of a kind: of its duration, its dependent parameters, its amounts and its slots' bindings

abbrev pub origin_exprs : Origin → List Expr
origin_exprs (Free default) = []
origin_exprs (Dependent e) = e ∷ []

abbrev pub param_exprs : Param → List Expr
param_exprs p = origin_exprs p.origin

abbrev pub reservation_exprs : Reservation → List Expr
reservation_exprs (Take line e) = e ∷ []
reservation_exprs (Raise line e point) = e ∷ []
reservation_exprs (Lower line e point) = e ∷ []
reservation_exprs (Put line state point) = []
reservation_exprs (Must line state) = []

abbrev pub bound_expr : ℕ × Expr → Expr
bound_expr b = b.1

abbrev pub slot_exprs : Slot → List Expr
slot_exprs s = map bound_expr s.bindings

abbrev pub alternative_exprs : Alternative → List Expr
alternative_exprs a = flat_map slot_exprs a.slots

abbrev pub exprs_of : Kind → List Expr
exprs_of k =
    k.duration ∷ (flat_map param_exprs k.params
    ++ (flat_map reservation_exprs k.reservations
    ++ flat_map alternative_exprs k.alternatives))

pub record HasSmallExprs (k : Kind) : Type 0 where
  pub each : All IsSmallExpr (exprs_of k)

pub record SmallExpressions (model : Model) : Type 0 where
  pub kinds : All HasSmallExprs model.kinds

-- closed, so that a search does not look into it; proofs/Parts opens it
unfoldable pub HasSmallExpressions : Model → Type 0
HasSmallExpressions model = SmallExpressions model
