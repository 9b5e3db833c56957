-- Levels only grow as operators are added.
use Rattle.std.proofs.Common.{◌≤◌, arith}
use Rattle.pl_syntax.specs.Expressions.{Factor, Expr, Products, Sums, number, named, group, pick, expr, no_product, times, no_sum, joined, sign_op, Measured, apply, factor_tree, expr_tree, products_tree, sums_tree}
use Rattle.pl_model.specs.declared.expressions.Op.TheVariants as op

pub products_grow : (ps : Products) (v : Measured) → v.1 ≤ (products_tree ps v).1
products_grow no_product v = omega arith
products_grow (times f ps) v = omega (arith, products_grow ps (apply op.Mul v (factor_tree f)))

pub sums_grow : (ss : Sums) (v : Measured) → v.1 ≤ (sums_tree ss v).1
sums_grow no_sum v = omega arith
sums_grow (joined s f ps ss) v = omega (arith, sums_grow ss (apply (sign_op s) v (products_tree ps (factor_tree f))))

pub factor_some : (f : Factor) → 1 ≤ (factor_tree f).1
factor_some (number n) = omega arith
factor_some (named n) = omega arith
factor_some (group (expr f ps ss)) = omega (arith, factor_some f, products_grow ps (factor_tree f), sums_grow ss (products_tree ps (factor_tree f)))
factor_some (pick p a b) = omega arith

pub expr_some : (e : Expr) → 1 ≤ (expr_tree e).1
expr_some (expr f ps ss) = omega (arith, factor_some f, products_grow ps (factor_tree f), sums_grow ss (products_tree ps (factor_tree f)))
