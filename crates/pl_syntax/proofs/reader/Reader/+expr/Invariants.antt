use Rattle.std.proofs.Common.{◌≡◌, ◌≤◌, ◌-◌, length, ◌+◌, ◌*◌}
use Rattle.pl_syntax.specs.ReadingExpressions.{inner_at, factor_with, products_by, sums_by, term_with}
use Rattle.pl_syntax.proofs.reader.Reader.+expr.Given as goal

-- a bracket costs more than all that it holds
abbrev pub decreases-closed : goal.decreases-closed
decreases-closed l = 10 * l.brackets + 10

abbrev pub decreases-expr : goal.decreases-expr
decreases-expr l = 10 * l.brackets + 9

abbrev pub decreases-sums : goal.decreases-sums
decreases-sums l = 10 * l.brackets + 8

abbrev pub decreases-summed : goal.decreases-summed
decreases-summed l = 10 * l.brackets + 7

abbrev pub decreases-multiplied : goal.decreases-multiplied
decreases-multiplied l = 10 * l.brackets + 4

abbrev pub decreases-term : goal.decreases-term
decreases-term l = 10 * l.brackets + 6

abbrev pub decreases-products : goal.decreases-products
decreases-products l = 10 * l.brackets + 5

abbrev pub decreases-factor : goal.decreases-factor
decreases-factor l = 10 * l.brackets + 3

abbrev pub decreases-pick : goal.decreases-pick
decreases-pick l = 10 * l.brackets + 2

abbrev pub decreases-group : goal.decreases-group
decreases-group l = 10 * l.brackets + 2

-- the rest gives what the whole gives
abbrev pub invariant-products-products : goal.invariant-products-products
invariant-products-products l =
    (products_by (factor_with (inner_at l.brackets)) (l.end - l.counter) l.levels l.left l.self.rest.now
    ≡ products_by (factor_with (inner_at l.brackets)) (length l.fn.self.rest.now) l.levels l.fn.left l.fn.self.rest.now)
    × (1 ≤ l.left.1) × (l.left.1 ≤ l.levels)

abbrev pub invariant-sums-sums : goal.invariant-sums-sums
invariant-sums-sums l =
    (sums_by (term_with (inner_at l.brackets)) (l.end - l.counter) l.levels l.left l.self.rest.now
    ≡ sums_by (term_with (inner_at l.brackets)) (length l.fn.self.rest.now) l.levels l.fn.left l.fn.self.rest.now)
    × (1 ≤ l.left.1) × (l.left.1 ≤ l.levels)
