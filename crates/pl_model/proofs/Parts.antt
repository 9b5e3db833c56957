-- The closed parts of a checked model, opened and closed.
use Rattle.pl_model.specs.declared.whole.Model.{Model}
use Rattle.pl_model.specs.Names.{DistinctNames, HasDistinctNames}
use Rattle.pl_model.specs.Expressions.{SmallExpressions, HasSmallExpressions}
use Rattle.pl_model.specs.Schedules.{LeastTimes, HasLeastTimes}
use Rattle.pl_model.specs.Written.{GrammarShape, IsWritten}

module _ (model : Model) where
  pub distinct_names : HasDistinctNames model → DistinctNames model
  unfolding HasDistinctNames
  distinct_names h = h

  pub has_distinct_names : DistinctNames model → HasDistinctNames model
  unfolding HasDistinctNames
  has_distinct_names h = h

  pub small_expressions : HasSmallExpressions model → SmallExpressions model
  unfolding HasSmallExpressions
  small_expressions h = h

  pub has_small_expressions : SmallExpressions model → HasSmallExpressions model
  unfolding HasSmallExpressions
  has_small_expressions h = h

  pub least_times : HasLeastTimes model → LeastTimes model
  unfolding HasLeastTimes
  least_times h = h

  pub has_least_times : LeastTimes model → HasLeastTimes model
  unfolding HasLeastTimes
  has_least_times h = h

  pub grammar_shape : IsWritten model → GrammarShape model
  unfolding IsWritten
  grammar_shape h = h

  pub is_written : GrammarShape model → IsWritten model
  unfolding IsWritten
  is_written h = h
