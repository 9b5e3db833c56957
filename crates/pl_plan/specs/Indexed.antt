-- The activities of a plan with their indexes.
use Rattle.std.specs.Prelude.{ℕ, List}
use Rattle.pl_plan.specs.declared.activity.Activity.{Activity}
use Rattle.pl_plan.specs.Activities.{AreRising}
use Rattle.pl_plan.specs.Index.{IsIndexOf}
use Rattle.pl_plan.specs.Trees.{parent_in}
use Rattle.pl_plan.specs.Serving.{served_in}

pub record AreIndexed (activities : List Activity) (under serving : List (ℕ × ℕ)) : Type 0 where
  pub rising : AreRising activities
  pub children : IsIndexOf parent_in activities under
  pub servers : IsIndexOf served_in activities serving
