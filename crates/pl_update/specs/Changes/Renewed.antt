-- Activities that come in the places of those of their ids.
use Rattle.std.specs.Prelude.{◌≡◌, ℕ, List, ◌++◌, map}
use Rattle.std.specs.List.{fold}
use Rattle.pl_plan.specs.declared.activity.Activity.{Activity}
use Rattle.pl_plan.specs.Activities.{placed, without}
use Rattle.pl_plan.specs.Trees.{id_of}

-- the one of its id is taken out, and it is put
abbrev pub renewed : Activity → List Activity → List Activity
renewed a xs = placed a (without a.id xs)

abbrev pub all_renewed : List Activity → List Activity → List Activity
all_renewed xs more = fold (λ all a. renewed a all) xs more

-- the first of those that come have the ids that go, in the same order
pub record ComeAgain (gone : List ℕ) (more first rest : List Activity) : Type 0 where
  pub ids : gone ≡ map id_of first
  pub whole : more ≡ first ++ rest
