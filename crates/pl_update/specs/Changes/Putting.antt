-- When activities can be put into a plan one after another.
use Rattle.std.specs.Prelude.{◌≡◌, List, [], ◌∷◌, None}
use Rattle.pl_plan.specs.declared.activity.Activity.{Activity}
use Rattle.pl_plan.specs.Activities.{activity_of, placed}

-- each finds its id free when its turn comes
abbrev pub CanPut : List Activity → List Activity → Type 0
CanPut xs [] = Unit {0}
CanPut xs (a ∷ more) = (activity_of a.id xs ≡ None) × CanPut (placed a xs) more
