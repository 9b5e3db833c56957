-- Differences that give other ids to the newest activities, all of them roots, and change nothing else.
use Rattle.std.specs.Prelude.{◌≡◌, ℕ, ◌==◌, List, ◌∷◌, ◌++◌, None, if◌then◌else◌}
use Rattle.pl_lists.specs.Lists.{Pairwise}
use Rattle.pl_plan.specs.declared.activity.Activity.{Activity}
use Rattle.pl_plan.specs.declared.repair.RepairMove.{RepairMove}
use Rattle.pl_plan.specs.Activities.{AreRising}
use Rattle.pl_renumbering.specs.Renumbered.{renumbered_move}
use Rattle.pl_memo.specs.declared.difference.Difference.{Difference}

-- two roots that are the same but for their ids
pub record AreTwins (a b : Activity) : Type 0 where
  pub same : record a { id = 0 } ≡ record b { id = 0 }
  pub root : a.parent ≡ None

-- What is placed stands behind the rest of the activities, and what is gone stood there too. In their order, each that is placed is the
-- twin of one that is gone.
pub record OnlyRenames (d : Difference) (activities : List Activity) : Type 0 where
  pub rest : List Activity
  pub is : activities ≡ rest ++ d.placed
  pub rises : AreRising (rest ++ d.gone)
  pub twins : Pairwise AreTwins d.gone d.placed

-- the id that stands for this one: that of the twin, where it has one
abbrev pub renamed : List Activity → List Activity → ℕ → ℕ
renamed (g ∷ gone) (p ∷ placed) id = if g.id == id then p.id else renamed gone placed id
renamed _ _ id = id

abbrev pub renamed_move : Difference → RepairMove → RepairMove
renamed_move d m = renumbered_move (renamed d.gone d.placed) m
