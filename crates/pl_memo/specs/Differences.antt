-- How the activities of a plan differ from those of an earlier one.
use Rattle.std.specs.Prelude.{◌≡◌, ◌⊎◌, ℕ, true, List, [], ◌∷◌, Option, Some, None, is_some, if◌then◌else◌}
use Rattle.std.specs.Option.{option_or}
use Rattle.std.specs.List.{fold}
use Rattle.pl_plan.specs.declared.activity.Activity.{Activity}
use Rattle.pl_plan.specs.Activities.{AreRising, activity_of, placed, without}
use Rattle.pl_memo.specs.declared.difference.Difference.{Difference}

-- what stands under an id once this difference is made to the earlier plan
abbrev pub shown : List Activity → Difference → ℕ → Option Activity
shown earlier d id = option_or (activity_of id d.placed) (if is_some (activity_of id d.gone) then None else activity_of id earlier)

pub record IsDifference (earlier activities : List Activity) (d : Difference) : Type 0 where
  pub gone_rises : AreRising d.gone
  pub placed_rises : AreRising d.placed
  -- what is gone stood in the earlier plan just so
  pub was : (id : ℕ) (a : Activity) → activity_of id d.gone ≡ Some a → activity_of id earlier ≡ Some a
  -- what is placed under an id of the earlier plan stands in the place of what is gone
  pub instead : (id : ℕ) (a b : Activity) → activity_of id d.placed ≡ Some a → activity_of id earlier ≡ Some b → is_some (activity_of id d.gone) ≡ true
  pub shows : (id : ℕ) → activity_of id activities ≡ shown earlier d id

abbrev pub no_difference : Difference
no_difference = record { gone = []; placed = [] }

-- ---- how it changes with the plan

-- an activity of the plan leaves it
abbrev pub leaving : Difference → Activity → Difference
leaving d a = if is_some (activity_of a.id d.placed) then record d { placed = without a.id d.placed } else record d { gone = placed a d.gone }

-- an activity comes into the plan: if just this one is gone, it may be taken out of what is gone; else it is one more that is placed
abbrev pub Comes : Difference → Activity → Difference → Type 0
Comes d a e = ((activity_of a.id d.gone ≡ Some a) × (e ≡ record d { gone = without a.id d.gone })) ⊎ (e ≡ record d { placed = placed a d.placed })

-- others come one after another
abbrev pub AllCome : Difference → List Activity → Difference → Type 0
AllCome d [] e = e ≡ d
AllCome d (a ∷ more) e = (c : Difference) × Comes d a c × AllCome c more e

-- some leave, and then others come
abbrev pub IsChangedBy : List Activity → List Activity → Difference → Difference → Type 0
IsChangedBy leave come d e = AllCome (fold leaving d leave) come e

-- each is found when its turn comes
abbrev pub CanLeave : List Activity → List Activity → Type 0
CanLeave activities [] = Unit {0}
CanLeave activities (a ∷ more) = (activity_of a.id activities ≡ Some a) × CanLeave (without a.id activities) more
