-- Where an id stands among activities, and where it would go.
use Rattle.std.specs.Prelude.{◌≡◌, ◌≢◌, All, ℕ, ◌<◌, ◌≤◌, List, Some, None, length, slice_index_or, slice_set}
use Rattle.std.specs.List.{insert, remove}
use Rattle.pl_plan.specs.declared.activity.Activity.{Activity}
use Rattle.pl_plan.specs.Activities.{activity_of, placed, without, exchanged}

-- the activity of this id stands here
pub record IsPlaceOf (id : ℕ) (activities : List Activity) (at : ℕ) : Type 0 where
  pub in_range : at < length activities
  pub here : (d : Activity) → activity_of id activities ≡ Some (slice_index_or activities at d)
  pub present : All (λ a. a.id ≢ id) activities → ⊥
  pub is : (d : Activity) → (slice_index_or activities at d).id ≡ id
  pub taken : without id activities ≡ remove activities at
  pub changed : (a : Activity) → a.id ≡ id → exchanged a activities ≡ slice_set activities at a

-- no activity has this id, and one of it would go here
pub record IsGapFor (id : ℕ) (activities : List Activity) (at : ℕ) : Type 0 where
  pub in_range : at ≤ length activities
  pub none : activity_of id activities ≡ None
  pub absent : All (λ a. a.id ≢ id) activities
  pub same : without id activities ≡ activities
  pub put : (a : Activity) → a.id ≡ id → placed a activities ≡ insert activities at a
