-- Which activities are due, and in which order: those whose command is to be sent by now.
use Rattle.std.specs.Prelude.{◌≡◌, ℕ, ◌<◌, ◌≤◌, ◌==◌, ◌&&◌, nat_lt, nat_le, Bool, List, [], map, filter, length, Contains, AllPairs, ◌↔◌, Some, ◌⊎◌}
use Rattle.std.specs.List.{fold}
use Rattle.std.specs.declared.cmp.Ordering.{Ordering}
use Rattle.std.specs.Ordering.{nat_cmp, ordering_then}
use Rattle.std.specs.BTreeSet.{insert_key}
use Rattle.pl_model.specs.declared.whole.Model.{Model}
use Rattle.pl_plan.specs.declared.activity.Activity.{Activity}
use Rattle.pl_plan.specs.Activities.{activity_of}
use Rattle.pl_plan.specs.Fitting.{kind_of, alternatives_of}

-- committed, started by now, and of a kind without alternatives
pub record IsDue (model : Model) (now c : ℕ) (a : Activity) : Type 0 where
  pub committed : a.start < c
  pub started : a.start ≤ now
  pub basic : alternatives_of (kind_of model a) ≡ []

-- whether it is due
abbrev pub is_due : Model → ℕ → ℕ → Activity → Bool
is_due model now c a = nat_lt a.start c && (nat_le a.start now && (length (alternatives_of (kind_of model a)) == 0))

-- ---- in start order

-- a start with the id of its activity
abbrev pub start_of : Activity → ℕ × ℕ
start_of a = (a.start, a.id)

-- by start, and by id where starts are equal
abbrev pub start_cmp : ℕ × ℕ → ℕ × ℕ → Ordering
start_cmp x y = ordering_then (nat_cmp x.0 y.0) (nat_cmp x.1 y.1)

-- these starts too, each in its place
abbrev pub with_starts : List (ℕ × ℕ) → List (ℕ × ℕ) → List (ℕ × ℕ)
with_starts sorted starts = fold (insert_key start_cmp) sorted starts

-- the starts of the due activities, in order
abbrev pub due_starts : Model → List Activity → ℕ → ℕ → List (ℕ × ℕ)
due_starts model activities now c = with_starts [] (map start_of (filter (is_due model now c) activities))

-- the ids of the due activities, in start order
unfoldable pub due_of : Model → List Activity → ℕ → ℕ → List ℕ
due_of model activities now c = map (λ s. s.1) (due_starts model activities now c)

-- ---- as the present moves on

-- whether it is due, and started behind an earlier moment
abbrev pub is_due_since : Model → ℕ → ℕ → ℕ → Activity → Bool
is_due_since model before now c a = nat_lt before a.start && is_due model now c a

abbrev pub starts_since : Model → List Activity → ℕ → ℕ → ℕ → List (ℕ × ℕ)
starts_since model activities before now c = with_starts [] (map start_of (filter (is_due_since model before now c) activities))

-- the ids of those that come to be due, in start order
unfoldable pub due_since : Model → List Activity → ℕ → ℕ → ℕ → List ℕ
due_since model activities before now c = map (λ s. s.1) (starts_since model activities before now c)

-- ---- what the list means

abbrev pub StartsBefore : Activity → Activity → Type 0
StartsBefore a b = (a.start < b.start) ⊎ ((a.start ≡ b.start) × (a.id < b.id))

-- exactly the ids of the due activities, each before those that start later
pub record AreDue (model : Model) (activities : List Activity) (now c : ℕ) (ids : List ℕ) : Type 0 where
  pub members : (id : ℕ) → Contains ids id ↔ ((a : Activity) × (activity_of id activities ≡ Some a) × IsDue model now c a)
  pub order : AllPairs (λ x y. (a b : Activity) → activity_of x activities ≡ Some a → activity_of y activities ≡ Some b → StartsBefore a b) ids
