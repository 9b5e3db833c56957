-- How activities stand in trees: each may have a parent.
use Rattle.std.specs.Prelude.{◌≡◌, ℕ, zero, suc, ◌<◌, ◌==◌, ◌||◌, Bool, false, List, map, filter, All, Option, Some, None, IfSome, unwrap_or, option_and_then}
use Rattle.std.specs.Option.{option_map}
use Rattle.pl_plan.specs.declared.activity.Activity.{Activity}
use Rattle.pl_plan.specs.Activities.{activity_of, IsLive}
use Rattle.pl_plan.specs.Index.{is_number}

abbrev pub id_of : Activity → ℕ
id_of a = a.id

-- ---- parents

-- a parent that is named is live and has a smaller id
abbrev pub IsParented : List Activity → Activity → Type 0
IsParented activities a = IfSome a.parent (λ p. IsLive p.0 activities × (p.0 < a.id))

pub record IsRooted (activities : List Activity) : Type 0 where
  pub parents : All (IsParented activities) activities

abbrev pub parent_id : Option (ℕ × ℕ) → Option ℕ
parent_id None = None
parent_id (Some p) = Some p.0

abbrev pub parent_in : Activity → Option ℕ
parent_in a = parent_id a.parent

-- the id of the parent of the activity of this id
abbrev pub parent_of : ℕ → List Activity → Option ℕ
parent_of id activities = option_and_then parent_in (activity_of id activities)

-- What a rule gives for an id from what it gives for the parent, if there is one. A parent's id is smaller, so the id
-- itself bounds the steps.
abbrev pub climbed : {R : Type 0} → (ℕ → Option R → R) → ℕ → List Activity → ℕ → R
climbed rule zero activities id = rule id None
climbed rule (suc n) activities id = rule id (option_map (λ p. climbed rule n activities p) (parent_of id activities))

unfoldable pub climb : {R : Type 0} → (ℕ → Option R → R) → List Activity → ℕ → R
climb rule activities id = climbed rule id activities id

-- ---- children

abbrev pub is_child : ℕ → Activity → Bool
is_child id a = is_number id (parent_in a)

-- the ids of those whose parent this one is, by rising id
abbrev pub children_of : ℕ → List Activity → List ℕ
children_of id activities = map id_of (filter (is_child id) activities)

-- ---- roots and subtrees

-- the id itself where it has no parent, else the root of the parent
abbrev pub root_rule : ℕ → Option ℕ → ℕ
root_rule id above = unwrap_or above id

abbrev pub root_of : ℕ → List Activity → ℕ
root_of id activities = climb root_rule activities id

-- each activity descends from itself, and from what its parent descends from
pub data Descends (activities : List Activity) (top : ℕ) : ℕ → Type 0 where
  itself : Descends activities top top
  child : (id parent : ℕ) → parent_of id activities ≡ Some parent → Descends activities top parent → Descends activities top id

abbrev pub descent_rule : ℕ → ℕ → Option Bool → Bool
descent_rule top id above = (id == top) || unwrap_or above false

-- whether it descends
abbrev pub descends : List Activity → ℕ → ℕ → Bool
descends activities top id = climb (descent_rule top) activities id

-- the ids of all that descend from this one, by rising id
unfoldable pub subtree_of : ℕ → List Activity → List ℕ
subtree_of top activities = filter (descends activities top) (map id_of activities)
