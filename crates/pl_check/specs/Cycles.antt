-- Graphs by the list of each vertex's successors, their walks, and the vertices that reach themselves. A successor that is no
-- vertex leads nowhere.
use Rattle.std.specs.Prelude.{◌≡◌, ℕ, zero, suc, ◌+◌, ◌<◌, nat_lt, ◌&&◌, Bool, true, false, not, List, [], ◌∷◌, Option, Some, None, length, slice_index_or, count_by, find, Contains, if◌then◌else◌}

abbrev pub Graph : Type 0
Graph = List (List ℕ)

abbrev pub successors : Graph → ℕ → List ℕ
successors graph a = slice_index_or graph a []

-- a walk of so many edges
abbrev pub Walk : Graph → ℕ → ℕ → ℕ → Type 0
Walk graph a zero b = a ≡ b
Walk graph a (suc n) b = (c : ℕ) × Walk graph a n c × Contains (successors graph c) b

-- one edge or more lead from the one vertex to the other
pub record Reaches (graph : Graph) (a b : ℕ) : Type 0 where
  pub edges : ℕ
  pub walk : Walk graph a (suc edges) b

-- none of the vertices below this one reaches itself
pub record IsAcyclicBelow (graph : Graph) (n : ℕ) : Type 0 where
  pub each : (a : ℕ) → a < n → Reaches graph a a → ⊥

-- no vertex reaches itself
abbrev pub IsAcyclic : Graph → Type 0
IsAcyclic graph = IsAcyclicBelow graph (length graph)

-- the first vertex that reaches itself
pub record IsFirstCyclic (graph : Graph) (a : ℕ) : Type 0 where
  pub vertex : a < length graph
  pub cyclic : Reaches graph a a
  pub earlier : IsAcyclicBelow graph a

-- ---- marks, one for each vertex

abbrev pub is_marked : List Bool → ℕ → Bool
is_marked marks b = slice_index_or marks b false

-- a vertex that is not marked
abbrev pub is_unmarked : List Bool → ℕ → Bool
is_unmarked marks b = nat_lt b (length marks) && not (is_marked marks b)

abbrev pub unmarked : List Bool → ℕ
unmarked marks = count_by not marks

-- the first that is there
abbrev pub first_of : {X : Type 0} → Option X → Option X → Option X
first_of (Some x) later = Some x
first_of None later = later

-- of the row the first vertex that is not marked
abbrev pub unmarked_in : List Bool → List ℕ → Option ℕ
unmarked_in marks row = find (is_unmarked marks) row

-- of the vertex with this row, if it is marked
abbrev pub unmarked_after : List Bool → ℕ → List ℕ → Option ℕ
unmarked_after marks a row = if is_marked marks a then unmarked_in marks row else None

-- of the first vertex that has one, the rows beginning with that of this vertex
abbrev pub unmarked_from : List Bool → ℕ → Graph → Option ℕ
unmarked_from marks a [] = None
unmarked_from marks a (row ∷ rows) = first_of (unmarked_after marks a row) (unmarked_from marks (a + 1) rows)

-- an unmarked vertex to which an edge leads from the start or from a marked vertex
unfoldable pub next_of : Graph → ℕ → List Bool → Option ℕ
next_of graph start marks = first_of (unmarked_in marks (successors graph start)) (unmarked_from marks 0 graph)

-- what is marked is reached from the start
pub record AreReached (graph : Graph) (start : ℕ) (marks : List Bool) : Type 0 where
  pub each : (b : ℕ) → is_marked marks b ≡ true → Reaches graph start b

-- each vertex that is reached is marked
pub record IsComplete (graph : Graph) (start : ℕ) (marks : List Bool) : Type 0 where
  pub each : (b : ℕ) → b < length marks → Reaches graph start b → is_marked marks b ≡ true
