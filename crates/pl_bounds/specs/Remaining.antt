-- Conflicts of links that stand, and those of them that a move leaves.
use Rattle.std.specs.Prelude.{ℕ, ◌≤◌, ◌&&◌, not, Bool, false, List, [], ◌∷◌, Option, Some, None, filter, length, slice_get, option_and_then, option_to_list}
use Rattle.std.specs.List.{flat_map}
use Rattle.std.specs.Option.{option_map}
use Rattle.pl_conflict.specs.declared.conflict.Conflict.{Conflict}
use Rattle.pl_conflict.specs.declared.conflict.Code.{Code}
use Rattle.pl_conflict.specs.declared.conflict.Code.TheVariants.{Temporal, Linked}
use Rattle.pl_links.specs.Broken.{links_in}
use Rattle.pl_model.specs.declared.links.Link.{Link}
use Rattle.pl_plan.specs.declared.activity.Activity.{Activity}
use Rattle.pl_plan.specs.Index.{is_number}
use Rattle.pl_plan.specs.Trees.{parent_of, subtree_of}
use Rattle.pl_semantics.specs.declared.plan_state.PlanState.{PlanState}
use Rattle.pl_semantics.specs.Conflicts.{conflicts_of}
use Rattle.pl_semantics.specs.PlanStates.{among, found, of_found}
use Rattle.pl_bounds.specs.declared.link_conflicts.LinkConflict.{LinkConflict}

-- ---- what decides whether a move leaves it

abbrev pub kind_of_link : Link → ℕ
kind_of_link l = l.kind

-- the kind that the link of this index of an activity seeks
abbrev pub sought_by : PlanState → ℕ → Activity → Option ℕ
sought_by s index a = option_map kind_of_link (slice_get (links_in (slice_get s.model.kinds a.kind)) index)

-- the same of the activity of this id
abbrev pub kind_sought : PlanState → ℕ → ℕ → Option ℕ
kind_sought s id index = option_and_then (sought_by s index) (found s id)

abbrev pub with_kind : ℕ → ℕ → LinkConflict
with_kind id kind = record { subject = id; sought = Some kind }

abbrev pub temporal_one : PlanState → Conflict → Option LinkConflict
temporal_one s q = option_map (with_kind q.subject) (kind_sought s q.subject q.detail)

abbrev pub listed_by : PlanState → Conflict → Code → Option LinkConflict
listed_by s q Temporal = temporal_one s q
listed_by s q Linked = Some (record { subject = q.subject; sought = None })
listed_by s q _ = None

-- of a conflict of links: whose it is, and the kind that it seeks, if it is of a temporal link
abbrev pub listed : PlanState → Conflict → Option LinkConflict
listed s q = listed_by s q q.code

abbrev pub listed_if : PlanState → Conflict → List LinkConflict
listed_if s q = option_to_list (listed s q)

-- of all that stand
abbrev pub listed_links : PlanState → List LinkConflict
listed_links s = flat_map (listed_if s) (conflicts_of s)

-- ---- whether a move leaves it

-- a temporal link, where no activity is placed of the kind that it seeks; an order, where it is not of the parent of what moves or goes
abbrev pub is_not_mended : ℕ → List ℕ → Option ℕ → Option ℕ → Bool
is_not_mended subject kinds parent (Some kind) = not (among kind kinds)
is_not_mended subject kinds parent None = not (is_number subject parent)

-- its activity does not go, and what is placed does not mend it
abbrev pub is_left : List ℕ → List ℕ → Option ℕ → LinkConflict → Bool
is_left gone kinds parent k = not (among k.subject gone) && is_not_mended k.subject kinds parent k.sought

abbrev pub is_left_if : List ℕ → List ℕ → Option ℕ → Option LinkConflict → Bool
is_left_if gone kinds parent None = false
is_left_if gone kinds parent (Some k) = is_left gone kinds parent k

abbrev pub is_untouched : PlanState → List ℕ → List ℕ → Option ℕ → Conflict → Bool
is_untouched s gone kinds parent q = is_left_if gone kinds parent (listed s q)

-- how many of those that stand are left by a move that takes out these activities and places some of these kinds, where the uppermost has
-- this parent
abbrev pub count_of_untouched : PlanState → List ℕ → List ℕ → Option ℕ → ℕ
count_of_untouched s gone kinds parent = length (filter (is_untouched s gone kinds parent) (conflicts_of s))

-- ---- what a move places

abbrev pub kind_alone : Activity → List ℕ
kind_alone a = a.kind ∷ []

-- the kinds of the activities of these ids
abbrev pub kinds_of : PlanState → List ℕ → List ℕ
kinds_of s ids = flat_map (λ id. of_found kind_alone (found s id)) ids

-- no more than a shift of this activity leaves, with all that descends from it
abbrev pub IsLeftByShifting : PlanState → ℕ → ℕ → Type 0
IsLeftByShifting s id n = n ≤ count_of_untouched s (subtree_of id s.plan.activities) (kinds_of s (subtree_of id s.plan.activities)) (parent_of id s.plan.activities)
