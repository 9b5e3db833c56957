-- Temporal links of an activity that a move places, and whether they find a partner there.
use Rattle.std.specs.Prelude.{ℕ, ◌+◌, ◌-◌, Bool, true, false, filter, length, Option, Some, None}
use Rattle.std.specs.Option.{option_map}
use Rattle.pl_conflict.specs.declared.conflict.Conflict.{Conflict}
use Rattle.pl_links.specs.declared.placed.Placed.{Placed}
use Rattle.pl_links.specs.Broken.{lacks_partner, links_of}
use Rattle.pl_plan.specs.Firm.{end_of}
use Rattle.pl_semantics.specs.declared.plan_state.PlanState.{PlanState}
use Rattle.pl_semantics.specs.Conflicts.{conflicts_of}
use Rattle.pl_semantics.specs.Links.{placed_in}
use Rattle.pl_semantics.specs.Parts.{Part, part_of, of_goals, of_activities, of_links, of_timelines}

-- ---- how many find none

-- the same activity, moved to another start along with its end
abbrev pub placed_at : ℕ → Placed → Placed
placed_at start p = record p { start = start; end = option_map (λ e. (e + start) - p.start) p.end }

-- how many of its links have no partner among the live activities, once it starts there
abbrev pub count_of_lone : PlanState → ℕ → Placed → ℕ
count_of_lone s start p = length (filter (lacks_partner (placed_in s) (placed_at start p)) (links_of s.model p))

-- the same of an activity that is moved alone, or added, if there is one
abbrev pub lone_then : PlanState → ℕ → Option Placed → ℕ
lone_then s start None = 0
lone_then s start (Some p) = count_of_lone s start p

-- a root of this kind, with the end that it has in this plan
abbrev pub root_in : PlanState → ℕ → ℕ → ℕ → Placed
root_in t id kind start = record { id = id; kind = kind; start = start; end = end_of t.model t.plan.activities id; parent = None; detail = None }

-- ---- conflicts of links

abbrev pub is_link_part : Part → Bool
is_link_part of_goals = false
is_link_part of_activities = false
is_link_part of_links = true
is_link_part of_timelines = false

abbrev pub is_link : Conflict → Bool
is_link q = is_link_part (part_of q.code)

-- how many of them stand
abbrev pub count_of_links : PlanState → ℕ
count_of_links s = length (filter is_link (conflicts_of s))
