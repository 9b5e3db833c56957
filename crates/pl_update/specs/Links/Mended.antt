-- What a change of a plan state does to the conflicts of links and orders.
use Rattle.std.specs.Prelude.{◌≡◌, true, ◌&&◌, ◌||◌, not, List}
use Rattle.pl_conflict.specs.declared.conflict.Conflict.{Conflict}
use Rattle.pl_conflict.specs.Order.{has}
use Rattle.pl_semantics.specs.declared.plan_state.PlanState.{PlanState}
use Rattle.pl_semantics.specs.Parts.{part_of, of_links}
use Rattle.pl_semantics.specs.Links.{link_conflicts}

-- The first state's conflicts of links and orders, without what went and with what came, are the second one's. Nothing
-- went or came but such conflicts.
pub record MendsLinks (s t : PlanState) (went came : List Conflict) : Type 0 where
  pub went_of_links : (q : Conflict) → has q went ≡ true → part_of q.code ≡ of_links
  pub came_of_links : (q : Conflict) → has q came ≡ true → part_of q.code ≡ of_links
  pub mended : (q : Conflict) → has q (link_conflicts t) ≡ ((has q (link_conflicts s) && not (has q went)) || has q came)

-- the same conflicts of links and orders stand
abbrev pub KeepsLinks : PlanState → PlanState → Type 0
KeepsLinks s t = link_conflicts t ≡ link_conflicts s
