-- Time that passes, and links and orders that it settles.
use Rattle.std.specs.Prelude.{◌≡◌, ℕ, ◌≤◌, nat_le, nat_lt, ◌&&◌, Bool, List, filter, take_while}
use Rattle.pl_conflict.specs.declared.conflict.Conflict.{Conflict}
use Rattle.pl_conflict.specs.Order.{has}
use Rattle.pl_semantics.specs.declared.plan_state.PlanState.{PlanState}
use Rattle.pl_semantics.specs.Parts.{part_of, of_links}
use Rattle.pl_semantics.specs.Links.{link_conflicts}
use Rattle.pl_update.specs.Links.Owned.{is_of_links}

-- the second state is the first one at a later present, or with more of it committed
pub record IsBefore (s t : PlanState) : Type 0 where
  pub same : t ≡ record s { moment = t.moment; committed = t.committed }
  pub present : s.moment ≤ t.moment
  pub horizon : s.committed ≤ t.committed

-- whether an activity that starts at this moment is committed and has started
abbrev pub is_settled : PlanState → ℕ → Bool
is_settled s moment = nat_le moment s.moment && nat_lt moment s.committed

abbrev pub is_of_part : Conflict → Bool
is_of_part k = is_of_links k.code

-- of the conflicts that begin where activities are settled, those of links and orders
unfoldable pub passed : PlanState → List Conflict → List Conflict
passed s conflicts = filter is_of_part (take_while (λ k. is_settled s k.from) conflicts)

-- the list has exactly the conflicts of links and orders of the state
abbrev pub ShowsLinks : PlanState → List Conflict → Type 0
ShowsLinks s conflicts = (q : Conflict) → part_of q.code ≡ of_links → has q conflicts ≡ has q (link_conflicts s)
