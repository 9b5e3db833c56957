-- What is known of moves that place the same activities at other starts.
use Rattle.std.specs.Prelude.{ℕ, ◌+◌, ◌≤◌, None, IfSome, All}
use Rattle.pl_plan.specs.declared.repair.RepairMove.{RepairMove}
use Rattle.pl_semantics.specs.declared.plan_state.PlanState.{PlanState}
use Rattle.pl_semantics.specs.Moves.{applied}
use Rattle.pl_moves.specs.Changes.{gone_by, placed_by}
use Rattle.pl_moves.specs.Runs.{CanBeMade, start_of}
use Rattle.pl_bounds.specs.Asked.{IsAlike, IsAskedBy}
use Rattle.pl_bounds.specs.Orders.{unmet_then}
use Rattle.pl_bounds.specs.Plain.{count_of_plain}
use Rattle.pl_bounds.specs.Steps.{IsAdditionOf}
use Rattle.pl_bounds.specs.Ties.{lone_then, count_of_links}
use Rattle.pl_bounds.specs.Windows.{or_one_more}
use Rattle.pl_bounds.specs.declared.known.Known.{Known}
use Rattle.pl_bounds.specs.declared.runs.Run.{Run}

-- how many conflicts of goals and activities the move that starts then leaves at least
abbrev pub steady_then : Known → ℕ → ℕ
steady_then k start = or_one_more k.window start k.steady

-- Of each move alike that can be made: how many conflicts of goals and activities it leaves at least, how many conflicts of links that
-- stand, with those of an activity whose links find no partner at the move's start and with those of its parent's orders that are not
-- met then, and what it asks for, if that is known.
pub record IsKnownOf (s : PlanState) (k : Known) : Type 0 where
  pub steady : (m : RepairMove) → CanBeMade s m → IsAlike k.first m → steady_then k (start_of m) ≤ count_of_plain (applied s m)
  pub links : (m : RepairMove) → CanBeMade s m → IsAlike k.first m → k.untouched + lone_then s (start_of m) k.alone + unmet_then s (start_of m) k.alone ≤ count_of_links (applied s m)
  pub asking : IfSome k.asking (λ a. (m : RepairMove) → CanBeMade s m → IsAlike k.first m → IsAskedBy s (gone_by s m) (placed_by s m) a (start_of m))

-- no more than such a number
abbrev pub only_steady : RepairMove → ℕ → Known
only_steady first n = record { first = first; steady = n; window = None; untouched = 0; alone = None; asking = None }

-- what is known of its moves, and what they add at limits of timelines
pub record IsRunOf (s : PlanState) (r : Run) : Type 0 where
  pub known : IsKnownOf s r.known
  pub additions : IfSome r.known.asking (λ a. All (IsAdditionOf a) r.additions.items)
