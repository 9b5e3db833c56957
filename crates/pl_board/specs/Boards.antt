-- What a board is seen as, and what holds of it.
use Rattle.std.specs.Prelude.{◌≡◌, Bool, false}
use Rattle.pl_links.specs.Kept.{kept_of}
use Rattle.pl_update.specs.Timelines.Framed.{AreLinesOf}
use Rattle.pl_semantics.specs.declared.plan_state.PlanState.{PlanState}
use Rattle.pl_semantics.specs.Whole.{IsWhole}
use Rattle.pl_semantics.specs.Links.{placed_in}
use Rattle.pl_semantics.specs.Conflicts.{conflicts_of}
use Rattle.pl_update.specs.Evaluations.Kept.{AreOf}
use Rattle.pl_memo.specs.declared.memory.Memory.{Memory}
use Rattle.pl_memo.specs.Memories.{AreRemembered}
use Rattle.pl_board.specs.declared.watched.WatchedState.{WatchedState}

pub record Standing : Type 0 where
  pub spoiled : Bool
  pub state : PlanState

-- a whole plan state: what its activities come to is kept, its timelines hold what they ask for, the store has them all, and the conflicts are all that is wrong
pub record IsWatched (w : WatchedState) : Type 0 where
  pub whole : IsWhole w.state
  pub values : AreOf w.state w.values
  pub timelines : AreLinesOf w.state w.lines
  pub store : w.links ≡ kept_of w.state.model (placed_in w.state)
  pub found : w.conflicts ≡ conflicts_of w.state

pub record IsSound (w : WatchedState) (memory : Memory) (spoiled : Bool) : Type 0 where
  pub watched : spoiled ≡ false → IsWatched w
  pub remembered : spoiled ≡ false → AreRemembered w.state memory

-- an unspoiled board of this state
abbrev pub after : PlanState → Standing
after s = record { spoiled = false; state = s }
