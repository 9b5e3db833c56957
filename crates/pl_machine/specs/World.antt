-- A world: the plan state, and where the round stands.
use Rattle.std.specs.Prelude.{ℕ, List, [], ◌∷◌, Bool, true, false, ◌==◌, Option, Some, None}
use Rattle.pl_model.specs.declared.whole.Model.{Model}
use Rattle.pl_conflict.specs.declared.conflict.Conflict.{Conflict}
use Rattle.pl_facts.specs.declared.options.Options.{Options}
use Rattle.pl_entry.specs.declared.reply.Reason.{Reason}
use Rattle.pl_entry.specs.declared.reply.Reason.TheVariants as reason
use Rattle.pl_entry.specs.Due.{due_of}
use Rattle.pl_semantics.specs.declared.plan_state.PlanState.{PlanState}
use Rattle.pl_semantics.specs.Conflicts.{conflicts_of}
use Rattle.pl_semantics.specs.Legal.{is_stuck}
use Rattle.pl_update.specs.Changes.Changes.{first_state}

pub record World : Type 0 where
  pub state : PlanState
  pub options : Options
  -- the ids of the activities whose commands were sent, in the order in which they were
  pub dispatched : List ℕ
  -- the repairs of this round
  pub turn : ℕ
  -- repair is over in this round
  pub rested : Bool
  -- a commit of this round was held, and no repair was made since
  pub held : Bool
  pub closed : Bool
  pub done : Bool
  -- what was committed and had not begun was withdrawn, and the present has not moved on since
  pub halted : Bool

-- nothing planned, between rounds
abbrev pub fresh_world : Model → Options → World
fresh_world m o = record { state = first_state m o.live; options = o; dispatched = []; turn = 0; rested = false; held = false; closed = true; done = false; halted = false }

-- the ids of the activities whose commands are to be sent by now, in start order
abbrev pub due_in : PlanState → List ℕ
due_in s = due_of s.model s.plan.activities s.moment s.committed

-- those that were to be sent by an earlier moment
abbrev pub due_at : ℕ → PlanState → List ℕ
due_at before s = due_of s.model s.plan.activities before s.committed

abbrev pub reason_by : List Conflict → (spent stuck : Bool) → Option Reason
reason_by [] spent stuck = Some reason.Clear
reason_by (k ∷ ks) true stuck = Some reason.Spent
reason_by (k ∷ ks) false true = Some reason.Stuck
reason_by (k ∷ ks) false false = None

-- why repair is to rest, as far as this is known without a look at candidates
abbrev pub plain_reason_of : World → Option Reason
plain_reason_of w = reason_by (conflicts_of w.state) (w.turn == w.options.turns) false

-- Why repair is to rest, if it is to: no conflict is left, else the turns are spent, else no candidate of any conflict is legal.
abbrev pub reason_of : World → Option Reason
reason_of w = reason_by (conflicts_of w.state) (w.turn == w.options.turns) (is_stuck w.state)
