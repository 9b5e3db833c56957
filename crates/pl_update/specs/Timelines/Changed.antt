-- What one change makes of a timeline, and of the conflicts that it has.
use Rattle.std.specs.Prelude.{◌≡◌, ℕ, true, not, ◌&&◌, ◌||◌, List, ℤ, pos, ◌+ℤ◌, ◌≤ℤ◌, neg_ℤ}
use Rattle.pl_conflict.specs.declared.conflict.Conflict.{Conflict}
use Rattle.pl_conflict.specs.Order.{has}
use Rattle.pl_semantics.specs.declared.plan_state.PlanState.{PlanState}
use Rattle.pl_semantics.specs.declared.demand.Demand.{Demand}
use Rattle.pl_semantics.specs.declared.demand.Asked.{Asked}
use Rattle.pl_update.specs.declared.timelines.line.Line.{Line}
use Rattle.pl_update.specs.Timelines.Held.{held, held_at, part_at, alike, one}
use Rattle.pl_update.specs.Timelines.Framed.{bare, IsOrdered}
use Rattle.pl_update.specs.Timelines.Told.{wrong_with}
use Rattle.pl_update.specs.Timelines.Named.{IsNamedAs, HoldsNamed}

-- from one list of conflicts to another: what went was there, what came is there, and nothing else changed
pub record IsExchanged (old new went came : List Conflict) : Type 0 where
  pub members : (q : Conflict) → has q new ≡ ((has q old && not (has q went)) || has q came)
  pub left : (q : Conflict) → has q went ≡ true → has q old ≡ true
  pub arrived : (q : Conflict) → has q came ≡ true → has q new ≡ true

-- the timeline of this number changed by something that is asked of it, and its conflicts by what went and came
pub record IsLineChanged (s : PlanState) (line : ℕ) (x : Asked) (by : (Asked → ℤ) → ℤ) (l l' : Line) (went came : List Conflict) : Type 0 where
  pub frame : bare l' ≡ bare l
  pub ordered : IsOrdered l → IsOrdered l'
  pub held : (f : Asked → ℤ) → held f l' ≡ held f l +ℤ by f
  pub named : IsNamedAs s line x → HoldsNamed s line l → HoldsNamed s line l'
  pub exchanged : IsExchanged (wrong_with s line l) (wrong_with s line l') went came

-- one thing more, or less, each counting as f says
abbrev pub more_by : Asked → (Asked → ℤ) → ℤ
more_by x f = f x

abbrev pub less_by : Asked → (Asked → ℤ) → ℤ
less_by x f = neg_ℤ (f x)

-- such a thing stands
abbrev pub HasOne : Line → Asked → Type 0
HasOne l x = pos 1 ≤ℤ held (alike x) l

-- there is room for one more
abbrev pub HasRoom : Line → Type 0
HasRoom l = (held one l +ℤ pos 1) ≤ℤ pos 320000

-- what one demand asks of a timeline, and so much less
abbrev pub just : Demand → ℕ → (Asked → ℤ) → ℤ
just d line f = part_at line f d

abbrev pub less_just : Demand → ℕ → (Asked → ℤ) → ℤ
less_just d line f = neg_ℤ (part_at line f d)

-- there is room on its timeline for a demand
abbrev pub HasRoomFor : List Line → Demand → Type 0
HasRoomFor lines d = (held_at lines d.line one +ℤ pos 1) ≤ℤ pos 320000

-- its timeline holds what a demand asks
abbrev pub HoldsOne : List Line → Demand → Type 0
HoldsOne lines d = pos 1 ≤ℤ held_at lines d.line (alike d.asked)
