-- What timelines hold, as sums. A list in whatever order is all its sums: so many of each item, whatever is counted.
use Rattle.std.specs.Prelude.{◌≡◌, ℕ, ◌==◌, Bool, false, List, slice_get, Option, Some, None, ℤ, pos, ◌+ℤ◌, ◌≤ℤ◌, if◌then◌else◌}
use Rattle.pl_points.specs.Sums.{total}
use Rattle.pl_capacity.specs.Uses.{same_use}
use Rattle.pl_level.specs.Effects.{same_effect}
use Rattle.pl_state.specs.Sets.{same_setting}
use Rattle.pl_state.specs.Musts.{same_must}
use Rattle.pl_semantics.specs.declared.demand.Demand.{Demand}
use Rattle.pl_semantics.specs.declared.demand.Asked.{Asked}
use Rattle.pl_semantics.specs.declared.demand.Asked.TheVariants as asked
use Rattle.pl_update.specs.declared.timelines.line.Line.{Line}
use Rattle.pl_update.specs.declared.timelines.line.Line.TheVariants.{Capacity, Level, States}

-- what a timeline holds, each item counting as f says
abbrev pub held : (Asked → ℤ) → Line → ℤ
held f (Capacity c) = total (λ u. f (asked.Use u)) c.uses
held f (Level l) = total (λ e. f (asked.Effect e)) l.effects
held f (States x) = total (λ y. f (asked.Set y)) x.sets +ℤ total (λ m. f (asked.Must m)) x.musts

abbrev pub held_in : (Asked → ℤ) → Option Line → ℤ
held_in f None = pos 0
held_in f (Some l) = held f l

-- the same of the timeline of this number
abbrev pub held_at : List Line → ℕ → (Asked → ℤ) → ℤ
held_at lines line f = held_in f (slice_get lines line)

-- a demand counted as f says, where it is one of this timeline
abbrev pub part_at : ℕ → (Asked → ℤ) → Demand → ℤ
part_at line f d = if d.line == line then f d.asked else pos 0

-- what demands ask of a timeline, each counting as f says
abbrev pub asked_at : List Demand → ℕ → (Asked → ℤ) → ℤ
asked_at ds line f = total (part_at line f) ds

-- the timelines hold exactly what these demands ask for, in whatever order
abbrev pub Hold : List Line → List Demand → Type 0
Hold lines ds = (line : ℕ) (f : Asked → ℤ) → held_at lines line f ≡ asked_at ds line f

-- ---- so many

abbrev pub same_asked : Asked → Asked → Bool
same_asked (asked.Use u) (asked.Use v) = same_use u v
same_asked (asked.Effect u) (asked.Effect v) = same_effect u v
same_asked (asked.Set u) (asked.Set v) = same_setting u v
same_asked (asked.Must u) (asked.Must v) = same_must u v
same_asked _ _ = false

-- counts the items like this one
abbrev pub alike : Asked → Asked → ℤ
alike x y = if same_asked y x then pos 1 else pos 0

-- counts every item
abbrev pub one : Asked → ℤ
one x = pos 1

-- the timelines hold what these demands ask for, each as often as it is asked
abbrev pub HoldAll : List Line → List Demand → Type 0
HoldAll lines ds = (line : ℕ) (x : Asked) → asked_at ds line (alike x) ≤ℤ held_at lines line (alike x)

-- there is room for them
abbrev pub HaveRoom : List Line → List Demand → Type 0
HaveRoom lines ds = (line : ℕ) → (held_at lines line one +ℤ asked_at ds line one) ≤ℤ pos 320000
