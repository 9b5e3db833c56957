-- The fault of the first alternative without a schedule.
use Rattle.std.specs.Prelude.{◌≡◌, ℕ, ℤ, List, Some, All, take, slice_get}
use Rattle.pl_stn.specs.declared.net.Net.{Net}
use Rattle.pl_stn.specs.Nets.{IsSolution, IsNegativeCycle, HasNoSolution}
use Rattle.pl_check.specs.declared.fault.ModelFault.{ModelFault}
use Rattle.pl_check.specs.declared.fault.ModelFault.TheVariants as fault
use Rattle.pl_check.specs.declared.schedule.Schedule.{Schedule}
use Rattle.pl_check.specs.declared.schedule.Schedule.TheVariants.{Offsets, Cycle}
use Rattle.pl_check.specs.declared.drafts.DraftAlternative.{DraftAlternative}
use Rattle.pl_check.specs.declared.drafts.DraftKind.{DraftKind}
use Rattle.pl_check.specs.Names.{Name}
use Rattle.pl_check.specs.Networks.{span_of, net_of}

abbrev pub IfOffsets : Schedule → (List ℕ → Type 0) → Type 0
IfOffsets (Offsets offsets) P = P offsets
IfOffsets (Cycle cycle) P = Unit {0}

abbrev pub IfCycle : Schedule → (List ℕ → Type 0) → Type 0
IfCycle (Offsets offsets) P = Unit {0}
IfCycle (Cycle cycle) P = P cycle

-- a negative cycle of a network without a solution
abbrev pub IsConflict : Net → List ℕ → Type 0
IsConflict net cycle = IsNegativeCycle net cycle × HasNoSolution net

abbrev pub HasSchedule : List (ℤ × ℤ) → ℤ × ℤ → DraftAlternative → Type 0
HasSchedule spans own a = (times : List ℤ) × IsSolution (net_of spans own a) times

-- each alternative of the kind has a schedule
abbrev pub IsScheduled : ℤ → List (ℤ × ℤ) → DraftKind → Type 0
IsScheduled horizon spans k = All (HasSchedule spans (span_of horizon k)) k.alternatives

-- of a kind the first alternative without a schedule, and a negative cycle of its network
pub record IsFirstConflict (spans : List (ℤ × ℤ)) (own : ℤ × ℤ) (kind : DraftKind) (name : Name) (number : ℕ) (cycle : List ℕ) : Type 0 where
  pub alternative : DraftAlternative
  pub found : slice_get kind.alternatives number ≡ Some alternative
  pub earlier : All (HasSchedule spans own) (take number kind.alternatives)
  pub conflict : IsConflict (net_of spans own alternative) cycle
  pub named : name ≡ kind.name

-- the first kind with such an alternative
pub record IsFirstUnscheduled (horizon : ℤ) (spans : List (ℤ × ℤ)) (kinds : List DraftKind) (name : Name) (number : ℕ) (cycle : List ℕ) : Type 0 where
  pub place : ℕ
  pub kind : DraftKind
  pub found : slice_get kinds place ≡ Some kind
  pub earlier : All (IsScheduled horizon spans) (take place kinds)
  pub first : IsFirstConflict spans (span_of horizon kind) kind name number cycle

abbrev pub IsUnscheduledIn : List (ℤ × ℤ) → ℤ × ℤ → DraftKind → ModelFault → Type 0
IsUnscheduledIn spans own kind (fault.NoSchedule name number cycle) = IsFirstConflict spans own kind name number cycle
IsUnscheduledIn spans own kind fault.Memory = Unit {0}
IsUnscheduledIn spans own kind _ = ⊥

abbrev pub IsUnscheduledFault : ℤ → List (ℤ × ℤ) → List DraftKind → ModelFault → Type 0
IsUnscheduledFault horizon spans kinds (fault.NoSchedule name number cycle) = IsFirstUnscheduled horizon spans kinds name number cycle
IsUnscheduledFault horizon spans kinds fault.Memory = Unit {0}
IsUnscheduledFault horizon spans kinds _ = ⊥
