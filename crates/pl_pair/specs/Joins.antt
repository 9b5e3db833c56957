-- What remains of a run once its workers are joined.
use Rattle.std.specs.Prelude.{◌≡◌, ◌≤◌, ◌+◌, ℕ, List, [], ◌++◌, length, map, Option, Some, None, true}
use Rattle.std.specs.List.{All}
use mathlib.Core.List.{IsPrefix}
use Rattle.pl_turn.specs.Passes.{seen_of, mine_of, crew_of, leads, made_by, joined_by}
use Rattle.pl_model.specs.declared.whole.Model.{Model}
use Rattle.pl_machine.specs.declared.stop.Stop.{Stop}
use Rattle.pl_acts.specs.declared.noted.Noted.{Noted}
use Rattle.pl_locked.specs.declared.plan.SharedPlan.{SharedPlan}
use Rattle.pl_locked.specs.Plans.{PlanPass, BelongsTo}
use Rattle.pl_input.specs.Places.{Place}
use Rattle.pl_pair.specs.declared.duty.Duty.{Duty}
use Rattle.pl_pair.specs.declared.worker.Worker.{Worker}
use Rattle.pl_pair.specs.declared.endings.Met.{Met}
use Rattle.pl_pair.specs.declared.pairing.Remains.{Remains}
use Rattle.pl_marks.specs.Authors.{IsAuthor}
use Rattle.pl_pair.specs.Duties.{begun_of, author_of}
use Rattle.pl_pair.specs.Served.{IsServed}
use Rattle.pl_pair.specs.Endings.{met_by}
use Rattle.pl_pair.specs.declared.hands.Hands.{Hands}
use Rattle.pl_pair.specs.Workers.{AreHands, duties_of}
use Rattle.pl_pair.specs.Feeds.{FeedsToEnd}

-- A pass of the plan that has made nothing yet.
pub record IsFresh (plan : SharedPlan) (pass : PlanPass) : Type 0 where
  pub own : BelongsTo plan pass
  pub new : mine_of pass ≡ []

-- The plan's first pass, behind which no other was split off.
pub record IsFirst (plan : SharedPlan) (pass : PlanPass) : Type 0 where
  pub fresh : IsFresh plan pass
  pub first : leads pass ≡ true
  pub alone : made_by pass ≡ 0
  pub none : joined_by pass ≡ []

-- a worker of this duty is to have seen no more than the pass has, and its number is a planner's
abbrev pub HasBegun : PlanPass → Duty → Type 0
HasBegun pass d = (begun_of d ≤ length (seen_of pass)) × IsAuthor (author_of d)

-- So many passes were split off from it.
pub record Splits (old : PlanPass) (count : ℕ) (new : PlanPass) : Type 0 where
  pub seen : seen_of new ≡ seen_of old
  pub crew : crew_of new ≡ record (crew_of old) { made = made_by old + count }

-- ---- what workers hand back

abbrev pub refusals : List Worker → List (Option Stop)
refusals workers = map (λ (w : Worker). w.refusal) workers

abbrev pub passes_of : List Worker → List PlanPass
passes_of workers = map (λ (w : Worker). w.pass) workers

abbrev pub duties_in : List Worker → List Duty
duties_in workers = map (λ (w : Worker). w.duty) workers

abbrev pub own_lists_of : List Worker → List (List (ℕ × Noted))
own_lists_of workers = map (λ (w : Worker). mine_of w.pass) workers

-- all that the worker has seen stands in these items
abbrev pub HasSeenIn : List Noted → Worker → Type 0
HasSeenIn items w = IsPrefix (seen_of w.pass) items

-- The workers were joined: each is one of the plan. The pass has taken theirs in, in order.
pub record JoinsAll (plan : SharedPlan) (workers : List Worker) (old new : PlanPass) : Type 0 where
  pub each : All (IsServed plan) workers
  pub own : BelongsTo plan new
  pub crew : crew_of new ≡ record (crew_of old) { joined = joined_by old ++ own_lists_of workers }
  pub longer : IsPrefix (seen_of old) (seen_of new)
  pub begins : All (HasSeenIn (seen_of new)) workers
  pub mine : mine_of new ≡ mine_of old

-- The workers that were hired for these duties were joined, and met this all together.
pub record JoinsTeam (plan : SharedPlan) (duties : List Duty) (old : PlanPass) (met : Met) (new : PlanPass) : Type 0 where
  pub workers : List Worker
  pub hired : duties_in workers ≡ duties
  pub joins : JoinsAll plan workers old new
  pub together : met ≡ met_by (refusals workers)

-- A worker was hired for each of these duties, with a pass of its own.
pub record Hires (plan : SharedPlan) (old : PlanPass) (duties : List Duty) (new : PlanPass) (all : Hands) : Type 0 where
  pub fresh : IsFresh plan new
  pub splits : Splits old (length duties) new
  pub hands : AreHands plan all
  pub hired : duties_of all ≡ duties

-- The feeder fed the plan up to its end, from this pass on, and the workers that were hired for these duties were joined.
pub record Feeds (plan : SharedPlan) (model : Model) (begun : PlanPass) (duties : List Duty) (start : Place) (held : Option (List ℕ)) (remains : Remains) (behind : Place) (now : Option (List ℕ)) : Type 0 where
  pub mid : PlanPass
  pub own : BelongsTo plan mid
  pub feeds : FeedsToEnd plan model begun start held remains.fed mid behind now
  pub team : JoinsTeam plan duties mid remains.met remains.pass

-- The same, once a pass was split off for each duty.
pub record Joins (plan : SharedPlan) (model : Model) (pass : PlanPass) (duties : List Duty) (start : Place) (held : Option (List ℕ)) (remains : Remains) (behind : Place) (now : Option (List ℕ)) : Type 0 where
  pub begun : PlanPass
  pub splits : Splits pass (length duties) begun
  pub feeds : Feeds plan model begun duties start held remains behind now

-- Want of memory before a thread was started changes nothing.
abbrev pub JoinsIf : SharedPlan → Model → PlanPass → List Duty → Place → Option (List ℕ) → Option Remains → Place → Option (List ℕ) → Type 0
JoinsIf plan model pass duties start held (Some remains) behind now = Joins plan model pass duties start held remains behind now
JoinsIf plan model pass duties start held None behind now = (behind ≡ start) × (now ≡ held)
