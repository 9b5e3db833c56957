-- What is done to the plan inside a turn.
use Rattle.std.specs.Prelude.{◌≡◌, ◌<◌, ◌≤◌, ℕ, List, [], ◌∷◌, ◌++◌, length, drop, Bool, true, false, not, ◌&&◌, ◌||◌, Option, Some, None, is_some, Result, Ok, Err, ◌⊎◌}
use Rattle.pl_marks.specs.declared.author.Author.{Author}
use Rattle.pl_model.specs.Checked.{IsChecked}
use Rattle.pl_entry.specs.declared.event.Event.{Event}
use Rattle.pl_entry.specs.declared.event.Event.TheVariants as event
use Rattle.pl_entry.specs.declared.reply.Reply.{Reply}
use Rattle.pl_entry.specs.declared.reply.Reply.TheVariants as reply
use Rattle.pl_entry.specs.declared.entry.Entry.{Entry}
use Rattle.pl_machine.specs.declared.stop.Stop.{Stop}
use Rattle.pl_machine.specs.declared.stop.Stop.TheVariants as stop
use Rattle.rand_pcg.specs.Lcg.{Lcg}
use Rattle.pl_cand.specs.declared.proposal.Proposal.{Proposal}
use Rattle.pl_choose.specs.Picks.{seeded_pick, seeded_after}
use Rattle.pl_machine.specs.World.{World, plain_reason_of, reason_of}
use Rattle.pl_machine.specs.Choices.{exec_choice_of}
use Rattle.pl_machine.specs.Mending.{is_repairing}
use Rattle.pl_machine.specs.Step.{is_enabled, reply_of}
use Rattle.pl_machine.specs.Legal.{Legal, IsHistory, world_of}
use Rattle.pl_machine.specs.Sound.{State}
use Rattle.pl_acts.specs.declared.noted.Noted.{Noted}
use Rattle.pl_acts.specs.declared.held.Held.{Held}
use Rattle.pl_acts.specs.declared.role.Acted.{Acted}
use Rattle.pl_acts.specs.declared.role.Acted.TheVariants as acted
use Rattle.pl_acts.specs.declared.part.Part.{Part}
use Rattle.pl_acts.specs.Items.{Signs, signed_on, items_of}
use Rattle.pl_acts.specs.Signing.{Written, IsTied}
use Rattle.pl_acts.specs.declared.role.Role.TheVariants.{Executive}
use Rattle.pl_acts.specs.declared.look.Looked.{Looked}
use Rattle.pl_acts.specs.declared.look.Looked.TheVariants as looked
use Rattle.pl_acts.specs.Roles.{has_event, IsChosen, IsInputOf}
use Rattle.pl_acts.specs.Replicas.{IsDraft}
use Rattle.pl_acts.specs.Sights.{AsksIn}

-- what there is beside the log
abbrev pub signs_in : Held → Signs
signs_in h = record { by = h.plan.signs; stopper = h.stopper }

abbrev pub items_in : Held → List Noted
items_in h = items_of h.plan.machine.model h.plan.machine.log (signs_in h)

-- The model is checked, the log is legal, and a machine stands for the world after it; a spoiled one but for the plan state. Each entry was handed in or has an author.
pub record IsSound (w : Written) : Type 0 where
  pub legal : Legal w.machine.model w.machine.log
  pub others : w.machine.world ≡ record (world_of w.machine.model w.machine.log) { state = w.machine.world.state }
  pub history : w.machine.spoiled ≡ false → IsHistory w.machine.model w.machine.log w.machine.world
  pub checked : IsChecked w.machine.model
  pub tied : IsTied w

-- the entry is a step of the world
abbrev pub IsStepIn : World → Entry → Type 0
IsStepIn w e = (is_enabled w e.event ≡ true) × (e.reply ≡ reply_of w e.event)

-- An unspoiled plan that was not stopped got this entry, which the author made.
pub record Logs (By : World → Entry → Type 0) (author : Author) (old new : Held) (number : ℕ) : Type 0 where
  pub entry : Entry
  pub unspoiled : old.plan.machine.spoiled ≡ false
  pub going : is_some old.stopper ≡ false
  pub log : new.plan.machine.log ≡ old.plan.machine.log ++ entry ∷ []
  pub model : new.plan.machine.model ≡ old.plan.machine.model
  pub signs : new.plan.signs ≡ signed_on author old.plan.signs
  pub same : new.stopper ≡ old.stopper
  pub place : number ≡ length old.plan.machine.log
  pub step : IsStepIn old.plan.machine.world entry
  pub by : By old.plan.machine.world entry

-- nothing was logged
pub record KeepsLog (old new : Held) : Type 0 where
  pub log : new.plan.machine.log ≡ old.plan.machine.log
  pub model : new.plan.machine.model ≡ old.plan.machine.model
  pub signs : new.plan.signs ≡ old.plan.signs
  pub same : new.stopper ≡ old.stopper

-- memory was wanting
abbrev pub Spoiled : Held → Held → Type 0
Spoiled old new = (old.plan.machine.spoiled ≡ false) × KeepsLog old new × (new.plan.machine.spoiled ≡ true)

-- memory was wanting for an event, which spoils the machine, or for a signature or a replica, which changes nothing
abbrev pub Wants : Held → Held → Type 0
Wants old new = Spoiled old new ⊎ ((old.plan.machine.spoiled ≡ false) × (new ≡ old))

abbrev pub IsFull : State → Type 0
IsFull m = m.world.options.entries ≤ length m.log

-- one more entry may follow
abbrev pub HasRoom : State → Type 0
HasRoom m = length m.log < m.world.options.entries

-- whether the plan goes no further: memory was wanting, the input has ended, or the plan was stopped
abbrev pub is_over : Held → Bool
is_over h = h.plan.machine.spoiled || (h.plan.machine.world.done || is_some h.stopper)

-- whether a message is taken: between rounds, and before the end of the input and the stop
abbrev pub can_listen : World → Bool → Bool
can_listen w stopped = (w.closed && not w.done) && not stopped

-- Spoiled, NotNow and LogFull come in this order, exactly by their causes, and change nothing.
abbrev pub FeedsIn : Author → Option (List ℕ) → Held → Result ℕ Stop → Held → Type 0
FeedsIn by line old (Ok number) new = Logs (IsInputOf line) by old new number
FeedsIn by line old (Err stop.Spoiled) new = (old.plan.machine.spoiled ≡ true) × (new ≡ old)
FeedsIn by line old (Err stop.NotNow) new = (old.plan.machine.spoiled ≡ false) × (can_listen old.plan.machine.world (is_some old.stopper) ≡ false) × (new ≡ old)
FeedsIn by line old (Err stop.LogFull) new = (old.plan.machine.spoiled ≡ false) × (can_listen old.plan.machine.world (is_some old.stopper) ≡ true) × IsFull old.plan.machine × (new ≡ old)
FeedsIn by line old (Err stop.Memory) new = Wants old new

-- the entries from this number on, and where the plan stands behind them
pub record IsPart (from : ℕ) (h : Held) (part : Part) : Type 0 where
  pub entries : part.entries ≡ drop from h.plan.machine.log
  pub closed : part.closed ≡ h.plan.machine.world.closed
  pub done : part.done ≡ h.plan.machine.world.done
  pub stopped : part.stopped ≡ is_some h.stopper

-- an unspoiled plan before the end of the input and the stop
pub record IsGoing (h : Held) : Type 0 where
  pub unspoiled : h.plan.machine.spoiled ≡ false
  pub going : h.plan.machine.world.done ≡ false
  pub running : is_some h.stopper ≡ false

-- what an executive does
abbrev pub Executes : World → Entry → Type 0
Executes w e = IsChosen (exec_choice_of w) e.event

-- Each answer comes exactly by its cause, in this order: Spoiled, Finished, Stopped, Nothing, LogFull. All of them but the entry and want of memory change nothing; want of memory for the event spoils the machine.
abbrev pub ExecutesIn : Author → Held → Result Acted Stop → Held → Type 0
ExecutesIn by old (Ok (acted.Did number)) new = Logs Executes by old new number × (old.plan.machine.world.done ≡ false) × (has_event Executive old.plan.machine.world ≡ true)
ExecutesIn by old (Ok acted.Nothing) new = IsGoing old × (has_event Executive old.plan.machine.world ≡ false) × (new ≡ old)
ExecutesIn by old (Ok acted.Finished) new = (old.plan.machine.spoiled ≡ false) × (old.plan.machine.world.done ≡ true) × (new ≡ old)
ExecutesIn by old (Ok acted.Stopped) new = (old.plan.machine.spoiled ≡ false) × (old.plan.machine.world.done ≡ false) × (is_some old.stopper ≡ true) × (new ≡ old)
ExecutesIn by old (Err stop.Spoiled) new = (old.plan.machine.spoiled ≡ true) × (new ≡ old)
ExecutesIn by old (Err stop.NotNow) new = ⊥
ExecutesIn by old (Err stop.LogFull) new = IsGoing old × (has_event Executive old.plan.machine.world ≡ true) × IsFull old.plan.machine × (new ≡ old)
ExecutesIn by old (Err stop.Memory) new = Wants old new

-- ---- a planner looks, and settles

-- repair rests for a reason that is told without a look at candidates
abbrev pub RestsAtOnce : World → Entry → Type 0
RestsAtOnce w e = (e.event ≡ event.Rest) × (is_some (plain_reason_of w) ≡ true)

-- What a look finds, exactly by its cause, in this order: Spoiled, Finished, Stopped, Nothing, LogFull, a rest for a plain reason, and else a replica to be asked about.
abbrev pub LooksIn : Author → Held → Result Looked Stop → Held → Type 0
LooksIn by old (Ok (looked.Settled (acted.Did number))) new = Logs RestsAtOnce by old new number × (old.plan.machine.world.done ≡ false) × (is_repairing old.plan.machine.world ≡ true)
LooksIn by old (Ok (looked.Settled acted.Nothing)) new = IsGoing old × (is_repairing old.plan.machine.world ≡ false) × (new ≡ old)
LooksIn by old (Ok (looked.Settled acted.Finished)) new = (old.plan.machine.spoiled ≡ false) × (old.plan.machine.world.done ≡ true) × (new ≡ old)
LooksIn by old (Ok (looked.Settled acted.Stopped)) new = (old.plan.machine.spoiled ≡ false) × (old.plan.machine.world.done ≡ false) × (is_some old.stopper ≡ true) × (new ≡ old)
LooksIn by old (Ok (looked.Open draft)) new = IsGoing old × AsksIn old.plan.machine.world × HasRoom old.plan.machine × IsDraft old.plan.machine draft × (new ≡ old)
LooksIn by old (Err stop.Spoiled) new = (old.plan.machine.spoiled ≡ true) × (new ≡ old)
LooksIn by old (Err stop.NotNow) new = ⊥
LooksIn by old (Err stop.LogFull) new = IsGoing old × (is_repairing old.plan.machine.world ≡ true) × IsFull old.plan.machine × (new ≡ old)
LooksIn by old (Err stop.Memory) new = Wants old new

-- What a planner makes with what its chooser proposed before: that, while turns are left. Without a proposal the chooser is asked again
-- where nothing tells repair to rest, and what it proposes then is made.
abbrev pub Settles : Lcg → Option Proposal → Lcg → World → Event → Reply → Type 0
Settles g p g2 w (event.Fix k m) answer =
    ((p ≡ Some (record { conflict = k; mv = m })) × (g2 ≡ g))
    ⊎ ((p ≡ None) × (seeded_pick w.state g ≡ Some (record { conflict = k; mv = m })) × (g2 ≡ seeded_after g) × (answer ≡ reply.Done))
Settles g p g2 w event.Rest answer = ((p ≡ None) ⊎ (w.turn ≡ w.options.turns)) × (g2 ≡ g)
Settles g p g2 w _ answer = ⊥

-- Finished, Stopped, Nothing and LogFull come in this order behind Spoiled, exactly by their causes, and change nothing.
abbrev pub SettlesIn : Author → Lcg → Option Proposal → Held → Result Acted Stop → Lcg → Held → Type 0
SettlesIn by g p old (Ok (acted.Did number)) g2 new = Logs (λ w e. Settles g p g2 w e.event e.reply) by old new number × (old.plan.machine.world.done ≡ false) × (is_repairing old.plan.machine.world ≡ true)
SettlesIn by g p old (Ok acted.Nothing) g2 new = IsGoing old × (is_repairing old.plan.machine.world ≡ false) × (new ≡ old) × (g2 ≡ g)
SettlesIn by g p old (Ok acted.Finished) g2 new = (old.plan.machine.spoiled ≡ false) × (old.plan.machine.world.done ≡ true) × (new ≡ old) × (g2 ≡ g)
SettlesIn by g p old (Ok acted.Stopped) g2 new = (old.plan.machine.spoiled ≡ false) × (old.plan.machine.world.done ≡ false) × (is_some old.stopper ≡ true) × (new ≡ old) × (g2 ≡ g)
SettlesIn by g p old (Err stop.Spoiled) g2 new = (old.plan.machine.spoiled ≡ true) × (new ≡ old) × (g2 ≡ g)
SettlesIn by g p old (Err stop.NotNow) g2 new = ⊥
SettlesIn by g p old (Err stop.LogFull) g2 new = IsGoing old × (is_repairing old.plan.machine.world ≡ true) × IsFull old.plan.machine × (new ≡ old) × (g2 ≡ g)
SettlesIn by g p old (Err stop.Memory) g2 new = Wants old new × ((g2 ≡ g) ⊎ ((p ≡ None) × (is_repairing old.plan.machine.world ≡ true) × (reason_of old.plan.machine.world ≡ None) × (g2 ≡ seeded_after g)))

-- ---- a planner repairs in the turn in which it looks

-- Repair goes on in an unspoiled plan that was not stopped, nothing but candidates can tell whether it is to rest, and one more entry may follow.
pub record MayRepair (h : Held) : Type 0 where
  pub going : IsGoing h
  pub asks : AsksIn h.plan.machine.world
  pub room : HasRoom h.plan.machine

-- What the chooser proposes is made. Where it proposes nothing repair rests.
abbrev pub RepairsAtOnce : Lcg → Lcg → World → Event → Reply → Type 0
RepairsAtOnce g g2 w (event.Fix k m) answer = (seeded_pick w.state g ≡ Some (record { conflict = k; mv = m })) × (answer ≡ reply.Done) × (g2 ≡ seeded_after g)
RepairsAtOnce g g2 w event.Rest answer = (seeded_pick w.state g ≡ None) × (g2 ≡ seeded_after g)
RepairsAtOnce g g2 w _ answer = ⊥

-- One entry is made. Memory may be wanting, and then the chooser was asked once at most.
abbrev pub RepairsIn : Author → Lcg → Held → Result Looked Stop → Lcg → Held → Type 0
RepairsIn by g old (Ok (looked.Settled (acted.Did number))) g2 new = Logs (λ w e. RepairsAtOnce g g2 w e.event e.reply) by old new number
RepairsIn by g old (Ok (looked.Settled acted.Nothing)) g2 new = ⊥
RepairsIn by g old (Ok (looked.Settled acted.Finished)) g2 new = ⊥
RepairsIn by g old (Ok (looked.Settled acted.Stopped)) g2 new = ⊥
RepairsIn by g old (Ok (looked.Open draft)) g2 new = ⊥
RepairsIn by g old (Err stop.Spoiled) g2 new = ⊥
RepairsIn by g old (Err stop.NotNow) g2 new = ⊥
RepairsIn by g old (Err stop.LogFull) g2 new = ⊥
RepairsIn by g old (Err stop.Memory) g2 new = Wants old new × ((g2 ≡ g) ⊎ (g2 ≡ seeded_after g))

-- a look, or a repair in its place
abbrev pub LooksOrRepairs : Author → Lcg → Held → Result Looked Stop → Lcg → Held → Type 0
LooksOrRepairs by g old answer g2 new = (LooksIn by old answer new × (g2 ≡ g)) ⊎ (MayRepair old × RepairsIn by g old answer g2 new)
