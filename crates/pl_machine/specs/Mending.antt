-- One turn of repair: what a chooser proposes is made, or repair rests.
use Rattle.std.specs.Prelude.{◌≡◌, ◌≤◌, List, [], ◌∷◌, ◌++◌, length, Bool, true, false, not, ◌&&◌, Option, Some, None, Result, Ok, Err, ◌⊎◌}
use Rattle.pl_entry.specs.declared.event.Event.TheVariants as event
use Rattle.pl_entry.specs.declared.reply.Reply.TheVariants as reply
use Rattle.pl_entry.specs.declared.entry.Entry.{Entry}
use Rattle.pl_semantics.specs.Legal.{is_stuck}
use Rattle.pl_cand.specs.declared.proposal.Proposal.{Proposal}
use Rattle.pl_cand.specs.Proposals.{IsProposal}
use Rattle.pl_machine.specs.declared.ahead.Ahead.{Ahead}
use Rattle.pl_machine.specs.declared.change.Change.TheVariants.{Repair}
use Rattle.pl_machine.specs.Calm.{ahead_after}
use Rattle.pl_machine.specs.declared.stop.Stop.{Stop}
use Rattle.pl_machine.specs.declared.stop.Stop.TheVariants as stop
use Rattle.pl_machine.specs.declared.repaired.Repaired.{Repaired}
use Rattle.pl_machine.specs.declared.repaired.Repaired.TheVariants as repaired
use Rattle.pl_machine.specs.World.{World, reason_of}
use Rattle.pl_machine.specs.Sound.{State}
use Rattle.pl_machine.specs.Taking.{IsOpen, Takes, Spoils}
use Rattle.pl_machine.specs.Solo.{Picks, Drawn}

-- the round is open, and repair does not rest in it
abbrev pub is_repairing : World → Bool
is_repairing w = not w.closed && not w.rested

-- only want of memory stops the repair that a chooser makes on an unspoiled machine
abbrev pub Stops : State → Stop → State → Type 0
Stops old stop.Memory new = (old.spoiled ≡ false) × Spoils old new
Stops old stop.NotNow new = ⊥
Stops old stop.LogFull new = ⊥
Stops old stop.Spoiled new = ⊥

-- the log after a repair that was made, if one was
abbrev pub logged : Option Proposal → List Entry → List Entry
logged None log = log
logged (Some p) log = log ++ record { event = event.Fix p.conflict p.mv; reply = reply.Done } ∷ []

-- what is still known of the starts ahead after it
abbrev pub ahead_behind : Option Proposal → Ahead → Ahead
ahead_behind None ahead = ahead
ahead_behind (Some p) ahead = ahead_after (Repair p.mv) ahead

-- A chooser made the next repair, and the log has it. Where no conflict has a legal candidate there is none, and all is as it was.
abbrev pub HasMended : {C : Type 0} → Picks C → State → C → Option Proposal → State → C → Type 0
HasMended picks old c None new c2 = (is_stuck old.world.state ≡ true) × (new ≡ old) × (c2 ≡ c)
HasMended picks old c (Some p) new c2 = picks c old.world.state (Some p) c2 × IsProposal old.world.state (Some p) × IsOpen old (event.Fix p.conflict p.mv)
    × Takes old (event.Fix p.conflict p.mv) reply.Done new

-- The chooser is as it was, or it was asked once, where repair goes on.
abbrev pub IsAskedAtMost : {C : Type 0} → Drawn C → World → C → C → Type 0
IsAskedAtMost drawn w c c2 = (c2 ≡ c) ⊎ ((is_repairing w ≡ true) × (reason_of w ≡ None) × drawn c c2)

-- Without a reason to rest the chooser's proposal is made. With one repair rests for it, and the chooser stays as it was.
abbrev pub HasRepaired : {C : Type 0} → Picks C → State → C → Repaired → State → C → Type 0
HasRepaired picks old c (repaired.Fixed p) new c2 = (reason_of old.world ≡ None) × picks c old.world.state (Some p) c2 × IsProposal old.world.state (Some p)
    × IsOpen old (event.Fix p.conflict p.mv) × Takes old (event.Fix p.conflict p.mv) reply.Done new
HasRepaired picks old c (repaired.Rested reason) new c2 = (reason_of old.world ≡ Some reason) × IsOpen old event.Rest × Takes old event.Rest (reply.Rested reason) new × (c2 ≡ c)

-- Spoiled, NotNow and LogFull come in this order, exactly by their causes, and change nothing. Where memory is wanting the chooser
-- may have been asked.
abbrev pub RepairsOnce : {C : Type 0} → Picks C → Drawn C → State → C → Result Repaired Stop → State → C → Type 0
RepairsOnce picks drawn old c (Ok done) new c2 = HasRepaired picks old c done new c2
RepairsOnce picks drawn old c (Err stop.Spoiled) new c2 = (old.spoiled ≡ true) × (new ≡ old) × (c2 ≡ c)
RepairsOnce picks drawn old c (Err stop.NotNow) new c2 = (old.spoiled ≡ false) × (is_repairing old.world ≡ false) × (new ≡ old) × (c2 ≡ c)
RepairsOnce picks drawn old c (Err stop.LogFull) new c2 = (old.spoiled ≡ false) × (is_repairing old.world ≡ true) × (old.world.options.entries ≤ length old.log) × (new ≡ old) × (c2 ≡ c)
RepairsOnce picks drawn old c (Err stop.Memory) new c2 = (old.spoiled ≡ false) × Spoils old new × IsAskedAtMost drawn old.world c c2
