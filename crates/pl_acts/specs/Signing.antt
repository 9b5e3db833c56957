-- A machine with the authors of its entries.
use Rattle.std.specs.Prelude.{◌≡◌, ◌+◌, ◌<◌, List, [], ◌∷◌, ◌++◌, length, Result, Ok, Err, ◌⊎◌}
use Rattle.std.specs.List.{All}
use Rattle.pl_marks.specs.declared.author.Author.{Author}
use Rattle.pl_marks.specs.Marks.{Signed}
use Rattle.pl_entry.specs.declared.event.Event.{Event}
use Rattle.pl_entry.specs.declared.reply.Reply.{Reply}
use Rattle.pl_machine.specs.declared.stop.Stop.{Stop}
use Rattle.pl_machine.specs.declared.stop.Stop.TheVariants as stop
use Rattle.pl_machine.specs.declared.repaired.Repaired.{Repaired}
use Rattle.pl_machine.specs.Sound.{State}
use Rattle.pl_machine.specs.Solo.{Picks, Drawn}
use Rattle.pl_machine.specs.Taking.{Answers}
use Rattle.pl_machine.specs.Mending.{RepairsOnce}
use Rattle.pl_acts.specs.Items.{signed_on}
use Rattle.pl_acts.specs.Replicas.{IsReplica}

-- A machine, and who made its entries.
pub record Written : Type 0 where
  pub machine : State
  pub signs : Signed

-- Each entry was handed in or has an author.
pub record IsTied (w : Written) : Type 0 where
  pub some : 0 < w.signs.opening
  pub each : w.signs.opening + length w.signs.authors ≡ length w.machine.log

-- the same, with replicas
pub record IsWritten (replicas : List State) (w : Written) : Type 0 where
  pub behind : All (IsReplica w.machine) replicas
  pub tied : IsTied w

-- the last author is gone
abbrev pub TakesBack : Signed → Signed → Type 0
TakesBack old new = (authors : List Author) (author : Author) → old.authors ≡ authors ++ author ∷ [] → new ≡ record old { authors = authors }

-- the log and all marks are as they were
pub record HasSameLog (old new : Written) : Type 0 where
  pub log : new.machine.log ≡ old.machine.log
  pub model : new.machine.model ≡ old.machine.model
  pub signs : new.signs ≡ old.signs

-- An event as this author's. Memory may be wanting for the mark alone, which changes nothing.
abbrev pub SignedAnswers : Author → Written → Event → Result Reply Stop → Written → Type 0
SignedAnswers by old e (Ok r) new = Answers old.machine e (Ok r) new.machine × (new.signs ≡ signed_on by old.signs)
SignedAnswers by old e (Err stop.Memory) new = (Answers old.machine e (Err stop.Memory) new.machine × (new.signs ≡ old.signs)) ⊎ (new ≡ old)
SignedAnswers by old e (Err s) new = Answers old.machine e (Err s) new.machine × (new.signs ≡ old.signs)

-- one turn of repair as this author's
abbrev pub RepairsSigned : {C : Type 0} → Picks C → Drawn C → Author → Written → C → Result Repaired Stop → Written → C → Type 0
RepairsSigned picks drawn by old c (Ok done) new c2 = RepairsOnce picks drawn old.machine c (Ok done) new.machine c2 × (new.signs ≡ signed_on by old.signs)
RepairsSigned picks drawn by old c (Err stop.Memory) new c2 = (RepairsOnce picks drawn old.machine c (Err stop.Memory) new.machine c2 × (new.signs ≡ old.signs)) ⊎ ((new ≡ old) × (c2 ≡ c))
RepairsSigned picks drawn by old c (Err s) new c2 = RepairsOnce picks drawn old.machine c (Err s) new.machine c2 × (new.signs ≡ old.signs)
