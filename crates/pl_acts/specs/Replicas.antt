-- A second machine that makes the events of a plan's log again, so that a chooser can be asked on it outside the turn.
use Rattle.std.specs.Prelude.{◌≡◌, List, ◌∷◌, ◌++◌, length, false, Some, IfSome, is_some}
use mathlib.Core.List.{IsPrefix}
use Rattle.pl_model.specs.declared.whole.Model.{Model}
use Rattle.pl_entry.specs.declared.entry.Entry.{Entry}
use Rattle.rand_pcg.specs.Lcg.{Lcg}
use Rattle.pl_cand.specs.Proposals.{IsProposal}
use Rattle.pl_choose.specs.Picks.{seeded_pick}
use Rattle.pl_machine.specs.Legal.{Legal, world_of}
use Rattle.pl_machine.specs.Sound.{State}
use Rattle.pl_acts.specs.declared.noted.Noted.{Noted}
use Rattle.pl_acts.specs.declared.draft.Draft.{Draft}
use Rattle.pl_acts.specs.declared.sight.Sight.{Sight}
use Rattle.pl_acts.specs.Items.{Signs, items_of, model_in, entries_in}

-- An unspoiled machine of this model with this log.
pub record HasLog (m : Model) (es : List Entry) (machine : State) : Type 0 where
  pub unspoiled : machine.spoiled ≡ false
  pub model : machine.model ≡ m
  pub log : machine.log ≡ es

-- An unspoiled machine of the same model, whose log begins that of `m`.
pub record IsReplica (m other : State) : Type 0 where
  pub unspoiled : other.spoiled ≡ false
  pub model : other.model ≡ m.model
  pub begins : IsPrefix other.log m.log

-- the log of a replica, and the entries that it has not made
abbrev pub log_of : Draft → List Entry
log_of draft = draft.replica.log ++ draft.entries

-- A replica, and the rest of the log.
pub record IsDraft (m : State) (draft : Draft) : Type 0 where
  pub replica : IsReplica m draft.replica
  pub log : log_of draft ≡ m.log

-- the entry goes on from this log in a legal one
abbrev pub IsNext : Model → List Entry → Entry → Type 0
IsNext m log e = (more : List Entry) × Legal m (log ++ e ∷ more)

-- A chooser was asked in the world after this log, and the machine on which it was asked comes with what it proposed.
pub record IsAsked (g : Lcg) (m : Model) (es : List Entry) (sight : Sight) : Type 0 where
  pub seen : sight.seen ≡ length es
  pub picks : sight.proposal ≡ seeded_pick (world_of m es).state g
  pub legal : IsProposal (world_of m es).state sight.proposal
  pub replica : IfSome sight.replica (HasLog m es)

-- ---- to a caller outside the lock

-- An unspoiled machine of the history's model, with whose log the history's entries begin.
pub record IsReplicaOf (items : List Noted) (other : State) : Type 0 where
  pub unspoiled : other.spoiled ≡ false
  pub model : model_in items ≡ Some other.model
  pub begins : IsPrefix other.log (entries_in items)

-- A replica, and the rest of the legal log of which these are the items, behind which the plan was not stopped.
pub record IsDraftOf (items : List Noted) (draft : Draft) : Type 0 where
  pub signs : Signs
  pub unspoiled : draft.replica.spoiled ≡ false
  pub going : is_some signs.stopper ≡ false
  pub legal : Legal draft.replica.model (log_of draft)
  pub is : items ≡ items_of draft.replica.model (log_of draft) signs
