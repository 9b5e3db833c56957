-- What one thread commits is what the executive chooses, once repair rests.
use Rattle.std.proofs.Common.{◌≡◌, ℕ, List, [], ◌∷◌, Bool, true, false, Option, Some, None, if◌then◌else◌, refl}
use Rattle.std.specs.Option.{option_map}
use Rattle.pl_model.specs.declared.whole.Model.{Model}
use Rattle.pl_entry.specs.declared.event.Event.{Event}
use Rattle.pl_entry.specs.declared.event.Event.TheVariants as event
use Rattle.pl_entry.specs.declared.entry.Entry.{Entry}
use Rattle.pl_entry.specs.declared.reply.Reason.{Reason}
use Rattle.pl_cand.specs.declared.proposal.Proposal.{Proposal}
use Rattle.pl_choose.specs.Picks.{least_pick}
use Rattle.pl_machine.specs.declared.choice.Choice.{Choice}
use Rattle.pl_machine.specs.declared.choice.Choice.TheVariants as choice
use Rattle.pl_machine.specs.World.{World, fresh_world, reason_of}
use Rattle.pl_machine.specs.Step.{after}
use Rattle.pl_machine.specs.Choices.{exec_choice_of, event_of}
use Rattle.pl_machine.specs.Legal.{options_of, entries_behind}
use Rattle.pl_main.specs.Solo.{repair_event, Rule, IsSoloEvent, IsAheadEvent, follows, FollowsAll}
use Rattle.pl_laws.specs.Laws.{IsChosen, chosen_from, AreCommitsChosen}

chosen_is : (o : Option Choice) (h : ℕ) → option_map event_of o ≡ Some (event.Commit h) → o ≡ Some (choice.Commit h)
chosen_is None h e = absurd (let d : None ≡ Some (event.Commit h) = e in (cc))
chosen_is (Some choice.Dispatch) h e = absurd (let d : Some event.Dispatch ≡ Some (event.Commit h) = e in (cc))
chosen_is (Some (choice.Commit k)) h e = (let d : Some (event.Commit k) ≡ Some (event.Commit h) = e in (cc))
chosen_is (Some choice.Close) h e = absurd (let d : Some event.Close ≡ Some (event.Commit h) = e in (cc))

never_repairs : (r : Option Reason) (p : Option Proposal) (h : ℕ) → repair_event r p ≡ Some (event.Commit h) → ⊥
never_repairs (Some r) p h e = (let d : Some event.Rest ≡ Some (event.Commit h) = e in (cc))
never_repairs None None h e = (let d : None ≡ Some (event.Commit h) = e in (cc))
never_repairs None (Some p) h e = (let d : Some (event.Fix p.conflict p.mv) ≡ Some (event.Commit h) = e in (cc))

at_rest : (b : Bool) (o : Option Choice) (r : Option Reason) (p : Option Proposal) (h : ℕ) → (if b then option_map event_of o else repair_event r p) ≡ Some (event.Commit h)
    → (b ≡ true) × (o ≡ Some (choice.Commit h))
at_rest true o r p h e = (refl, chosen_is o h e)
at_rest false o r p h e = absurd (never_repairs r p h e)

-- what a rule allows to one thread is what the executive chooses, where it is a commit
abbrev pub CommitsAsChosen : Rule → Type 0
CommitsAsChosen R = (w : World) (e : Event) → R w e → IsChosen w e

pub solo_commits : CommitsAsChosen IsSoloEvent
solo_commits w (event.Opened o) solo = tt
solo_commits w (event.Input line) solo = tt
solo_commits w (event.Fix k m) solo = tt
solo_commits w event.Rest solo = tt
solo_commits w (event.Commit h) solo = at_rest w.rested (exec_choice_of w) (reason_of w) (least_pick w.state) h solo
solo_commits w event.Dispatch solo = tt
solo_commits w event.Close solo = tt

pub ahead_commits : CommitsAsChosen IsAheadEvent
ahead_commits w (event.Opened o) ahead = tt
ahead_commits w (event.Input line) ahead = tt
ahead_commits w (event.Fix k m) ahead = tt
ahead_commits w event.Rest ahead = tt
ahead_commits w (event.Commit h) ahead = ahead
ahead_commits w event.Dispatch ahead = tt
ahead_commits w event.Close ahead = tt

all_chosen : (R : Rule) → CommitsAsChosen R → (w : World) (es : List Entry) → follows R w es → chosen_from w es
all_chosen R commits w [] on = tt
all_chosen R commits w (e ∷ es) on = (commits w e.event on.0, all_chosen R commits (after w e.event) es on.1)

pub rule_chosen : (R : Rule) → CommitsAsChosen R → (m : Model) (log : List Entry) → FollowsAll R m log → AreCommitsChosen m log
unfolding FollowsAll
rule_chosen R commits m log on = all_chosen R commits (fresh_world m (options_of log)) (entries_behind log) on
